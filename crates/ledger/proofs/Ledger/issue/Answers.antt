-- `Ledger::issue` asks the questions 18 to 21 in turn; where the invariant holds every token is live, and one more stands last.
use Prim.Native.Nat.{◌+◌, ◌<◌}
use mathlib.Core.Path.{◌≡◌, sym, ◌∙◌}
use mathlib.Core.Bool.{true, ◌&&◌}
use native.Mathlib.Omega.{arith}
use borrow.Author.Rules.{rules}
use borrow.Author.Tests.{le-leb, lt-leb, lt-ltb, le-ltb}
use lib.ListN.{length}
use lib.Dec.{leb}
use Rattle.sets.specs.Quantifiers.{all_in}
use Rattle.sets.specs.Bits.{non_empty}
use Rattle.emergency.specs.Tokens.{tokens_of, token_places}
use Rattle.ledger.specs.State.{view}
use Rattle.ledger_model.specs.Questions.{first_no, last_minute}
use Rattle.ledger_model.specs.Calls.{issued}
use Rattle.ledger_model.proofs.Soundness.{live_all, sound_issue}
use Rattle.ledger.proofs.CallLaws.{refuses, changes, shape_held}
use Rattle.ledger.proofs.Ledger.issue.Goals.{Else-minutes-self, Else-len-ge-PLACES}
use Rattle.ledger.proofs.Ledger.issue.Goals.{then-minutes-lt1-via-then-minutes-lt1, then-minutes-lt1-via-else-minutes-lt1+then-minutes-gt-LONGEST, then-minutes-lt1-via-else-minutes-lt1+else-minutes-gt-LONGEST+then-minutes-self}
use Rattle.ledger.proofs.Ledger.issue.Goals as goal

pub returns-then-states-eq0 : goal.returns-then-states-eq0
unfolding issued first_no all_in
returns-then-states-eq0 c invariant = refuses invariant (rw c.if-states-eq0.true)

pub returns-then-minutes-lt1 : goal.returns-then-minutes-lt1
unfolding issued first_no all_in
returns-then-minutes-lt1 c invariant =
    let args = c.args in
    let l = args.self.now in
    elim c.then-minutes-lt1.branch [
      | then-minutes-lt1-via-then-minutes-lt1 w ↦
          refuses invariant (rw (lt-ltb 0 args.states (omega arith), lt-leb 1 args.minutes (omega arith)))
      | then-minutes-lt1-via-else-minutes-lt1+then-minutes-gt-LONGEST w ↦
          refuses invariant
          (rw (
            lt-ltb 0 args.states (omega arith),
            le-leb 1 args.minutes (omega arith),
            lt-leb args.minutes 240 (omega arith),
          ))
      | then-minutes-lt1-via-else-minutes-lt1+else-minutes-gt-LONGEST+then-minutes-self w ↦
          refuses invariant
          (rw (
            lt-ltb 0 args.states (omega arith),
            le-leb 1 args.minutes (omega arith),
            le-leb args.minutes 240 (omega arith),
            lt-leb (l.clock + args.minutes) last_minute (omega arith),
          ))
    ]

-- past the questions 18 and 19
in_time :
    (c : Else-minutes-self) → let args = c.args in
    (non_empty args.states ≡ true)
    × (leb 1 args.minutes && leb args.minutes 240 && leb (args.self.now.clock + args.minutes) last_minute ≡ true)
in_time c =
    let args = c.args in (
      lt-ltb 0 args.states (omega arith),
      rw (
        le-leb 1 args.minutes (omega arith),
        le-leb args.minutes 240 (omega arith),
        le-leb (args.self.now.clock + args.minutes) last_minute (omega arith),
      ),
    )

pub returns-then-has_number : goal.returns-then-has_number
unfolding issued first_no all_in
returns-then-has_number c invariant =
    let (e, f) = in_time (goal.at.returns-then-has_number c).Else-minutes-self in
    refuses invariant (rw (e, f, live_all _ invariant.model, sym c.has_number.ensures ∙ c.if-has_number.true))

pub returns-then-len-ge-PLACES : goal.returns-then-len-ge-PLACES
unfolding issued first_no all_in
returns-then-len-ge-PLACES c invariant =
    let (e, f) = in_time (goal.at.returns-then-len-ge-PLACES c).Else-minutes-self in
    refuses invariant
    (rw (
      e,
      f,
      live_all _ invariant.model,
      sym c.has_number.ensures ∙ c.if-has_number.false,
      le-ltb (length (tokens_of c.args.self.now.tokens)) 4 (omega (arith, c.len.ensures.value, c.if-len-ge-PLACES.true)),
    ))

-- past question 21
room : (c : Else-len-ge-PLACES) → c.args.self.now.tokens.count < token_places
room c = omega (arith, c.len.ensures.counted, c.if-len-ge-PLACES.false)

pub push-requires : goal.push-requires
push-requires c = room (goal.at.push-requires c).Else-len-ge-PLACES

pub returns : goal.returns
unfolding issued first_no all_in
returns c invariant =
    let args = c.args in
    let l = args.self.now in
    let (e, f) = in_time (goal.at.returns c).Else-minutes-self in
    changes
    (rw (
      e,
      f,
      live_all _ invariant.model,
      sym c.has_number.ensures ∙ c.if-has_number.false,
      lt-ltb (length (tokens_of l.tokens)) 4 (omega (arith, c.len.ensures.value, c.if-len-ge-PLACES.false)),
      c.push.ensures.tokens,
    ))
    (sound_issue (view l) invariant.model args.number args.person args.states args.minutes
    (search rules) (search rules) (search rules))
    (shape_held invariant.shape l.clock l.active c.push.new.self
    invariant.shape.active_held
    (omega (arith, c.push.ensures.count, room (goal.at.returns c).Else-len-ge-PLACES)))
