-- `Ledger::advance`: what has not ended of the active directives and of the tokens is kept, and the rest counted.
use mathlib.Core.Bool.{not}
use native.Mathlib.Omega.{arith}
use borrow.Author.Rules.{rules}
use borrow.Author.Tests.{le-leb, lt-leb}
use lib.Dec.{leb}
use Rattle.sets.specs.Quantifiers.{all_in}
use Rattle.active.specs.Active.{directives_of}
use Rattle.active.specs.Changes.{Keeps}
use Rattle.active.proofs.ListLaws.{directives_kept, invariant_kept}
use Rattle.emergency.specs.Tokens.{tokens_of}
use Rattle.ledger.specs.State.{view}
use Rattle.ledger_model.specs.Questions.{first_no}
use Rattle.ledger_model.specs.Calls.{advanced}
use Rattle.ledger_model.proofs.Soundness.{sound_advance}
use Rattle.ledger.proofs.CallLaws.{refuses, changes, shape_held, dropped_count, dropped_few}
use Rattle.ledger.proofs.Ledger.advance.Goals.{After-retain}
use Rattle.ledger.proofs.Ledger.advance.Goals as goal

-- the directives that have not ended
rest : (c : After-retain) → Keeps (λ d. not (leb d.until c.args.minute)) c.args.self.now.active c.retain.new.self
rest c = c.retain.ensures (λ d. not (leb d.until c.args.minute)) (λ d b said. search rules)

pub returns-then-minute-self : goal.returns-then-minute-self
unfolding advanced first_no all_in
returns-then-minute-self c invariant = refuses invariant (rw (lt-leb _ _ c.if-minute-self.true))

pub overflow_sub-result : goal.overflow_sub-result
overflow_sub-result c =
    let l = c.args.self.now in
    let t = c.args.minute in
    omega (arith, dropped_few (λ d. leb d.until t) (directives_of l.active) _ (directives_kept (rest (goal.at.overflow_sub-result c).After-retain)), c.len-directives.ensures.value, c.len.ensures.value)

pub overflow_sub-result-2 : goal.overflow_sub-result-2
overflow_sub-result-2 c =
    let l = c.args.self.now in
    let t = c.args.minute in
    omega (arith, dropped_few (λ k. leb k.until t) (tokens_of l.tokens) _ c.retain_live.ensures.tokens, c.len-tokens.ensures.value, c.len-2.ensures.value)

pub returns : goal.returns
unfolding advanced first_no all_in
returns c invariant =
    let l = c.args.self.now in
    let t = c.args.minute in
    let kept = rest (goal.at.returns c).After-retain in
    let live = c.retain_live.ensures in
    changes
    (rw (
      le-leb l.clock t c.if-minute-self.false,
      c.len-directives.ensures.value,
      c.len-tokens.ensures.value,
      c.len.ensures.value,
      c.len-2.ensures.value,
      dropped_count (λ d. leb d.until t) (directives_of l.active) _ (directives_kept kept),
      dropped_count (λ k. leb k.until t) (tokens_of l.tokens) _ live.tokens,
      directives_kept kept,
      live.tokens,
    ))
    (sound_advance (view l) invariant.model t (search rules))
    (shape_held invariant.shape t c.retain.new.self c.retain_live.new.self
    (invariant_kept kept invariant.shape.active_held)
    live.few)
