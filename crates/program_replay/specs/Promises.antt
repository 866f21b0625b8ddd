-- What the parts of a replay promise. Free is, after a card or a call that succeeds, what stands past a count of the ledger; which bytes
-- standard input gives and standard output takes no contract can say.
use Rattle.std.specs.Prelude.{ℕ, ◌-◌, ◌≤◌, ◌≡◌, ◌==◌, false, List, Bool, [], length, nat_lt, Option, Some, None, IfSome, Result, Ok, Err, IfOk, if◌then◌else◌}
use Rattle.sets.specs.Numbers.{number_at}
use Rattle.streams.specs.declared.Failed.{Failed}
use Rattle.ledger.specs.declared.Ledger.{Ledger}
use Rattle.ledger.specs.State.{view, empty_ledger}
use Rattle.ledger.specs.Invariant.{Invariant}
use Rattle.ledger_model.specs.Answer.{accepted}
use Rattle.card.specs.Reading.{reading, card_line}
use Rattle.replay_entries.specs.Entries.{Entry, Said, said_to, after_entry, buffer_after, changes}
use Rattle.text.specs.Text.{line_text}
use Rattle.program_replay.specs.Lines.{said_text, entry_text, goes_on_after}
use Rattle.program_replay.specs.declared.input.PartError.{PartError}
use Rattle.program_replay.specs.declared.input.PartError.TheVariants as Fails

-- A head: nothing is there, or not all of it, or all; a failure stays one.
abbrev pub head_part : Result ℕ Failed → ℕ → Result (Option ℕ) PartError
head_part (Err e) size = Err Fails.Failed
head_part (Ok n) size = if n == 0 then Ok None else (if nat_lt n size then Err Fails.Cut else Ok (Some n))

-- A value: not all of it, or all; a failure stays one.
abbrev pub value_part : Result ℕ Failed → ℕ → Result ℕ PartError
value_part (Err e) size = Err Fails.Failed
value_part (Ok n) size = if nat_lt n size then Err Fails.Cut else Ok size

-- A value of n bytes: they have their place in the buffer, and n is what the head's last two bytes write.
abbrev pub IsValueOf : List ℕ → List ℕ → ℕ → Type 0
IsValueOf head value n = (n ≤ length value) × (n ≡ number_at (length head - 2) 2 head)

-- A part that is whole has a value. Which bytes are read, and so which of the four cases comes, is free.
abbrev pub PartRead : List ℕ → List ℕ → Result (Option ℕ) PartError → Type 0
PartRead head value p = IfOk p (λ part. IfSome part (IsValueOf head value))

-- What an entry is told: its line, with the lent bytes that it shows, and whether the replay goes on.
pub record Prints (s : Said) (lent : List ℕ) (more : Bool) (out : List ℕ) : Type 0 where
  pub line : out ≡ said_text s lent
  pub goes_on : more ≡ goes_on_after s

-- A card: its line, and the ledger l that it gives, which after a refusal is the empty one itself.
pub record CardTurn (card : List ℕ) (l : Ledger) (out : List ℕ) : Type 0 where
  pub line : out ≡ line_text (card_line card) []
  pub ledger : view l ≡ (reading card).model
  pub refused : accepted (reading card).answer ≡ false → l ≡ empty_ledger
  pub invariant : Invariant l

-- An entry on the ledger l: its line, the ledger `next` after it, which is l itself unless a call succeeds, the lent bytes after it, and
-- whether the replay goes on.
pub record EntryTurn (l : Ledger) (e : Entry) (before : List ℕ) (next : Ledger) (more : Bool) (after out : List ℕ) : Type 0 where
  pub line : out ≡ entry_text (view l) e before
  pub ledger : view next ≡ after_entry (view l) e
  pub unchanged : changes e (said_to (view l) e before) ≡ false → next ≡ l
  pub invariant : Invariant next
  pub lent : after ≡ buffer_after (view l) e before
  pub goes_on : more ≡ goes_on_after (said_to (view l) e before)
