-- What reading and writing promise.
use Rattle.std.specs.Prelude.{ℕ, ◌≡◌, List, Result, Ok, Err}
use Rattle.ledger.specs.declared.Ledger.{Ledger}
use Rattle.ledger.specs.State.{view, empty_ledger}
use Rattle.ledger.specs.Invariant.{Invariant}
use Rattle.ledger.specs.Promises.{Gives, After, after}
use Rattle.card.specs.declared.ReadRefusal.{ReadRefusal}
use Rattle.card.specs.Answer.{ReadAnswer, WriteAnswer, read_answer, write_answer}
use Rattle.card.specs.Reading.{reading}
use Rattle.card.specs.Writing.{writing, buffered}

-- What reading gives: its answer, and the ledger of the card, or the empty one where the card is refused.
abbrev pub ReadResult : Type 0
ReadResult = After ReadAnswer

abbrev pub read_result : Result Ledger ReadRefusal → ReadResult
read_result (Ok l) = after (Ok tt) l
read_result (Err r) = after (Err r) empty_ledger

-- Reading any bytes: the answer and the ledger's view are the definition's; a refused card gives the empty ledger itself. What
-- stands past a count of an accepted card's ledger is free.
abbrev pub Reads : List ℕ → ReadResult → Type 0
Reads card r = Gives empty_ledger (reading card) (read_answer r.answer) r.ledger

-- Writing a ledger that keeps the invariant into a lent buffer: the answer, and every byte of the buffer after it. On any other
-- ledger both are free.
pub record Fills (l : Ledger) (before : List ℕ) (a : WriteAnswer) (after : List ℕ) : Type 0 where
  pub answer : write_answer a ≡ writing (view l) before
  pub buffer : after ≡ buffered (view l) before

abbrev pub Writes : Ledger → List ℕ → WriteAnswer → List ℕ → Type 0
Writes l before a after = Invariant l → Fills l before a after
