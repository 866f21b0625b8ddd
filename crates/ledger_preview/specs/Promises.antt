-- Document 02, #101: what preview promises. On a ledger that does not keep the invariant it ends, its answer is free, and the ledger
-- still comes back.
use Rattle.std.specs.Prelude.{◌≡◌, List, ℕ}
use Rattle.directive.specs.declared.Directive.{Directive}
use Rattle.directive.specs.declared.Requester.{Requester}
use Rattle.ledger_model.specs.Calls.{with_last}
use Rattle.ledger_model.specs.Preview.{compared_for, previewed}
use Rattle.ledger.specs.declared.Ledger.{Ledger}
use Rattle.ledger.specs.State.{view}
use Rattle.ledger.specs.Invariant.{Invariant}
use Rattle.ledger.specs.Promises.{After}
use Rattle.ledger_preview.specs.Answer.{PreviewAnswer, preview_answer}

-- its answer, and the ledger that comes back
abbrev pub PreviewResult : Type 0
PreviewResult = After PreviewAnswer

-- Preview of a draft's bytes s for the requester w: the model's answer, and "The ledger handed in comes back equal": the value
-- itself, also past its counts.
pub record Previews (l : Ledger) (s : List ℕ) (w : Requester) (r : PreviewResult) : Type 0 where
  pub answer : Invariant l → preview_answer r.answer ≡ previewed (view l) s w
  pub ledger : r.ledger ≡ l

-- Of two ledgers, the second with one active directive more, last: question 17 of the requester, then the records whose decision
-- changes. No promise of a call rests on it.
abbrev pub Compares : Ledger → Ledger → Requester → PreviewAnswer → Type 0
Compares before after w a =
    Invariant before → Invariant after → (d : Directive) → view after ≡ with_last (view before) d →
    preview_answer a ≡ compared_for (view before) (view after) w
