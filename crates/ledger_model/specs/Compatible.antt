-- Compatible drafts (document 01: drafts that stand beside each other).
use Rattle.std.specs.Prelude.{ℕ, ◌+◌, Bool, ◌&&◌, not, List, length, nat_eq, nat_le}
use Rattle.sets.specs.Quantifiers.{all_in, pairwise}
use Rattle.validation_meaning.specs.Meaning.{conflict}
use Rattle.validation_meaning.specs.Judgement.{meant}
use Rattle.directive.specs.Places.{active_places}
use Rattle.ledger_model.specs.Model.{Model}
use Rattle.ledger_model.specs.Questions.{passes, questions_before, bytes_questions}
use Rattle.ledger_model.specs.Calls.{drafted}

-- "Drafts stand beside each other when each passes 6 to 13 in the ledger at hand, their numbers differ, no two conflict, and
-- with the active they are at most 32."
unfoldable pub compatible : Model → List (List ℕ) → Bool
compatible m ss =
    all_in (λ s. passes (questions_before 14 (bytes_questions meant m s))) ss
    && pairwise (λ s t. not (nat_eq (drafted s).number (drafted t).number)) ss
    && pairwise (λ s t. not (conflict m.register m.clock (drafted s) (drafted t))) ss
    && nat_le (length m.active + length ss) active_places
