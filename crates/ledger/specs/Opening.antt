-- How far a decision is before the directives are looked at. No promise of a call rests on it.
use Rattle.std.specs.Prelude.{ℕ, ◌≡◌, true, false}
use Rattle.register.specs.Records.{record_at}
use Rattle.directive.specs.declared.Query.{Query}
use Rattle.ledger_model.specs.Model.{Model}
use Rattle.ledger_model.specs.Decision.{is_patient, is_author}
use Rattle.ledger_model.specs.Questions.{is_in_range}

-- question 17 passed, and neither the patient nor the record's author asks; the default consent looks at these origins
pub record Undecided (m : Model) (q : Query) (origins : ℕ) : Type 0 where
  pub inside : is_in_range m.register q ≡ true
  pub no_patient : is_patient m q ≡ false
  pub no_author : is_author m q ≡ false
  pub default : origins ≡ (record_at m.register.records q.«record»).origins
