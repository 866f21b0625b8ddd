-- A decide call that passes question 17 gives the decision, and so permits the patient and an author on their own record.
use mathlib.Core.Path.{◌≡◌, ◌∙◌}
use mathlib.Core.Bool.{true, false}
use mathlib.Core.Logic.{⊎_elim}
use mathlib.Core.List.{[], ◌∷◌}
use lib.ListN.{take}
use Rattle.sets.proofs.Quantifiers.{either_way}
use Rattle.directive.specs.declared.Query.{Query}
use Rattle.ledger.specs.declared.Ledger.{Ledger}
use Rattle.ledger.specs.State.{view}
use Rattle.ledger_model.specs.Answer.{done, values}
use Rattle.ledger.specs.Answer.{DecideAnswer, decide_answer}
use Rattle.ledger_model.specs.Decision.{is_patient, is_author, decision, decision_values}
use Rattle.ledger_model.specs.Questions.{passes, decide_questions}
use Rattle.ledger_model.specs.Calls.{decided}
use Rattle.ledger.specs.Invariant.{Invariant}
use Rattle.ledger.specs.Promises.{Decides}
use Rattle.ledger_model.proofs.Questions.{first_passed}

module _
    (l : Ledger) (h : Invariant l) (q : Query) (a : DecideAnswer) (decides : Decides l q a)
    (passed : passes (decide_questions (view l) q) ≡ true)
  where
    pub decided_kept : decide_answer a ≡ done (decision_values (decision (view l) q))
    unfolding decided
    decided_kept = decides h ∙ first_passed (decide_questions (view l) q) _ passed

    pub patient_permitted : is_patient (view l) q ≡ true → decide_answer a ≡ done (1 ∷ 1 ∷ [])
    unfolding decision
    patient_permitted e = decided_kept ∙ rw e

    pub author_permitted : is_author (view l) q ≡ true → take 1 (values (decide_answer a)) ≡ 1 ∷ []
    unfolding decision
    author_permitted e =
        rw (decided_kept, e)
        (⊎_elim
        (λ (t : is_patient (view l) q ≡ true). rw t)
        (λ (t : is_patient (view l) q ≡ false). rw t)
        (either_way (is_patient (view l) q)))
