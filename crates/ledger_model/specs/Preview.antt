-- Document 02, #101, See it before signing: what a draft would change for one requester.
use Rattle.std.specs.Prelude.{ℕ, Bool, false, ◌&&◌, ◌||◌, List, [], ◌∷◌, ◌++◌, nat_eq}
use Rattle.sets.specs.RecordSets.{marked}
use Rattle.directive.specs.declared.Requester.{Requester}
use Rattle.directive.specs.Matching.{query_on}
use Rattle.validation_meaning.specs.Judgement.{meant}
use Rattle.ledger_model.specs.Model.{Model}
use Rattle.ledger_model.specs.Answer.{Answer, done, values}
use Rattle.ledger_model.specs.Questions.{Question, ask, first_no, requester_in_range, bytes_questions}
use Rattle.ledger_model.specs.Calls.{committed, decided}

-- the values of a decide's answer begin with its effect, 1 permit or 0 deny; a refusal has no values
abbrev pub has_effect : ℕ → List ℕ → Bool
has_effect e [] = false
has_effect e (v ∷ vs) = nat_eq v e

-- a decide's answer is a permit
abbrev pub permits : Answer → Bool
permits a = has_effect 1 (values a)

-- a decide's answer is a deny
abbrev pub denies : Answer → Bool
denies a = has_effect 0 (values a)

-- "A change is a permit that becomes a deny or the reverse; a new basis alone is none."
unfoldable pub is_change : Answer → Answer → Bool
is_change before after = permits before && denies after || denies before && permits after

-- "deciding every record before and after": the decision on record x changes for the requester w
unfoldable pub decision_changes : Model → Model → Requester → ℕ → Bool
decision_changes before after w x = is_change (decided before (query_on w x)) (decided after (query_on w x))

-- "A draft that would be refused gives that refusal; otherwise the requester is put to question 17, its record part left out"
unfoldable pub preview_questions : Model → List ℕ → Requester → List Question
preview_questions m s w = bytes_questions meant m s ++ (ask 17 (requester_in_range m.register w) ∷ [])

-- "the records whose decision at the clock would change, as two 64-bit words and a count, laid out like a brief. .. This
-- equals committing on a copy of the ledger and deciding every record before and after."
abbrev pub preview_values : Model → List ℕ → Requester → List ℕ
preview_values m s w = marked (decision_changes m (committed m s).model w)

-- question 17 of the requester, then the records whose decision changes
abbrev pub compared_for : Model → Model → Requester → Answer
compared_for before after w =
    first_no (ask 17 (requester_in_range before.register w) ∷ []) (done (marked (decision_changes before after w)))

-- What preview answers: the first "no" of the draft and then of the requester, or the words and the count.
unfoldable pub previewed : Model → List ℕ → Requester → Answer
previewed m s w = first_no (preview_questions m s w) (done (preview_values m s w))
