-- Laws of a preview: only the decisions on records that the draft selects can change; what is answered is the commit's refusal or the
-- requester's.
use Prim.Native.Nat.{ℕ, ◌≤◌}
use mathlib.Core.Path.{◌≡◌, refl, sym, ap, ◌∙◌}
use mathlib.Core.Bool.{true, false, ◌&&◌, and-false, or-false}
use mathlib.Core.Logic.{⊎_elim}
use mathlib.Core.List.{List, [], ◌∷◌}
use native.Mathlib.Omega.{arith}
use borrow.Author.Tests.{eqb-true, ne_eqb}
use lib.ListN.{length}
use Rattle.sets.specs.declared.record_set.RecordSet.{RecordSet}
use Rattle.sets.specs.RecordSets.{contains, record_set_of, set_bits, marked}
use Rattle.sets.proofs.Quantifiers.{either_way, both_ways, never_true}
use Rattle.sets.proofs.Keep.{keep_snoc}
use Rattle.register.specs.Records.{has_record}
use Rattle.directive.specs.declared.Directive.{Directive}
use Rattle.directive.specs.declared.Requester.{Requester}
use Rattle.directive.specs.Selection.{selects}
use Rattle.directive.specs.Matching.{matches, request_at, query_on}
use Rattle.directive.proofs.SelectLaws.{contains_selected}
use Rattle.directive.proofs.MatchLaws.{matches_read}
use Rattle.validation_meaning.specs.Judgement.{meant}
use Rattle.ledger_model.specs.Model.{Model}
use Rattle.ledger_model.specs.Answer.{Answer, done, refused, accepted, values}
use Rattle.ledger_model.specs.Decision.{matching, decision}
use Rattle.ledger_model.specs.Questions.{first_no, passes, requester_in_range, bytes_questions}
use Rattle.ledger_model.specs.Calls.{with_last, after_commit, committed_by, committed, decided}
use Rattle.ledger_model.specs.Preview.{has_effect, permits, denies, is_change, decision_changes, preview_questions, compared_for, previewed}
use Rattle.ledger_model.proofs.Questions.{first_append, first_where, first_passed, first_accepted}

-- one effect is not the other
one_effect : (vs : List ℕ) → has_effect 1 vs ≡ true → has_effect 0 vs ≡ false
one_effect [] e = refl
one_effect (v ∷ vs) e = let is = eqb-true v 1 e in ne_eqb v 0 (λ z. absurd (omega arith))

-- a permit before changes where there is a deny after; anything else, where it is a deny and there is a permit
module _ (a b : Answer) where
  pub permit_changes : permits a ≡ true → is_change a b ≡ denies b
  unfolding is_change
  permit_changes e = rw (e, one_effect (values a) e) (or-false (denies b))

  pub other_changes : permits a ≡ false → is_change a b ≡ denies a && permits b
  unfolding is_change
  other_changes e = rw e

pub same_answer : (a : Answer) → is_change a a ≡ false
same_answer a =
    ⊎_elim
    (λ (e : permits a ≡ true). permit_changes a a e ∙ one_effect (values a) e)
    (λ (e : permits a ≡ false). other_changes a a e ∙ rw e (and-false (denies a)))
    (either_way (permits a))

-- a refusal is no decision that changes
refusal_same : (a b : Answer) → accepted a ≡ false → is_change a b ≡ false
refusal_same (done vs) b e = both_ways refl e
refusal_same (refused n vs) b e = other_changes (refused n vs) b refl

-- on a number that is no record's nothing is decided
pub changed_outside :
    (m n : Model) (w : Requester) (x : ℕ) → has_record m.register.records x ≡ false → decision_changes m n w x ≡ false
unfolding decision_changes decided first_no
changed_outside m n w x out =
    refusal_same _ _ (rw (out, and-false (requester_in_range m.register w)))

-- one directive more, last, on a record that it does not select
module _ (m : Model) (d : Directive) (w : Requester) (x : ℕ) (out : selects m.register.records d x ≡ false) where
  not_matched : matches m.register d (request_at (query_on w x) m.clock) ≡ false
  not_matched = never_true _ (λ e. both_ways (matches_read m.register d _ e).selected out)

  same_matching : matching (with_last m d) (query_on w x) ≡ matching m (query_on w x)
  same_matching = keep_snoc (λ e. matches m.register e (request_at (query_on w x) m.clock)) m.active d ∙ rw not_matched

  same_decided : decided (with_last m d) (query_on w x) ≡ decided m (query_on w x)
  unfolding decided decision
  same_decided = rw same_matching

  not_changed : decision_changes m (with_last m d) w x ≡ false
  unfolding decision_changes
  not_changed = rw same_decided (same_answer (decided m (query_on w x)))

-- the records that change are among those that it selects
module _ (m : Model) (d : Directive) (w : Requester) (few : length m.register.records ≤ 128) where
  among : (x : ℕ) → contains (record_set_of (selects m.register.records d)) x && decision_changes m (with_last m d) w x ≡ decision_changes m (with_last m d) w x
  among x =
      rw (contains_selected m.register.records d x few)
      (⊎_elim
      (λ (e : selects m.register.records d x ≡ true). rw e)
      (λ (e : selects m.register.records d x ≡ false). rw e (sym (not_changed m d w x e)))
      (either_way (selects m.register.records d x)))

  marked_among :
      marked (λ x. contains (record_set_of (selects m.register.records d)) x && decision_changes m (with_last m d) w x)
      ≡ marked (decision_changes m (with_last m d) w)
  marked_among = ap marked (λ i x. among x i)

  -- the set of those, and how many they are
  pub shown_among :
      {n : Model} {chosen found : RecordSet} {count : ℕ} →
      n ≡ with_last m d → chosen ≡ record_set_of (selects n.register.records d) →
      found ≡ record_set_of (λ x. contains chosen x && decision_changes m n w x) → count ≡ set_bits found →
      found.low ∷ found.high ∷ count ∷ [] ≡ marked (decision_changes m n w)
  shown_among last selected those counted = rw (counted, those, selected, last) marked_among

-- a commit that is accepted
module _ (m : Model) (s : List ℕ) (taken : accepted (committed m s).answer ≡ true) where
  passed : passes (bytes_questions meant m s) ≡ true
  unfolding committed_by
  passed = sym (first_accepted (bytes_questions meant m s)) ∙ taken

  pub committed_last : (committed m s).model ≡ after_commit m s
  unfolding committed_by
  committed_last = rw passed

-- the answer by the commit's
module _ (m : Model) (s : List ℕ) (w : Requester) where
  in_turn : previewed m s w ≡ first_no (bytes_questions meant m s) (compared_for m (committed m s).model w)
  unfolding previewed preview_questions
  in_turn = first_append (bytes_questions meant m s) _ _

  pub preview_accepted :
      accepted (committed m s).answer ≡ true → previewed m s w ≡ compared_for m (committed m s).model w
  preview_accepted e = in_turn ∙ first_passed (bytes_questions meant m s) _ (passed m s e)

  -- a refusal by question 6 to 14 is the commit's
  pub preview_refused : {a : Answer} → a ≡ (committed m s).answer → accepted a ≡ false → a ≡ previewed m s w
  unfolding committed_by
  preview_refused e f =
      e
      ∙ first_where (bytes_questions meant m s) _ _
      (λ all. both_ways (first_accepted (bytes_questions meant m s) ∙ all) (ap accepted (sym e) ∙ f))
      ∙ sym in_turn
