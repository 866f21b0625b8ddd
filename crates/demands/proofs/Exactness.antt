-- A draft that passes questions 6 to 12 is refused 13 exactly when some request is matched by it and an opposite active
-- directive, otherwise 14 exactly when every request that it matches is matched by some active directive, and else accepted.
use Prim.Native.Nat.{ℕ}
use mathlib.Core.Path.{◌≡◌, refl, sym, ap, ◌∙◌}
use mathlib.Core.Bool.{Bool, true, false, ◌&&◌, not}
use mathlib.Core.Logic.{⊎_elim}
use mathlib.Core.List.{List, []}
use borrow.Author.Tests.{not-true}
use lib.Dec.{eqb}
use Rattle.sets.specs.Quantifiers.{pick, implies, some_in}
use Rattle.sets.proofs.Quantifiers.{same_test, either_way, both_ways, and_both, implies_of, implies_at, some_list}
use Rattle.directive.specs.declared.Directive.{Directive}
use Rattle.directive.specs.Matching.{matches}
use Rattle.validation_meaning.specs.Requests.{every_request, some_request}
use Rattle.validation_meaning.specs.Meaning.{same_effect, conflict, redundant}
use Rattle.validation_meaning.specs.Judgement.{meant}
use Rattle.validation_meaning.proofs.Requests.{every_request_lem, some_request_lem}
use Rattle.validation_meaning.proofs.ConflictLaws.{conflict_read, conflict_make}
use Rattle.validation_meaning.proofs.InclusionLaws.{covered_read, covered_make, included_read, included_make}
use Rattle.ledger.specs.declared.Ledger.{Ledger}
use Rattle.ledger_model.specs.Model.{Model}
use Rattle.ledger.specs.State.{view}
use Rattle.ledger_model.specs.Answer.{Answer, done, refused, refusal}
use Rattle.ledger.specs.Answer.{commit_answer}
use Rattle.directive.specs.Lowest.{lowest_number}
use Rattle.ledger_model.specs.Questions.{first_no, passes, questions_before, conflicting, bytes_questions}
use Rattle.ledger_model.specs.Calls.{drafted, committed_by, committed}
use Rattle.ledger.specs.Invariant.{Invariant}
use Rattle.ledger.specs.Promises.{CommitResult, Commits}
use Rattle.ledger_model.proofs.Questions.{first_append, first_passed}
use Rattle.ledger_model.proofs.Passed.{from_13}
use Rattle.demands.specs.Demands.{opposed, matched_by_active, refused_with, Exact}

module _ (m : Model) (d : Directive) where
  -- one of the active conflicts with d
  abbrev clashes : Bool
  clashes = some_in (λ e. conflict m.register m.clock d e) m.active

  -- d is redundant beside the active
  abbrev repeats : Bool
  repeats = redundant m.register m.clock d m.active

  clashes_exact :
      clashes ≡ some_request m.register m.clock (λ q. matches m.register d q && opposed m d q)
  clashes_exact =
      let c = m.register in
      same_test _ _
      (λ t.
      let (e, i, clash) = (some_list m.active).read _ t in
      let (opposite, h) = conflict_read c m.clock d e clash in
      (some_request_lem c m.clock).make _ h.common h.in_range
      (rw h.by_first ((some_list m.active).make _ e i (rw (opposite, h.by_second)))))
      (λ t.
      let (q, range, both) = (some_request_lem c m.clock).read _ t in
      let (by_d, by_other) = and_both (matches c d q) _ both in
      let (e, i, against) = (some_list m.active).read _ by_other in
      let (opposite, by_e) = and_both (not (same_effect d e)) _ against in
      (some_list m.active).make _ e i
      (conflict_make c m.clock d e (not-true _ opposite)
      (record { common = q; in_range = range; by_first = by_d; by_second = by_e })))

  -- where none conflicts with d, an active directive that matches a request of d's is of its effect
  repeats_exact :
      clashes ≡ false →
      repeats
      ≡ every_request m.register m.clock (λ q. implies (matches m.register d q) (matched_by_active m q))
  repeats_exact clear =
      let c = m.register in
      same_test _ _
      (λ t.
      (every_request_lem c m.clock).make _ λ q range.
      implies_of (matches c d q) _ λ by_d.
      let (e, i, same, by_e) = covered_read c (same_effect d) m.active q (included_read c m.clock (same_effect d) d m.active t q range by_d) in
      (some_list m.active).make _ e i by_e)
      (λ t.
      included_make c m.clock (same_effect d) d m.active λ q range by_d.
      let (e, i, by_e) =
      (some_list m.active).read _ (implies_at (matches c d q) _ ((every_request_lem c m.clock).read _ t q range) by_d)
      in
      ⊎_elim
      (λ same. covered_make c (same_effect d) m.active q e i same by_e)
      (λ opposite.
      both_ways
      ((some_list m.active).make _ e i
      (conflict_make c m.clock d e opposite
      (record { common = q; in_range = range; by_first = by_d; by_second = by_e })))
      clear)
      (either_way (same_effect d e)))

-- the answer where questions 6 to 12 are passed, by 13 and 14
abbrev late_answer : Bool → Bool → List ℕ → Answer
late_answer clash repeat named = pick (not clash) (pick (not repeat) (done []) (refused 14 [])) (refused 13 named)

late_answer_lem :
    (m : Model) (s : List ℕ) → passes (questions_before 13 (bytes_questions meant m s)) ≡ true →
    (committed m s).answer
    ≡ late_answer (clashes m (drafted s)) (repeats m (drafted s)) (lowest_number (conflicting meant m (drafted s)))
unfolding committed_by first_no
late_answer_lem m s passed =
    let early = questions_before 13 (bytes_questions meant m s) in
    ap (λ qs. first_no qs (done [])) (from_13 meant m s) ∙ first_append early _ (done []) ∙ first_passed early _ passed

module _ (named : List ℕ) where
  is_thirteen : (clash repeat : Bool) → eqb (refusal (late_answer clash repeat named)) 13 ≡ clash
  is_thirteen true repeat = refl
  is_thirteen false true = refl
  is_thirteen false false = refl

  is_fourteen : (repeat : Bool) → eqb (refusal (late_answer false repeat named)) 14 ≡ repeat
  is_fourteen true = refl
  is_fourteen false = refl

pub draft_exact :
    (l : Ledger) → Invariant l → (s : List ℕ) (r : CommitResult) → Commits l s r →
    passes (questions_before 13 (bytes_questions meant (view l) s)) ≡ true → Exact l s r
draft_exact l h s r commits passed =
    let m = view l in
    let d = drafted s in
    let named = lowest_number (conflicting meant m d) in
    let gives : commit_answer r.answer ≡ late_answer (clashes m d) (repeats m d) named =
    (commits h).answer ∙ late_answer_lem m s passed
    in
    let by_13 : eqb (refused_with r) 13 ≡ clashes m d = rw gives (is_thirteen named (clashes m d) (repeats m d)) in
    let by_14 : clashes m d ≡ false → eqb (refused_with r) 14 ≡ repeats m d =
    λ clear. rw (gives, clear) (is_fourteen named (repeats m d))
    in
    record {
      thirteen = by_13 ∙ clashes_exact m d;
      fourteen = λ e. let clear = sym by_13 ∙ e in by_14 clear ∙ repeats_exact m d clear;
      else_accepted = λ e f. let clear = sym by_13 ∙ e in rw (gives, clear, sym (by_14 clear) ∙ f);
    }
