-- How many directives are active after each call, by its answer: one more after a commit that succeeds, one fewer after a
-- revoke that does, fewer by the count that an advance reports, and as many as before otherwise.
use Prim.Native.Nat.{ℕ, ◌+◌}
use mathlib.Core.Path.{◌≡◌, refl, ap, ◌∙◌}
use mathlib.Core.Bool.{Bool, true, false, not}
use mathlib.Core.List.{List, []}
use native.Mathlib.Omega.{arith}
use borrow.Author.Tests.{eqb-true, eq-eqb}
use lib.ListN.{length, length-append, get_or}
use lib.Dec.{eqb, leb}
use Rattle.sets.specs.Quantifiers.{one_if, all_in}
use Rattle.sets.proofs.Quantifiers.{and_left}
use Rattle.sets.proofs.Keep.{count_keep, count_once}
use Rattle.directive.specs.declared.Directive.{Directive}
use Rattle.ledger_model.specs.Model.{Model}
use Rattle.ledger_model.specs.Answer.{done, accepted, values}
use Rattle.ledger_model.specs.Questions.{is_active, revoke_questions}
use Rattle.ledger_model.specs.Calls.{committed_by, committed, after_revoke, revoked, advanced, after_issue, issued}
use Rattle.ledger_model.specs.Invariant.{ModelInvariant}
use Rattle.ledger_model.proofs.Questions.{outcome_by}

module _ (m : Model) where
  pub commit_active :
      (s : List ℕ) →
      length (committed m s).model.active ≡ length m.active + one_if (accepted (committed m s).answer)
  unfolding committed_by
  commit_active s =
      outcome_by (λ o. length o.model.active ≡ length m.active + one_if (accepted o.answer)) _ m _
      (λ _. length-append m.active _)
      (λ _ _. omega arith)

  -- numbers differ, so revoke takes out one
  one_fewer :
      ModelInvariant m → (n : ℕ) → is_active n m.active ≡ true → length (after_revoke m n).active + 1 ≡ length m.active
  one_fewer h n e =
      let named : Directive → Bool = λ d. eqb d.number n in
      let apart : Directive → Directive → Bool = λ d e. not (eqb d.number e.number) in
      let alike : (d e : Directive) → named d ≡ true → named e ≡ true → apart d e ≡ false =
      λ d e i j.
      let same = eqb-true d.number n i in
      let also = eqb-true e.number n j in
      ap not (eq-eqb d.number e.number (omega arith))
      in
      let once = count_once named apart alike m.active h.active_differ ∙ ap one_if e in
      omega (arith, count_keep named m.active)

  pub revoke_active :
      ModelInvariant m → (n : ℕ) →
      length (revoked m n).model.active + one_if (accepted (revoked m n).answer) ≡ length m.active
  unfolding revoked all_in
  revoke_active h n =
      outcome_by (λ o. length o.model.active + one_if (accepted o.answer) ≡ length m.active)
      (revoke_questions m n) m _
      (λ passed. one_fewer h n (and_left _ _ passed))
      (λ _ _. omega arith)

  pub advance_active :
      (t : ℕ) →
      length (advanced m t).model.active + get_or (values (advanced m t).answer) 0 0 ≡ length m.active
  unfolding advanced
  advance_active t =
      outcome_by (λ o. length o.model.active + get_or (values o.answer) 0 0 ≡ length m.active) _ m _
      (λ _. omega (arith, count_keep (λ d. leb d.until t) m.active))
      (λ _ _. omega arith)

  pub issue_active :
      (n p states minutes : ℕ) → length (issued m n p states minutes).model.active ≡ length m.active
  unfolding issued
  issue_active n p states minutes =
      outcome_by (λ o. length o.model.active ≡ length m.active) _ m
      (record { answer = done []; model = after_issue m n p states minutes })
      (λ _. refl)
      (λ _ _. refl)
