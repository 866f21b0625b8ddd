-- What a permutation of a list keeps: its length, and tests of each, of some and of any two of its elements. Compatible
-- drafts are compatible in any order.
use Prim.Native.Nat.{ℕ, suc}
use mathlib.Core.Path.{◌≡◌, refl, sym, ap, ap₂, ◌∙◌}
use mathlib.Core.Bool.{◌&&◌, Bool, true, not, not-not}
use mathlib.Core.List.{List, Permᴰ}
use borrow.Author.Tests.{eqb-true, eq-eqb}
use lib.ListN.{length}
use lib.Dec.{eqb}
use Rattle.sets.specs.Quantifiers.{all_in, some_in, pairwise}
use Rattle.sets.proofs.Quantifiers.{same_test}
use Rattle.sets.proofs.Lists.{and_middle, all_not}
use Rattle.validation_meaning.proofs.ConflictLaws.{conflict_sym}
use Rattle.ledger_model.specs.Model.{Model}
use Rattle.ledger_model.specs.Calls.{drafted}
use Rattle.ledger_model.specs.Compatible.{compatible}

module _ {A : Type 0} where
  length_reordered : {s t : List A} → Permᴰ s t → length s ≡ length t
  length_reordered Permᴰ.nil = refl
  length_reordered (Permᴰ.cons e h) = ap suc (length_reordered h)
  length_reordered (Permᴰ.swap e f) = refl
  length_reordered (Permᴰ.trans h k) = length_reordered h ∙ length_reordered k

  pub all_reordered : (p : A → Bool) {s t : List A} → Permᴰ s t → all_in p s ≡ all_in p t
  unfolding all_in
  all_reordered p Permᴰ.nil = refl
  all_reordered p (Permᴰ.cons e h) = rw (e, all_reordered p h)
  all_reordered p (Permᴰ.swap {a} {b} {l} e f) = rw (← e, ← f) (and_middle true (p a) (p b) (all_in p l))
  all_reordered p (Permᴰ.trans h k) = all_reordered p h ∙ all_reordered p k

  pub some_reordered : (p : A → Bool) {s t : List A} → Permᴰ s t → some_in p s ≡ some_in p t
  some_reordered p {s} {t} h =
      sym (not-not (some_in p s))
      ∙ ap not (sym (all_not p s) ∙ all_reordered (λ a. not (p a)) h ∙ all_not p t)
      ∙ not-not (some_in p t)

  -- where the order of the two does not count
  pairwise_reordered :
      (r : A → A → Bool) → ((a b : A) → r a b ≡ r b a) → {s t : List A} → Permᴰ s t → pairwise r s ≡ pairwise r t
  unfolding all_in pairwise
  pairwise_reordered r back Permᴰ.nil = refl
  pairwise_reordered r back (Permᴰ.cons {b} e h) = rw (e, all_reordered (r b) h, pairwise_reordered r back h)
  pairwise_reordered r back (Permᴰ.swap {a} {b} {l} e f) =
      rw (back a b) (and_middle (r b a) (all_in (r a) l) (all_in (r b) l) (pairwise r l))
      ∙ ap₂ (λ (x y : A). r x y && all_in (r x) l && (all_in (r y) l && pairwise r l)) f e
  pairwise_reordered r back (Permᴰ.trans h k) = pairwise_reordered r back h ∙ pairwise_reordered r back k

eqb_sym : (a b : ℕ) → eqb a b ≡ eqb b a
eqb_sym a b =
    same_test (eqb a b) (eqb b a) (λ t. eq-eqb b a (sym (eqb-true a b t))) (λ t. eq-eqb a b (sym (eqb-true b a t)))

pub compatible_reordered : (m : Model) {ss ts : List (List ℕ)} → Permᴰ ss ts → compatible m ss ≡ compatible m ts
unfolding compatible
compatible_reordered m h =
    rw (
      all_reordered _ h,
      pairwise_reordered _ (λ s t. ap not (eqb_sym (drafted s).number (drafted t).number)) h,
      pairwise_reordered _ (λ s t. ap not (conflict_sym m.register m.clock (drafted s) (drafted t))) h,
      length_reordered h,
    )
