-- Laws of a walk over the first n elements of an array: of a search, and of a walk in place that keeps those that pass a test.
use Prim.Native.Nat.{ℕ, ◌+◌, ◌<◌, ◌≤◌}
use mathlib.Core.Path.{◌≡◌, refl, sym, ◌∙◌}
use mathlib.Core.Bool.{Bool, true, false}
use mathlib.Core.Logic.{⊎_elim}
use mathlib.Core.List.{List, [], ◌∷◌, ◌++◌, append-nil}
use native.Mathlib.Nat.{add-zero}
use native.Mathlib.Numerals.{add-one}
use native.Mathlib.Omega.{arith}
use lib.ListN.{length, take, drop, get_or, set, length-set, drop_of_length-le}
use lib.Seq.{drop-cons, get_or-take, get_or-set_other, length-take-le, append_snoc, take-suc-set, take-set-le}
use Rattle.sets.specs.Quantifiers.{one_if, keep}
use Rattle.sets.proofs.Quantifiers.{either_way}

module _ {A : Type 0} (items : List A) (n : ℕ) (fits : n ≤ length items) where
  -- what is left at turn i begins with element i
  left_next : (i : ℕ) (d : A) → i < n → drop i (take n items) ≡ get_or items i d ∷ drop (i + 1) (take n items)
  left_next i d h =
      rw (add-one, drop-cons (take n items) i d (rw (length-take-le n items fits) h), get_or-take n items i d h)

  left_none : (i : ℕ) → n ≤ i → drop i (take n items) ≡ []
  left_none i h = drop_of_length-le (take n items) {i = i} (rw (length-take-le n items fits) h)

-- A search: f of what is left after i turns is f of all.
pub record Sought {A B : Type 0} (f : List A → B) (items : List A) (n i : ℕ) : Type 0 where
  pub fits : n ≤ length items
  pub same : f (drop i (take n items)) ≡ f (take n items)

module _ {A B : Type 0} (f : List A → B) where
  pub sought_none : {items : List A} {n : ℕ} → n ≤ length items → Sought f items n 0
  sought_none fits = record { fits = fits; same = refl }

  -- element i does not count
  pub sought_next :
      {items : List A} {n i : ℕ} (d : A) → Sought f items n i → i < n →
      ((l : List A) → f (get_or items i d ∷ l) ≡ f l) → Sought f items n (i + 1)
  sought_next {items} {n} {i} d w h e =
      record { fits = w.fits; same = sym (e _) ∙ (rw (left_next items n w.fits i d h) at w.same) }

  -- element i settles it
  pub sought_found :
      {items : List A} {n i : ℕ} {b : B} (d : A) → Sought f items n i → i < n →
      ((l : List A) → b ≡ f (get_or items i d ∷ l)) → b ≡ f (take n items)
  sought_found {items} {n} {i} d w h e = e _ ∙ (rw (left_next items n w.fits i d h) at w.same)

  pub sought_all : {items : List A} {n i : ℕ} → Sought f items n i → n ≤ i → f [] ≡ f (take n items)
  sought_all {items} {n} {i} w h = rw (left_none items n w.fits i h) at w.same

-- A walk in place, over `kept`, which was `items`, that puts those that pass p first, in their order. After i turns they are `at`
-- many, with those of what is left they are those of all, and what stands from place i on is still the original's.
pub record InPlace {A : Type 0} (p : A → Bool) (items : List A) (n : ℕ) (kept : List A) (at i : ℕ) : Type 0 where
  pub fits : n ≤ length items
  pub turns : i ≤ n
  pub count : at ≤ i
  pub long : length kept ≡ length items
  pub first : take at kept ++ keep p (drop i (take n items)) ≡ keep p (take n items)
  pub rest : (d : A) (k : ℕ) → i ≤ k → get_or kept k d ≡ get_or items k d

module _ {A : Type 0} (p : A → Bool) where
  -- x is put after the first `at`, and counts where it passes
  kept_next :
      (kept rest : List A) (at : ℕ) (x : A) → at < length kept →
      (at + one_if (p x) ≤ at + 1)
      × (take (at + one_if (p x)) (set kept at x) ++ keep p rest ≡ take at kept ++ keep p (x ∷ rest))
  unfolding keep
  kept_next kept rest at x h =
      ⊎_elim
      (λ (e : p x ≡ true). rw e (omega arith, rw (add-one at, take-suc-set kept at x h, append_snoc)))
      (λ (e : p x ≡ false). rw e (omega arith, rw (add-zero at, take-set-le at kept at x (omega arith))))
      (either_way (p x))

  pub in_place_none : (items : List A) (n : ℕ) → n ≤ length items → InPlace p items n items 0 0
  in_place_none items n fits =
      record { fits = fits; turns = omega arith; count = omega arith; long = refl; first = refl; rest = λ d k h. refl }

  -- the turn that puts element i after those kept, and counts it where it passes
  pub in_place_next :
      {items kept : List A} {n at i next : ℕ} (d : A) → InPlace p items n kept at i → i < n →
      next ≡ at + one_if (p (get_or kept i d)) → InPlace p items n (set kept at (get_or kept i d)) next (i + 1)
  in_place_next {items} {kept} {n} {at} {i} d w h e =
      let (few, more) = kept_next kept (drop (i + 1) (take n items)) at (get_or kept i d) (omega (arith, w)) in
      let here = left_next items n w.fits i d h in
      rw e
      (record {
        fits = w.fits;
        turns = omega arith;
        count = omega arith;
        long = simp length-set w.long;
        first = more ∙ (rw (here, ← w.rest d i (omega arith)) at w.first);
        rest = λ o k l. get_or-set_other kept at k (get_or kept i d) o (λ q. omega (arith, w)) ∙ w.rest o k (omega arith);
      })

  pub in_place_all :
      {items kept : List A} {n at i : ℕ} → n ≤ i → InPlace p items n kept at i →
      (at ≤ n) × (take at kept ≡ keep p (take n items))
  unfolding keep
  in_place_all {items} {kept} {n} {at} {i} h w =
      (omega arith, sym (append-nil (take at kept)) ∙ (rw (left_none items n w.fits i h) at w.first))
