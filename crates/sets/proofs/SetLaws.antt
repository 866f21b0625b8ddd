-- Laws of sets as numbers: one number more, where two tests give the same set, and a set that is built number by number.
use Prim.Native.Nat.{ℕ, ◌+◌, ◌*◌, ◌%◌, ◌^◌, ◌<◌, ◌≤◌}
use mathlib.Core.Path.{◌≡◌, refl, sym, ◌∙◌}
use mathlib.Core.Bool.{Bool, true, false}
use native.Mathlib.Nat.{lt_of_lt_of_le}
use native.Mathlib.Numerals.{add-one}
use native.Mathlib.Decide.{dec_lt}
use native.Mathlib.Omega.{arith}
use borrow.Author.Tests.{lt-ltb, le-ltb}
use lib.Pow.{pow_mono, shl_exact}
use Rattle.sets.specs.Quantifiers.{one_if}
use Rattle.sets.specs.Bits.{set_of}
use Rattle.sets.proofs.BitLaws.{set_bound, set_bit, set_ext}

module _ (p : ℕ → Bool) where
  set_more : (q : ℕ) → set_of q p + one_if (p q) * 2 ^ q ≡ set_of (q + 1) p
  unfolding set_of
  set_more q = rw add-one

  set_less : (q : ℕ) → p q ≡ false → set_of q p ≡ set_of (q + 1) p
  unfolding set_of
  set_less q e = rw (add-one, e) (omega arith)

  pub set_same : (n : ℕ) (q : ℕ → Bool) → ((k : ℕ) → k < n → p k ≡ q k) → set_of n p ≡ set_of n q
  set_same n q f = set_ext n (set_of n p) q (set_bound n p) (λ k h. set_bit n k p ∙ rw (lt-ltb k n h) (f k h))

  module _ (q n : ℕ) (h : q ≤ n) where
    pub set_small : set_of q p < 2 ^ n
    set_small = lt_of_lt_of_le (set_bound q p) (pow_mono h)

    -- where no number from q on passes
    set_cut : ((k : ℕ) → k < n → q ≤ k → p k ≡ false) → set_of q p ≡ set_of n p
    set_cut none =
        set_ext n (set_of q p) p set_small
        (λ k l.
        set_bit q k p
        ∙ elim (dec_lt k q) [
          | yes b ↦ rw (lt-ltb k q b)
          | no b ↦ rw (le-ltb k q (omega arith)) (sym (none k l (omega arith)))
        ])

  pub set_none : (n : ℕ) → ((k : ℕ) → p k ≡ false) → 0 ≡ set_of n p
  unfolding set_of
  set_none n none = set_cut 0 n (omega arith) (λ k _ _. none k)

-- a set of numbers below k with k in it, as a shift in a word of w bits
pub bit_more :
    (w set k : ℕ) → set < 2 ^ k → k < w → (set + 1 * 2 ^ k % 2 ^ w < 2 ^ (k + 1)) × (set + 1 * 2 ^ k % 2 ^ w < 2 ^ w)
bit_more w set k h l =
    let next : set + 1 * 2 ^ k % 2 ^ w < 2 ^ (k + 1) = rw (shl_exact {a = 1} 1 k w (omega arith) (omega arith), add-one k) (omega arith) in
    (next, lt_of_lt_of_le next (pow_mono {j = w} (omega arith)))

-- A set that is built number by number: before the turn of k it has those of the numbers below k that pass p.
pub record Built (p : ℕ → Bool) (n set k : ℕ) : Type 0 where
  pub in_range : k ≤ n
  pub so_far : set ≡ set_of k p

module _ {p : ℕ → Bool} {n : ℕ} where
  pub built_none : Built p n 0 0
  unfolding set_of
  built_none = record { in_range = omega arith; so_far = refl }

  module _ {set k : ℕ} (before : Built p n set k) where
    pub built_more : {b : ℕ} → k < n → b ≡ one_if (p k) * 2 ^ k → Built p n (set + b) (k + 1)
    built_more h e = record { in_range = omega arith; so_far = rw (before.so_far, e) (set_more p k) }

    -- a number that passes, as a shift in a word of w bits, and one that does not
    pub built_with : (w : ℕ) → n ≤ w → k < n → p k ≡ true → Built p n (set + 1 * 2 ^ k % 2 ^ w) (k + 1)
    built_with w l h e = built_more h (rw e (shl_exact {a = 1} 1 k w (omega arith) (omega arith)))

    pub built_without : k < n → p k ≡ false → Built p n set (k + 1)
    built_without h e = record { in_range = omega arith; so_far = before.so_far ∙ set_less p k e }

    pub built_small : (w : ℕ) → n ≤ w → set < 2 ^ w
    built_small w h = rw before.so_far (set_small p k w (omega (arith, before.in_range)))

    -- where no number from k on passes, and at the loop's end
    pub built_cut : ((j : ℕ) → j < n → k ≤ j → p j ≡ false) → set ≡ set_of n p
    built_cut none = before.so_far ∙ set_cut p k n before.in_range none

    pub built_all : n ≤ k → set ≡ set_of n p
    built_all h = built_cut (λ j l m. absurd (omega arith))
