-- Laws of the numbers below n: tests that agree there, the numbers below n + m in two parts, and tests that no number from n on
-- passes.
use Prim.Native.Nat.{ℕ, zero, suc, ◌+◌, ◌-◌, ◌<◌, ◌≤◌}
use mathlib.Core.Path.{◌≡◌, refl, sym, ap, ◌∙◌}
use mathlib.Core.Bool.{Bool, false, ◌&&◌, ◌||◌, or_assoc, or-false}
use native.Mathlib.Nat.{add-zero, add-suc, add-sub_of_le}
use native.Mathlib.Numerals.{add-one}
use native.Mathlib.Decide.{dec_lt}
use native.Mathlib.Omega.{arith}
use Rattle.sets.specs.Quantifiers.{all_below, some_below, count_below, some_of}
use Rattle.sets.proofs.Quantifiers.{same_test, both_ways, some_of_lem}

-- tests that agree below n
module _ (p q : ℕ → Bool) where
  pub all_same : (n : ℕ) → ((k : ℕ) → k < n → p k ≡ q k) → all_below n p ≡ all_below n q
  unfolding all_below
  all_same zero f = refl
  all_same (suc n) f = rw (all_same n (λ k h. f k (omega arith)), f n (omega arith))

  pub some_same : (n : ℕ) → ((k : ℕ) → k < n → p k ≡ q k) → some_below n p ≡ some_below n q
  unfolding some_below
  some_same zero f = refl
  some_same (suc n) f = rw (some_same n (λ k h. f k (omega arith)), f n (omega arith))

  pub count_same : (n : ℕ) → ((k : ℕ) → k < n → p k ≡ q k) → count_below n p ≡ count_below n q
  unfolding count_below
  count_same zero f = refl
  count_same (suc n) f = rw (count_same n (λ k h. f k (omega arith)), f n (omega arith))

-- the numbers below n, and the m numbers after them
pub some_split :
    (n m : ℕ) (f p : ℕ → Bool) →
    some_of (n + m) f p ≡ some_of n f p || some_of m (λ k. f (n + k)) (λ k. p (n + k))
unfolding some_of some_below
some_split n zero f p = rw (add-zero, or-false)
some_split n (suc m) f p = rw (add-suc, some_split n m f p) (or_assoc (some_of n f p) _ _)

pub count_split :
    (n m : ℕ) (p : ℕ → Bool) → count_below (n + m) p ≡ count_below n p + count_below m (λ k. p (n + k))
unfolding count_below
count_split n zero p = rw (add-zero n) (omega arith)
count_split n (suc m) p = rw (add-suc, count_split n m p) (omega arith)

-- how many numbers pass a test that none passes from n on
none_counted : (p : ℕ → Bool) (n : ℕ) → ((k : ℕ) → p k ≡ false) → count_below n p ≡ 0
unfolding count_below
none_counted p zero f = refl
none_counted p (suc n) f = rw (none_counted p n f, f n)

pub count_up_to :
    (p : ℕ → Bool) (n m : ℕ) → n ≤ m → ((k : ℕ) → n ≤ k → p k ≡ false) → count_below m p ≡ count_below n p
count_up_to p n m h f =
    ap (λ (k : ℕ). count_below k p) (sym (add-sub_of_le h))
    ∙ count_split n (m - n) p
    ∙ rw (none_counted (λ k. p (n + k)) (m - n) (λ k. f (n + k) (omega arith))) (add-zero (count_below n p))

-- one number more that does not pass
pub none_more :
    (n : ℕ) (f p : ℕ → Bool) → some_of n f p ≡ false → f n && p n ≡ false → some_of (n + 1) f p ≡ false
unfolding some_of some_below
none_more n f p e h = rw (add-one, e) h

-- where f is g below n and passes no number from n on, and p is q below n
pub some_narrow :
    (n m : ℕ) (f p g q : ℕ → Bool) → n ≤ m → ((k : ℕ) → k < n → f k ≡ g k) → ((k : ℕ) → k < n → p k ≡ q k) →
    ((k : ℕ) → n ≤ k → k < m → f k ≡ false) → some_of m f p ≡ some_of n g q
some_narrow n m f p g q short same_f same_p none =
    same_test (some_of m f p) (some_of n g q)
    (λ t.
    let (k, h, e) = (some_of_lem m f).read p t in
    elim (dec_lt k n) [
      | yes l ↦ (some_of_lem n g).make q k (l, sym (same_f k l) ∙ h.1) (sym (same_p k l) ∙ e)
      | no l ↦ both_ways h.1 (none k (omega arith) h.0)
    ])
    (λ t.
    let (k, h, e) = (some_of_lem n g).read q t in
    (some_of_lem m f).make p k (omega arith, same_f k h.0 ∙ h.1) (same_p k h.0 ∙ e))
