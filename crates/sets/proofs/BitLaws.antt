-- Laws of bits: a number is the set of its bits; `&`, `|`, a power of two and the count of ones, bit by bit.
use Prim.Native.Nat.{ℕ, zero, suc, ◌+◌, ◌*◌, ◌/◌, ◌%◌, ◌^◌, ◌-◌, ◌<◌, ◌≤◌, min, max}
use mathlib.Core.Path.{◌≡◌, refl, sym, ap, ap₂, ◌∙◌}
use mathlib.Core.Bool.{Bool, true, false, not, ◌&&◌, ◌||◌, or_comm}
use mathlib.Core.Logic.{⊎_elim}
use native.Mathlib.Nat.{add_comm, one-mul, zero-div, div_self, mod_self, mod-lt, mod-eq_of_lt, mod-add-div', mul-add-mod_self_right, div-eq_of_lt, lt_of_lt_of_le, lt_of_le_of_lt}
use native.Mathlib.Numerals.{one-add}
use native.Mathlib.Decide.{ℕ_discrete, dec_lt}
use native.Mathlib.Omega.{arith}
use borrow.Author.Tests.{eqb-true, eq-eqb, ne_eqb, lt-ltb, le-ltb}
use lib.Dec.{eqb, ltb, leb-suc-zero}
use lib.Arith.{digits_lt, digits_mod, digits_div}
use lib.Pow.{pow_pos, pow_mono, pow-lt, shr_lt, shl_exact, field, mod-mod-pow}
use lib.Bits.{bit_and, bit_or, and_step, and_shr, and_le_l, or_step, or_shr}
use lib.Count.{ones, ones_cat}
use Rattle.sets.specs.Quantifiers.{one_if, some_below, some_of, count_below}
use Rattle.sets.specs.Bits.{bit, subset, shares, set_of}
use Rattle.sets.proofs.Quantifiers.{same_test, either_way, never_true, and_both, both_ways, every_of, some_below_lem}
use Rattle.sets.proofs.Ranges.{some_same, some_narrow}

-- a digit and its test
digit : (x : ℕ) → x < 2 → one_if (eqb x 1) ≡ x
digit zero h = refl
digit (suc zero) h = refl
digit (suc (suc x)) h = absurd (omega arith)

test_one : (b : Bool) → eqb (one_if b % 2) 1 ≡ b
test_one true = refl
test_one false = refl

one_lt : (b : Bool) → one_if b < 2
one_lt true = omega arith
one_lt false = omega arith

-- an operation on digits, bit by bit
module _ (op f : ℕ → ℕ → ℕ) (g : Bool → Bool → Bool)
    (shr : (a b k : ℕ) → op a b / 2 ^ k ≡ op (a / 2 ^ k) (b / 2 ^ k))
    (step : (a b : ℕ) → op a b ≡ op (a / 2) (b / 2) * 2 + f (a % 2) (b % 2))
    (digits : (x y : Bool) → f (one_if x) (one_if y) ≡ one_if (g x y)) where
  bit_op : (k a b : ℕ) → bit k (op a b) ≡ g (bit k a) (bit k b)
  bit_op k a b =
      let x = a / 2 ^ k in
      let y = b / 2 ^ k in
      let e : op x y ≡ op (x / 2) (y / 2) * 2 + one_if (g (bit k a) (bit k b)) =
      step x y
      ∙ ap (λ (n : ℕ). op (x / 2) (y / 2) * 2 + n)
      (ap₂ f (sym (digit (x % 2) (omega arith))) (sym (digit (y % 2) (omega arith))) ∙ digits (bit k a) (bit k b)) in
      ap (λ (n : ℕ). eqb (n % 2) 1) (shr a b k ∙ e)
      ∙ ap (λ (n : ℕ). eqb n 1) (mul-add-mod_self_right (op (x / 2) (y / 2)) 2 (one_if (g (bit k a) (bit k b))))
      ∙ test_one (g (bit k a) (bit k b))

pub bit_of_and : (k a b : ℕ) → bit k (bit_and a b) ≡ bit k a && bit k b
bit_of_and = bit_op bit_and min ◌&&◌ and_shr and_step both
  where
    both : (x y : Bool) → min (one_if x) (one_if y) ≡ one_if (x && y)
    both true true = refl
    both true false = refl
    both false true = refl
    both false false = refl

pub bit_of_or : (k a b : ℕ) → bit k (bit_or a b) ≡ bit k a || bit k b
bit_of_or = bit_op bit_or max ◌||◌ or_shr or_step either
  where
    either : (x y : Bool) → max (one_if x) (one_if y) ≡ one_if (x || y)
    either true true = refl
    either true false = refl
    either false true = refl
    either false false = refl

-- a number below 2 ^ n has no bit from n on
pub bit_past : (n k a : ℕ) → a < 2 ^ n → n ≤ k → bit k a ≡ false
bit_past n k a h l = ap (λ (x : ℕ). eqb (x % 2) 1) (div-eq_of_lt (lt_of_lt_of_le h (pow_mono l)))

pub bit_zero : (k : ℕ) → bit k 0 ≡ false
bit_zero k = ap (λ (x : ℕ). eqb (x % 2) 1) (zero-div (2 ^ k))

-- the bits below n are those of the rest by 2 ^ n
pub bit_low : (n k a : ℕ) → k < n → bit k (a % 2 ^ n) ≡ bit k a
bit_low n k a h =
    let j = n - suc k in
    let e : n ≡ j + 1 + k = omega arith in
    ap (λ (x : ℕ). eqb x 1)
    (ap (λ (m : ℕ). a % 2 ^ m / 2 ^ k % 2) e ∙ ap (λ (x : ℕ). x % 2) (field a (j + 1) k) ∙ mod-mod-pow (a / 2 ^ k) j 1)

-- and there are no others
pub bit_rest : (n k a : ℕ) → bit k (a % 2 ^ n) ≡ ltb k n && bit k a
bit_rest n k a =
    elim (dec_lt k n) [
      | yes l ↦ bit_low n k a l ∙ rw (lt-ltb k n l)
      | no g ↦ bit_past n k (a % 2 ^ n) (mod-lt a (pow_pos n)) (omega arith) ∙ rw (le-ltb k n (omega arith))
    ]

-- bit n of a number of n + 1 bits is what stands above its n low bits
top_bit : (n a : ℕ) → a < 2 ^ suc n → one_if (bit n a) ≡ a / 2 ^ n
top_bit n a h = digit (a / 2 ^ n % 2) (omega arith) ∙ mod-eq_of_lt (shr_lt 1 n (rw one-add h))

-- a set of numbers below n is a number below 2 ^ n, and a number is the set of its bits
pub set_bound : (n : ℕ) (p : ℕ → Bool) → set_of n p < 2 ^ n
unfolding set_of
set_bound zero p = omega arith
set_bound (suc n) p = omega (arith, digits_lt (one_lt (p n)) (set_bound n p))

pub set_ext : (n a : ℕ) (p : ℕ → Bool) → a < 2 ^ n → ((k : ℕ) → k < n → bit k a ≡ p k) → a ≡ set_of n p
unfolding set_of
set_ext zero a p h f = omega arith
set_ext (suc n) a p h f =
    sym (mod-add-div' a (2 ^ n))
    ∙ ap₂ (λ (x y : ℕ). x + y * 2 ^ n)
    (set_ext n (a % 2 ^ n) p (mod-lt a (pow_pos n)) (λ k l. bit_low n k a l ∙ f k (omega arith)))
    (sym (top_bit n a h) ∙ ap one_if (f n (omega arith)))

pub bits_ext : (n a b : ℕ) → a < 2 ^ n → b < 2 ^ n → ((k : ℕ) → k < n → bit k a ≡ bit k b) → a ≡ b
bits_ext n a b h l f = set_ext n a (λ k. bit k b) h f ∙ sym (set_ext n b (λ k. bit k b) l (λ k _. refl))

pub set_bit : (n k : ℕ) (p : ℕ → Bool) → bit k (set_of n p) ≡ ltb k n && p k
unfolding set_of
set_bit zero k p = rw (bit_zero k, leb-suc-zero k)
set_bit (suc n) k p =
    elim (dec_lt k n) [
      | yes l ↦ sym (bit_low n k (set_of (suc n) p) l) ∙ ap (bit k) low ∙ set_bit n k p
          ∙ rw (lt-ltb k n l, lt-ltb k (suc n) (omega arith))
      | no g ↦
          elim (ℕ_discrete k n) [
            | yes e ↦ rw (e, high, lt-ltb n (suc n) (omega arith)) (test_one (p n))
            | no d ↦ bit_past (suc n) k (set_of (suc n) p) (set_bound (suc n) p) (omega arith) ∙ rw (le-ltb k (suc n) (omega arith))
          ]
    ]
  where
    swap : set_of n p + one_if (p n) * 2 ^ n ≡ one_if (p n) * 2 ^ n + set_of n p
    swap = omega arith

    low : (set_of n p + one_if (p n) * 2 ^ n) % 2 ^ n ≡ set_of n p
    low = rw swap (digits_mod (one_if (p n)) (set_bound n p))

    high : (set_of n p + one_if (p n) * 2 ^ n) / 2 ^ n ≡ one_if (p n)
    high = rw swap (digits_div (one_if (p n)) (set_bound n p))

-- a power of two has one bit
pub bit_power : (k j : ℕ) → bit j (2 ^ k) ≡ eqb k j
bit_power k j =
    elim (dec_lt j k) [
      | yes l ↦ sym (bit_low k j (2 ^ k) l) ∙ ap (bit j) (mod_self (2 ^ k)) ∙ bit_zero j ∙ sym (ne_eqb k j (λ e. omega arith))
      | no g ↦
          elim (ℕ_discrete k j) [
            | yes e ↦ rw (← e, div_self (pow_pos k)) (sym (eq-eqb k k refl))
            | no d ↦ bit_past (suc k) j (2 ^ k) (pow-lt (omega arith)) (omega arith) ∙ sym (ne_eqb k j d)
          ]
    ]

-- `a | (1 << k)` at a width of n bits has k, and what a has
pub bit_with : (n k j a : ℕ) → k < n → bit j (bit_or a (1 * 2 ^ k % 2 ^ n)) ≡ eqb k j || bit j a
bit_with n k j a h =
    rw (shl_exact {a = 1} 1 k n (omega arith) (omega arith), one-mul, bit_of_or, bit_power)
    (or_comm (bit j a) (eqb k j))

-- the ones of a set are as many as the numbers in it
ones_one : (b : Bool) → ones (one_if b) ≡ one_if b
unfolding ones
ones_one true = refl
ones_one false = refl

pub ones_set : (n : ℕ) (p : ℕ → Bool) → ones (set_of n p) ≡ count_below n p
unfolding set_of count_below ones
ones_set zero p = refl
ones_set (suc n) p =
    rw (
      add_comm (set_of n p) (one_if (p n) * 2 ^ n),
      ones_cat n (one_if (p n)) (set_of n p) (set_bound n p),
      ones_one (p n),
      ones_set n p,
    )
    (add_comm (one_if (p n)) (count_below n p))

-- a number of n bits has one of them set where it is not 0
pub some_bits : (n a : ℕ) → a < 2 ^ n → some_below n (λ k. bit k a) ≡ not (eqb a 0)
some_bits n a h =
    let some = some_below_lem n in
    ⊎_elim
    (λ t.
    let (k, i, e) = some.read (λ k. bit k a) t in
    t ∙ sym (ap not (ne_eqb a 0 (λ z. both_ways e (ap (bit k) z ∙ bit_zero k)))))
    (λ t.
    let none : (k : ℕ) → k < n → bit k a ≡ bit k 0 =
    λ k l. never_true (bit k a) (λ e. both_ways (some.make (λ k. bit k a) k l e) t) ∙ sym (bit_zero k) in
    t ∙ sym (ap not (eq-eqb a 0 (bits_ext n a 0 h (pow_pos n) none))))
    (either_way (some_below n (λ k. bit k a)))

-- of any number, where its rest by 2 ^ n is not 0
pub some_low_bits : (n a : ℕ) → some_below n (λ k. bit k a) ≡ not (eqb (a % 2 ^ n) 0)
some_low_bits n a =
    some_same _ _ n (λ k l. sym (bit_low n k a l)) ∙ some_bits n (a % 2 ^ n) (mod-lt a (pow_pos n))

-- a lies in b where `a & b` is a, and they share a bit where it is not 0
module _ (n a b : ℕ) (h : a < 2 ^ n) where
  small : bit_and a b < 2 ^ n
  small = lt_of_le_of_lt (and_le_l a b) h

  pub subset_and : eqb (bit_and a b) a ≡ subset n a b
  subset_and =
      let every = every_of n (λ k. bit k a) in
      same_test (eqb (bit_and a b) a) (subset n a b)
      (λ t.
      let same = eqb-true (bit_and a b) a t in
      every.make (λ k. bit k b)
      (λ k i. (and_both (bit k a) (bit k b) (sym (bit_of_and k a b) ∙ ap (bit k) same ∙ i.1)).1))
      (λ t.
      eq-eqb (bit_and a b) a
      (bits_ext n (bit_and a b) a small h
      (λ k l. bit_of_and k a b ∙ absorb (bit k a) (bit k b) (λ e. every.read (λ k. bit k b) t k (l, e)))))
    where
      absorb : (x y : Bool) → (x ≡ true → y ≡ true) → x && y ≡ x
      absorb true y f = f refl
      absorb false y f = refl

  pub shares_and : not (eqb (bit_and a b) 0) ≡ shares n a b
  unfolding some_of
  shares_and = sym (some_bits n (bit_and a b) small) ∙ some_same _ _ n (λ k _. bit_of_and k a b)

-- what the n low bits of a share with b
pub shares_low : (n m a b : ℕ) → n ≤ m → shares m (a % 2 ^ n) b ≡ shares n a b
shares_low n m a b h =
    some_narrow n m _ _ _ _ h (λ k l. bit_low n k a l) (λ k l. refl)
    (λ k l _. bit_past n k (a % 2 ^ n) (mod-lt a (pow_pos n)) l)
