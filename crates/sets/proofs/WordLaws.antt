-- Laws of sets of numbers below 128 as two words: which bit of which word says that a number is in the set, and that a set is the two
-- words of its numbers.
use Prim.Native.Nat.{ℕ, ◌+◌, ◌-◌, ◌*◌, ◌%◌, ◌^◌, ◌<◌, ◌≤◌}
use mathlib.Core.Path.{◌≡◌, refl, sym, ap, ap₂, ◌∙◌}
use mathlib.Core.Bool.{Bool, true, false, not, ◌&&◌, ◌||◌, and-true, and-false}
use native.Mathlib.Nat.{add-sub_cancel_left, add-sub_of_le, zero-add}
use native.Mathlib.Decide.{dec_lt}
use native.Mathlib.Omega.{arith}
use borrow.Author.Tests.{lt-ltb, le-ltb, eqb-true, eq-eqb, ne_eqb}
use lib.Dec.{eqb, ltb}
use lib.Bits.{bit_and, bit_or}
use Rattle.sets.specs.Quantifiers.{pick, some_of, count_below}
use Rattle.sets.specs.Bits.{bit}
use Rattle.sets.specs.RecordSets.{contains, word_of, record_set_of, set_bits}
use Rattle.sets.specs.declared.record_set.RecordSet.{RecordSet}
use Rattle.sets.proofs.Quantifiers.{same_test}
use Rattle.sets.proofs.Ranges.{some_same, some_split, count_same, count_split}
use Rattle.sets.proofs.BitLaws.{bit_zero, bit_with, set_bit, set_ext, ones_set, shares_and}

-- number k is bit k of the low word, or bit k - 64 of the high one
module _ (w : RecordSet) (k : ℕ) where
  pub contains_low : k < 64 → contains w k ≡ bit k w.low
  unfolding contains
  contains_low h = rw (lt-ltb k 64 h)

  pub contains_high : 64 ≤ k → k < 128 → contains w k ≡ bit (k - 64) w.high
  unfolding contains
  contains_high l h = rw (le-ltb k 64 l, lt-ltb k 128 h) (and-true (bit (k - 64) w.high))

  pub contains_past : 128 ≤ k → contains w k ≡ false
  unfolding contains
  contains_past l = rw (le-ltb k 64 (omega arith), le-ltb k 128 l) (and-false (bit (k - 64) w.high))

pub contains_next : (w : RecordSet) (k : ℕ) → k < 64 → contains w (64 + k) ≡ bit k w.high
contains_next w k h =
    contains_high w (64 + k) (omega arith) (omega arith)
    ∙ ap (λ (j : ℕ). bit j w.high) (add-sub_cancel_left 64 k)

-- no number is in the set of two words 0
pub contains_none : (k : ℕ) → contains (record { low = 0; high = 0 }) k ≡ false
unfolding contains
contains_none k = rw (bit_zero k, bit_zero (k - 64)) (neither (ltb k 64))
  where
    neither : (b : Bool) → pick b false false ≡ false
    neither true = refl
    neither false = refl

-- the two words of those numbers that pass p have those numbers, and there are no others
word_bit : (p : ℕ → Bool) (i k : ℕ) → k < 64 → bit k (word_of p i) ≡ p (64 * i + k)
word_bit p i k h = set_bit 64 k (λ k. p (64 * i + k)) ∙ rw (lt-ltb k 64 h)

pub contains_words : (p : ℕ → Bool) (k : ℕ) → k < 128 → contains (record_set_of p) k ≡ p k
contains_words p k h =
    elim (dec_lt k 64) [
      | yes l ↦ contains_low (record_set_of p) k l ∙ word_bit p 0 k l ∙ ap p (zero-add k)
      | no g ↦ contains_high (record_set_of p) k (omega arith) h ∙ word_bit p 1 (k - 64) (omega arith) ∙ ap p (add-sub_of_le (omega arith))
    ]

pub words_ext :
    (w : RecordSet) (p : ℕ → Bool) → w.low < 2 ^ 64 → w.high < 2 ^ 64 →
    ((k : ℕ) → k < 128 → contains w k ≡ p k) → w ≡ record_set_of p
words_ext w p low high f =
    ap₂ (λ (x y : ℕ). record { low = x; high = y })
    (set_ext 64 w.low _ low (λ k h. sym (contains_low w k h) ∙ f k (omega arith) ∙ ap p (sym (zero-add k))))
    (set_ext 64 w.high _ high (λ k h. sym (contains_next w k h) ∙ f (64 + k) (omega arith)))

-- a number more: a bit more in one of the words
module _ (w : RecordSet) (x : ℕ) where
  pub with_low :
      x < 64 → (k : ℕ) → k < 128 →
      contains (record { low = bit_or w.low (1 * 2 ^ x % 2 ^ 64); high = w.high }) k ≡ eqb x k || contains w k
  with_low h k b =
      elim (dec_lt k 64) [
        | yes l ↦ contains_low _ k l ∙ bit_with 64 x k w.low h ∙ rw (contains_low w k l)
        | no g ↦ contains_high _ k (omega arith) b ∙ sym (contains_high w k (omega arith) b) ∙ rw (ne_eqb x k (λ e. omega arith))
      ]

  pub with_high :
      64 ≤ x → x < 128 → (k : ℕ) → k < 128 →
      contains (record { low = w.low; high = bit_or w.high (1 * 2 ^ (x - 64) % 2 ^ 64) }) k
      ≡ eqb x k || contains w k
  with_high g h k b =
      elim (dec_lt k 64) [
        | yes l ↦ contains_low _ k l ∙ sym (contains_low w k l) ∙ rw (ne_eqb x k (λ e. omega arith))
        | no l ↦
            contains_high _ k (omega arith) b ∙ bit_with 64 (x - 64) (k - 64) w.high (omega arith)
            ∙ ap₂ ◌||◌ (same (omega arith)) (sym (contains_high w k (omega arith) b))
      ]
    where
      same : 64 ≤ k → eqb (x - 64) (k - 64) ≡ eqb x k
      same l =
          same_test (eqb (x - 64) (k - 64)) (eqb x k)
          (λ t. eq-eqb x k (omega (arith, eqb-true (x - 64) (k - 64) t)))
          (λ t. eq-eqb (x - 64) (k - 64) (omega (arith, eqb-true x k t)))

-- what two sets share, word by word
pub overlap_words :
    (v w : RecordSet) → v.low < 2 ^ 64 → v.high < 2 ^ 64 →
    not (eqb (bit_and v.low w.low) 0) || not (eqb (bit_and v.high w.high) 0)
    ≡ some_of 128 (contains v) (contains w)
unfolding some_of
overlap_words v w low high =
    ap₂ ◌||◌
    (shares_and 64 v.low w.low low
    ∙ some_same _ _ 64 (λ k h. sym (ap₂ ◌&&◌ (contains_low v k h) (contains_low w k h))))
    (shares_and 64 v.high w.high high
    ∙ some_same _ _ 64 (λ k h. sym (ap₂ ◌&&◌ (contains_next v k h) (contains_next w k h))))
    ∙ sym (some_split 64 64 (contains v) (contains w))

-- the count of set bits is that of the numbers below 128 that pass
pub marked_count : (p : ℕ → Bool) → set_bits (record_set_of p) ≡ count_below 128 p
marked_count p =
    ap₂ ◌+◌ (ones_set 64 _ ∙ count_same _ p 64 (λ k _. ap p (zero-add k))) (ones_set 64 _) ∙ sym (count_split 64 64 p)
