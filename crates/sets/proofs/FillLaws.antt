-- A set of numbers below 128 that is filled in increasing order, and a word that is filled from its highest bit down.
use Prim.Native.Nat.{ℕ, zero, suc, ◌+◌, ◌-◌, ◌*◌, ◌^◌, ◌<◌, ◌≤◌}
use mathlib.Core.Path.{◌≡◌, refl, sym, ap, ◌∙◌}
use mathlib.Core.Bool.{Bool, false, ◌&&◌, ◌||◌, and-true, and-false, or-false}
use native.Mathlib.Nat.{mul_assoc, pow-suc, sub_self, zero-add, lt_of_lt_of_le}
use native.Mathlib.Numerals.{add-one}
use native.Mathlib.Decide.{ℕ_discrete, dec_lt}
use native.Mathlib.Omega.{arith}
use borrow.Author.Tests.{eq-eqb, ne_eqb, lt-ltb, le-ltb}
use lib.Dec.{eqb, ltb}
use lib.Pow.{pow_mono}
use Rattle.sets.specs.Quantifiers.{one_if}
use Rattle.sets.specs.Bits.{set_of}
use Rattle.sets.specs.RecordSets.{contains, record_set_of}
use Rattle.sets.specs.declared.record_set.RecordSet.{RecordSet}
use Rattle.sets.proofs.BitLaws.{set_bound}
use Rattle.sets.proofs.WordLaws.{words_ext}

-- w has those numbers below x that pass p
abbrev pub HasBelow : RecordSet → ℕ → (ℕ → Bool) → Type 0
HasBelow w x p = (k : ℕ) → k < 128 → contains w k ≡ ltb k x && p k

module _ (p : ℕ → Bool) where
  pub below_next :
      (v w : RecordSet) (x : ℕ) (b : Bool) → HasBelow v x p → b ≡ p x →
      ((k : ℕ) → k < 128 → contains w k ≡ b && eqb x k || contains v k) → HasBelow w (x + 1) p
  below_next v w x b h e f k l =
      f k l
      ∙ elim (ℕ_discrete x k) [
        | yes q ↦
            rw (h k l, eq-eqb x k q, and-true b, le-ltb k x (omega arith), or-false b, lt-ltb k (x + 1) (omega arith))
            (e ∙ ap p q)
        | no d ↦
            rw (h k l, ne_eqb x k d, and-false b)
            (elim (dec_lt k x) [
              | yes g ↦ rw (lt-ltb k x g, lt-ltb k (x + 1) (omega arith))
              | no g ↦ rw (le-ltb k x (omega arith), le-ltb k (x + 1) (omega arith))
            ])
      ]

  pub below_all :
      (w : RecordSet) (x : ℕ) → w.low < 2 ^ 64 → w.high < 2 ^ 64 → HasBelow w x p →
      ((k : ℕ) → k < 128 → x ≤ k → p k ≡ false) → w ≡ record_set_of p
  below_all w x low high h none =
      words_ext w p low high
      (λ k l.
      h k l
      ∙ elim (dec_lt k x) [
        | yes b ↦ rw (lt-ltb k x b)
        | no b ↦ rw (le-ltb k x (omega arith)) (sym (none k l (omega arith)))
      ])

-- the numbers below n + 1 that pass p: 0, and those above it
set_doubled :
    (n : ℕ) (p q : ℕ → Bool) (b : Bool) → b ≡ p 0 → ((k : ℕ) → q k ≡ p (suc k)) →
    set_of n q * 2 + one_if b ≡ set_of (suc n) p
unfolding set_of
set_doubled zero p q b e f = rw e (omega arith)
set_doubled (suc n) p q b e f =
    rw (← (set_doubled n p q b e f), f n, pow-suc 2 n, ← (mul_assoc (one_if (p (suc n))) (2 ^ n) 2)) (omega arith)

-- After i turns the word has those of the i highest of the numbers below n that pass p.
pub record HasHighest (n : ℕ) (p : ℕ → Bool) (word i : ℕ) : Type 0 where
  pub turns : i ≤ n
  pub has : word ≡ set_of i (λ j. p (n - i + j))

pub highest_none : {n : ℕ} {p : ℕ → Bool} → HasHighest n p 0 0
unfolding set_of
highest_none = record { turns = omega arith; has = refl }

module _ {n : ℕ} {p : ℕ → Bool} {word i : ℕ} (h : HasHighest n p word i) where
  pub highest_bound : i < n → word < 2 ^ (n - 1)
  highest_bound l = rw h.has (lt_of_lt_of_le (set_bound i _) (pow_mono (omega arith)))

  pub highest_next : {b : Bool} → i < n → b ≡ p (n - 1 - i) → HasHighest n p (word * 2 + one_if b) (i + 1)
  highest_next {b} l e =
      record {
        turns = omega arith;
        has = rw (h.has, add-one i) (set_doubled i _ _ b (e ∙ ap p (omega arith)) (λ k. ap p (omega arith)));
      }

  pub highest_all : n ≤ i → word ≡ set_of n p
  highest_all l =
      let e : i ≡ n = omega (arith, h) in
      h.has ∙ rw e (simp (sub_self, zero-add))
