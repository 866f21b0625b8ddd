-- Laws of masks: which directives a mask has, and that two share a bit where one directive passes both tests.
use Prim.Native.Nat.{ℕ, zero, suc, ◌+◌, ◌^◌, ◌<◌, ◌≤◌}
use mathlib.Core.Path.{◌≡◌, refl, ap, ap₂, ◌∙◌}
use mathlib.Core.Bool.{Bool, true, false, ◌&&◌, not, and-true}
use mathlib.Core.List.{List, [], ◌∷◌, ◌++◌, map, map-append}
use native.Mathlib.Nat.{lt_of_le_of_lt}
use native.Mathlib.Numerals.{add-one}
use native.Mathlib.Omega.{arith}
use borrow.Author.Tests.{lt-ltb, le-ltb}
use lib.ListN.{length, length-map, take, get_or, get_or-map}
use lib.Seq.{take-suc, take-length}
use lib.Dec.{eqb, ltb}
use lib.Bits.{bit_and, and_le_l}
use Rattle.sets.specs.Quantifiers.{pick, all_below, some_below, some_of, all_in, some_in, keep}
use Rattle.sets.specs.Bits.{bit}
use Rattle.sets.proofs.Keep.{keep_next}
use Rattle.sets.proofs.Lists.{all_append, some_snoc}
use Rattle.sets.proofs.Ranges.{some_narrow}
use Rattle.sets.proofs.BitLaws.{bit_of_and, bit_zero, set_bit, shares_and}
use Rattle.sets.proofs.SetLaws.{set_small}
use Rattle.active.specs.declared.Active.{Active}
use Rattle.active.specs.Active.{no_active}
use Rattle.validation_redundancy.specs.Masks.{mask_where, boundaries_of}

-- a test of each, and of some, of the first n elements, by their places
module _ {A : Type 0} (p : A → Bool) (z : A) (l : List A) where
  all_first : (n : ℕ) → n ≤ length l → all_below n (λ i. p (get_or l i z)) ≡ all_in p (take n l)
  unfolding all_below all_in
  all_first zero h = refl
  all_first (suc n) h =
      rw (take-suc l n z (omega arith), all_append p (take n l) (get_or l n z ∷ []), all_first n (omega arith), and-true (p (get_or l n z)))

  some_first : (n : ℕ) → n ≤ length l → some_below n (λ i. p (get_or l i z)) ≡ some_in p (take n l)
  unfolding some_below some_in
  some_first zero h = refl
  some_first (suc n) h =
      rw (take-suc l n z (omega arith), some_snoc p (take n l) (get_or l n z), some_first n (omega arith))

-- bit k of a where b holds, and of 0 elsewhere
bit_pick : (b : Bool) (k a : ℕ) → bit k (pick b a 0) ≡ b && bit k a
bit_pick true k a = refl
bit_pick false k a = bit_zero k

within_both : (x y z : Bool) → x && y && (x && z) ≡ x && (y && z)
within_both true y z = refl
within_both false y z = refl

-- the mask has those of the entries that pass t
record Has (l : List Active) (mask : ℕ) (t : Active → Bool) : Type 0 where
  small : mask < 2 ^ 32
  at : (i : ℕ) → i < 32 → bit i mask ≡ ltb i (length l) && t (get_or l i no_active)

module _ (l : List Active) (few : length l ≤ 32) where
  has_alike :
      (mask : ℕ) (s t : Active → Bool) → ((a : Active) → s a ≡ t a) → Has l mask s → Has l mask t
  has_alike mask s t f h =
      record { small = h.small; at = λ i less. h.at i less ∙ rw (f (get_or l i no_active)) }

  has_where : (t : Active → Bool) → Has l (mask_where t l) t
  has_where t = record { small = set_small _ (length l) 32 few; at = λ i h. set_bit (length l) i _ }

  has_and : (a b : ℕ) (s t : Active → Bool) → Has l a s → Has l b t → Has l (bit_and a b) (λ e. s e && t e)
  has_and a b s t f g =
      record {
        small = lt_of_le_of_lt (and_le_l a b) f.small;
        at = λ i h. bit_of_and i a b ∙ ap₂ ◌&&◌ (f.at i h) (g.at i h) ∙ within_both (ltb i (length l)) _ _;
      }

  -- two masks share a bit where one of the entries passes both tests
  has_some :
      (a b : ℕ) (s t : Active → Bool) → Has l a s → Has l b t → not (eqb (bit_and a b) 0) ≡ some_in (λ e. s e && t e) l
  unfolding some_of
  has_some a b s t f g =
      shares_and 32 a b f.small
      ∙ some_narrow (length l) 32 _ _ (λ i. s (get_or l i no_active)) (λ i. t (get_or l i no_active)) few
      (λ i h. f.at i (omega arith) ∙ rw (lt-ltb i (length l) h))
      (λ i h. g.at i (omega arith) ∙ rw (lt-ltb i (length l) h))
      (λ i h b. f.at i b ∙ rw (le-ltb i (length l) h))
      ∙ some_first (λ e. s e && t e) no_active l (length l) (omega arith)
      ∙ ap (some_in (λ e. s e && t e)) (take-length l)

  -- and five masks share one where one of the entries passes the five tests
  pub five_share :
      (p q r s t : Active → Bool) →
      not
      (eqb
      (bit_and (bit_and (bit_and (bit_and (mask_where p l) (mask_where q l)) (mask_where r l)) (mask_where s l)) (mask_where t l))
      0)
      ≡ some_in (λ e. p e && q e && r e && s e && t e) l
  five_share p q r s t =
      let two = has_and (mask_where p l) (mask_where q l) p q (has_where p) (has_where q) in
      let three = has_and _ (mask_where r l) _ r two (has_where r) in
      let four = has_and _ (mask_where s l) _ s three (has_where s) in
      has_some _ (mask_where t l) _ t four (has_where t)

-- The walk over the minutes: before turn i there are the images of those of the first i that pass s.
module _ (f : ℕ → ℕ) (s : ℕ → Bool) (ms : List ℕ) where
  pub walked_none : [] ≡ map f (keep s (take 0 ms))
  unfolding keep
  walked_none = refl

  module _ {xs : List ℕ} {i m : ℕ} (walked : xs ≡ map f (keep s (take i ms))) (h : i < length ms) (here : m ≡ get_or ms i 0) where
    pub walked_next :
        {ys : List ℕ} {v : ℕ} → s m ≡ true → v ≡ f m → ys ≡ xs ++ (v ∷ []) → ys ≡ map f (keep s (take (i + 1) ms))
    walked_next passes is next =
        next ∙ rw (keep_next s ms i 0 h, ← here, passes, map-append f (keep s (take i ms)) (m ∷ []), is, walked)

    pub walked_skip : s m ≡ false → xs ≡ map f (keep s (take (i + 1) ms))
    walked_skip fails = rw (keep_next s ms i 0 h, ← here, fails) walked

-- the minutes looked at, one by one
module _ (first : ℕ) (l : List Active) where
  pub boundaries_long : length (boundaries_of first l) ≡ length l + 1
  boundaries_long = rw (length-map l, add-one)

  pub boundary_at : (i : ℕ) → get_or (boundaries_of first l) (i + 1) 0 ≡ (get_or l i no_active).directive.until
  boundary_at i = rw add-one (get_or-map (λ (a : Active). a.directive.until) l i no_active)
