-- Laws of the search for an uncovered request: a level's loop, turn by turn, and that a mask with more directives leaves no more uncovered.
use Prim.Native.Nat.{ℕ, zero, suc, ◌+◌, ◌^◌, ◌<◌, ◌≤◌}
use mathlib.Core.Path.{◌≡◌, refl, sym, ap, ◌∙◌}
use mathlib.Core.Bool.{Bool, true, false, ◌&&◌, not}
use mathlib.Core.List.{List, [], ◌∷◌}
use native.Mathlib.Numerals.{add-one}
use native.Mathlib.Omega.{arith}
use borrow.Author.Tests.{eqb-true, eq-eqb, ne_eqb, not-true, eqb-false}
use lib.ListN.{length, take, get_or}
use lib.Seq.{take-suc, take_all}
use lib.Dec.{eqb}
use lib.Bits.{bit_and}
use Rattle.sets.specs.Quantifiers.{all_below, all_of, all_in}
use Rattle.sets.specs.Bits.{bit}
use Rattle.sets.proofs.Quantifiers.{and_both, and_left, and_right, both_ways, never_true, implies_of, every_of, some_of_lem}
use Rattle.sets.proofs.Lists.{all_places, all_snoc}
use Rattle.sets.proofs.BitLaws.{bit_of_and, bit_zero, shares_and}
use Rattle.validation_redundancy.specs.Masks.{minutes_covered, level_covered}

-- what holds of a mask holds of one with more bits
abbrev Monotone : (ℕ → Bool) → Type 0
Monotone inner =
    (a b : ℕ) → ((i : ℕ) → bit i a ≡ true → bit i b ≡ true) → inner a ≡ true → inner b ≡ true

below_power : (n : ℕ) → n < 2 ^ n
below_power zero = omega arith
below_power (suc n) = omega (arith, below_power n)

-- what holds of all of a list holds at each place
all_at : (p : ℕ → Bool) (l : List ℕ) (k : ℕ) → k < length l → all_in p l ≡ true → p (get_or l k 0) ≡ true
unfolding all_in
all_at p [] k h e = elim h [ ]
all_at p (m ∷ l) zero h e = and_left (p m) (all_in p l) e
all_at p (m ∷ l) (suc k) h e = all_at p l k (omega arith) (and_right (p m) (all_in p l) e)

pub minutes_monotone : (masks : List ℕ) → Monotone (minutes_covered masks)
unfolding minutes_covered
minutes_monotone masks a b more e =
    all_places (λ m. not (eqb (bit_and b m) 0)) 0 masks
    (λ k h.
    let m = get_or masks k 0 in
    let (i, j, l) = (some_of_lem a (λ i. bit i a)).read (λ i. bit i m)
    (sym (shares_and a a m (below_power a)) ∙ all_at (λ m. not (eqb (bit_and a m) 0)) masks k h e) in
    let set : bit i (bit_and b m) ≡ true = bit_of_and i b m ∙ rw (more i j.1, l) in
    ap not (ne_eqb (bit_and b m) 0 (λ z. both_ways set (ap (bit i) z ∙ bit_zero i))))

pub level_monotone :
    (n set : ℕ) (masks : List ℕ) (inner : ℕ → Bool) → Monotone inner → Monotone (level_covered n set masks inner)
unfolding level_covered
level_monotone n set masks inner grows a b more e =
    (every_of n (λ k. bit k set)).make _
    (λ k h.
    let m = get_or masks k 0 in
    grows (bit_and a m) (bit_and b m)
    (λ i t.
    let (x, y) = and_both (bit i a) (bit i m) (sym (bit_of_and i a m) ∙ t) in
    bit_of_and i b m ∙ rw (more i x, y))
    ((every_of n (λ k. bit k set)).read _ e k h))

-- a mask that is not 0 left nothing uncovered
abbrev Fine : (ℕ → Bool) → ℕ → Type 0
Fine inner done = (done ≡ 0 → ⊥) → inner done ≡ true

-- and so does one that has all of it
known_covered :
    (inner : ℕ → Bool) → Monotone inner → (done mask : ℕ) {r : Bool} → Fine inner done →
    r ≡ not (eqb done 0) && eqb (bit_and mask done) done → r ≡ true → inner mask ≡ true
known_covered inner grows done mask fine e t =
    let (some_in, within) = and_both (not (eqb done 0)) _ (sym e ∙ t) in
    grows done mask
    (λ i b.
    (and_both (bit i mask) (bit i done)
    (sym (bit_of_and i mask done) ∙ ap (bit i) (eqb-true (bit_and mask done) done within) ∙ b)).0)
    (fine (eqb-false done 0 (not-true _ some_in)))

-- One level of the search: n values, those that pass f looked at, the mask at each, and the level below. Before the turn of
-- value k the values before it leave nothing uncovered, nor does `done`, the last mask that was looked at, and `covered` says so.
pub record Passed (n : ℕ) (f : ℕ → Bool) (mask : ℕ → ℕ) (inner : ℕ → Bool) (covered : Bool) (done k : ℕ) : Type 0 where
  pub still : covered ≡ true
  pub in_range : k ≤ n
  pub so_far : all_of k f (λ k. inner (mask k)) ≡ true
  pub fine : Fine inner done

next :
    (f p : ℕ → Bool) (k : ℕ) → all_of k f p ≡ true → (f k ≡ true → p k ≡ true) → all_of (k + 1) f p ≡ true
unfolding all_of all_below
next f p k e g = rw (add-one, e, implies_of (f k) (p k) g)

module _ {n : ℕ} {f : ℕ → Bool} {mask : ℕ → ℕ} {inner : ℕ → Bool} {covered : Bool} where
  pub passed_none : covered ≡ true → Passed n f mask inner covered 0 0
  unfolding all_of all_below
  passed_none still =
      record { still = still; in_range = omega arith; so_far = refl; fine = λ some_in. absurd (some_in refl) }

  module _ {done k : ℕ} (before : Passed n f mask inner covered done k) (h : k < n) where
    -- a value that is not looked at
    pub passed_skip : f k ≡ false → Passed n f mask inner covered done (k + 1)
    passed_skip e =
        record {
          still = before.still;
          in_range = omega arith;
          so_far = next f _ k before.so_far (λ t. both_ways t e);
          fine = before.fine;
        }

    -- a mask that has all of the last one
    pub passed_known :
        Monotone inner → {m : ℕ} {r : Bool} → m ≡ mask k → r ≡ not (eqb done 0) && eqb (bit_and m done) done → r ≡ true →
        Passed n f mask inner covered done (k + 1)
    passed_known grows {m} is_mask e t =
        record {
          still = before.still;
          in_range = omega arith;
          so_far = next f _ k before.so_far (λ _. ap inner (sym is_mask) ∙ known_covered inner grows done m before.fine e t);
          fine = before.fine;
        }

    -- a mask that the level below has found to leave nothing uncovered
    pub passed_more :
        {m : ℕ} {after : Bool} → after ≡ true → m ≡ mask k → inner m ≡ true → Passed n f mask inner after m (k + 1)
    passed_more still is_mask e =
        record {
          still = still;
          in_range = omega arith;
          so_far = next f _ k before.so_far (λ _. ap inner (sym is_mask) ∙ e);
          fine = λ _. e;
        }

  -- the loop's end, and the way out of it
  pub passed_all :
      {done k : ℕ} → Passed n f mask inner covered done k → n ≤ k → all_of n f (λ k. inner (mask k)) ≡ true
  passed_all {k} p l = let q : k ≡ n = omega (arith, p.in_range) in rw q at p.so_far

pub passed_not :
    {n : ℕ} {f : ℕ → Bool} {mask : ℕ → ℕ} {inner : ℕ → Bool} {covered : Bool} {done k m : ℕ} →
    Passed n f mask inner covered done k →
    k < n → f k ≡ true → m ≡ mask k → inner m ≡ false → all_of n f (λ k. inner (mask k)) ≡ false
passed_not {n} {f} {mask} {inner} {k} _ h e is_mask g =
    never_true (all_of n f (λ k. inner (mask k)))
    (λ t. both_ways ((every_of n f).read _ t k (h, e)) (ap inner (sym is_mask) ∙ g))

module _ (n set : ℕ) (masks : List ℕ) (inner : ℕ → Bool) (e : ℕ) where
  pub level_all :
      {covered : Bool} {done k : ℕ} →
      Passed n (λ k. bit k set) (λ k. bit_and e (get_or masks k 0)) inner covered done k → n ≤ k →
      level_covered n set masks inner e ≡ true
  unfolding level_covered
  level_all p l = passed_all p l

  pub level_not :
      {covered : Bool} {done k : ℕ} →
      Passed n (λ k. bit k set) (λ k. bit_and e (get_or masks k 0)) inner covered done k →
      k < n → bit k set ≡ true → inner (bit_and e (get_or masks k 0)) ≡ false → level_covered n set masks inner e ≡ false
  unfolding level_covered
  level_not p h t g = passed_not p h t refl g

-- the innermost level
pub record MinutesPassed (masks : List ℕ) (e : ℕ) (covered : Bool) (k : ℕ) : Type 0 where
  pub still : covered ≡ true
  pub so_far : minutes_covered (take k masks) e ≡ true

module _ {masks : List ℕ} {e : ℕ} {covered : Bool} where
  pub minutes_none : covered ≡ true → MinutesPassed masks e covered 0
  unfolding minutes_covered all_in
  minutes_none still = record { still = still; so_far = refl }

  pub minutes_more :
      {k : ℕ} → MinutesPassed masks e covered k → k < length masks → (bit_and e (get_or masks k 0) ≡ 0 → ⊥) →
      MinutesPassed masks e covered (k + 1)
  unfolding minutes_covered
  minutes_more {k} p h some_in =
      record {
        still = p.still;
        so_far =
            rw (add-one, take-suc masks k 0 h)
            (all_snoc (λ m. not (eqb (bit_and e m) 0)) (take k masks) (get_or masks k 0) p.so_far
            (ap not (ne_eqb (bit_and e (get_or masks k 0)) 0 some_in)));
      }

  pub minutes_all : {k : ℕ} → MinutesPassed masks e covered k → length masks ≤ k → minutes_covered masks e ≡ true
  minutes_all {k} p l = rw (take_all k masks l) at p.so_far

pub minutes_not :
    (masks : List ℕ) (e : ℕ) {k : ℕ} → k < length masks → bit_and e (get_or masks k 0) ≡ 0 → minutes_covered masks e ≡ false
unfolding minutes_covered
minutes_not masks e {k} h none =
    never_true (minutes_covered masks e)
    (λ t. both_ways (all_at (λ m. not (eqb (bit_and e m) 0)) masks k h t) (ap not (eq-eqb (bit_and e (get_or masks k 0)) 0 none)))
