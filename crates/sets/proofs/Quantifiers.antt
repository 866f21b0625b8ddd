-- Laws of tests and of quantifiers. A quantifier ranges over the values of which `In` holds.
use Prim.Native.Nat.{ℕ, zero, suc, ◌<◌}
use mathlib.Core.Path.{◌≡◌, refl, sym, ap, ◌∙◌}
use mathlib.Core.Bool.{Bool, true, false, ◌&&◌, ◌||◌, not, beq, true≢false}
use mathlib.Core.Logic.{◌⊎◌, inl, inr, ⊎_elim}
use mathlib.Core.List.{List, [], ◌∷◌, Memᴰ}
use native.Mathlib.Omega.{arith}
use native.Mathlib.Decide.{ℕ_discrete}
use borrow.Author.Tests.{not-true}
use borrow.Author.Count.{below_more}
use Rattle.sets.specs.Quantifiers.{implies, all_below, some_below, all_of, some_of, all_in, some_in}

-- two tests that say the same
pub same_test : (a b : Bool) → (a ≡ true → b ≡ true) → (b ≡ true → a ≡ true) → a ≡ b
same_test true b f g = sym (f refl)
same_test false true f g = g refl
same_test false false f g = refl

pub either_way : (b : Bool) → (b ≡ true) ⊎ (b ≡ false)
either_way true = inl refl
either_way false = inr refl

pub both_ways : {C : Type 0} {b : Bool} → b ≡ true → b ≡ false → C
both_ways e f = absurd (true≢false (sym e ∙ f))

pub never_true : (b : Bool) → (b ≡ true → ⊥) → b ≡ false
never_true true f = absurd (f refl)
never_true false f = refl

pub beq_true : (a b : Bool) → beq a b ≡ true → a ≡ b
beq_true true true e = refl
beq_true true false e = both_ways e refl
beq_true false true e = both_ways e refl
beq_true false false e = refl

-- where b says less than a
pub not_less : (a b : Bool) → (b ≡ true → a ≡ true) → not a ≡ true → not b ≡ true
not_less true b f e = both_ways e refl
not_less false true f e = f refl
not_less false false f e = refl

pub and_both : (a b : Bool) → a && b ≡ true → (a ≡ true) × (b ≡ true)
and_both true b e = (refl, e)
and_both false b e = both_ways e refl

pub and_left : (a b : Bool) → a && b ≡ true → a ≡ true
and_left a b e = (and_both a b e).0

pub and_right : (a b : Bool) → a && b ≡ true → b ≡ true
and_right a b e = (and_both a b e).1

-- the second test counts only where the first passes
pub and_where : (a b c : Bool) → (a ≡ true → b ≡ c) → a && b ≡ a && c
and_where true b c f = f refl
and_where false b c f = refl

pub or_cases : (a b : Bool) → a || b ≡ true → (a ≡ true) ⊎ (b ≡ true)
or_cases true b e = inl refl
or_cases false b e = inr e

pub or_right : (a b : Bool) → b ≡ true → a || b ≡ true
or_right true b e = refl
or_right false b e = e

pub implies_of : (a b : Bool) → (a ≡ true → b ≡ true) → implies a b ≡ true
implies_of true b f = f refl
implies_of false b f = refl

pub implies_at : (a b : Bool) → implies a b ≡ true → a ≡ true → b ≡ true
implies_at true b e f = e
implies_at false b e f = both_ways f refl

pub implies_not : (a b : Bool) → implies a b ≡ false → (a ≡ true) × (b ≡ false)
implies_not true b e = (refl, e)
implies_not false b e = both_ways refl e

-- q says of every value, or of some value, of which In holds
pub record Every (A : Type 0) (In : A → Type 0) (q : (A → Bool) → Bool) : Type 0 where
  pub read : (p : A → Bool) → q p ≡ true → (a : A) → In a → p a ≡ true
  pub make : (p : A → Bool) → ((a : A) → In a → p a ≡ true) → q p ≡ true

pub record Some (A : Type 0) (In : A → Type 0) (q : (A → Bool) → Bool) : Type 0 where
  pub read : (p : A → Bool) → q p ≡ true → (a : A) × In a × (p a ≡ true)
  pub make : (p : A → Bool) (a : A) → In a → p a ≡ true → q p ≡ true

-- the same of those values that pass f
module _ {A : Type 0} {In : A → Type 0} {q : (A → Bool) → Bool} (f : A → Bool) where
  pub every_where : Every A In q → Every A (λ a. In a × (f a ≡ true)) (λ p. q (λ a. implies (f a) (p a)))
  every_where every =
      record {
        read = λ p e a h. implies_at (f a) (p a) (every.read _ e a h.0) h.1;
        make = λ p g. every.make _ (λ a i. implies_of (f a) (p a) (λ t. g a (i, t)));
      }

  pub some_where : Some A In q → Some A (λ a. In a × (f a ≡ true)) (λ p. q (λ a. f a && p a))
  some_where some =
      record {
        read = λ p e.
            let (a, i, both) = some.read _ e in let (t, u) = and_both (f a) (p a) both in (a, (i, t), u);
        make = λ p a h e. some.make _ a h.0 (rw h.1 e);
      }

-- numbers below n
module _ (p : ℕ → Bool) where
  every_below_read : (n : ℕ) → all_below n p ≡ true → (k : ℕ) → k < n → p k ≡ true
  unfolding all_below
  every_below_read zero e k h = absurd (omega arith)
  every_below_read (suc n) e k h =
      let (below, here) = and_both (all_below n p) (p n) e in
      below_more (λ k. p k ≡ true) n (every_below_read n below) here k (omega arith)

  every_below_make : (n : ℕ) → ((k : ℕ) → k < n → p k ≡ true) → all_below n p ≡ true
  unfolding all_below
  every_below_make zero f = refl
  every_below_make (suc n) f = rw (every_below_make n (λ k h. f k (omega arith)), f n (omega arith))

  some_below_read : (n : ℕ) → some_below n p ≡ true → (k : ℕ) × (k < n) × (p k ≡ true)
  unfolding some_below
  some_below_read zero e = both_ways e refl
  some_below_read (suc n) e =
      ⊎_elim
      (λ f. let t = some_below_read n f in (t.0, omega arith, t.2))
      (λ f. (n, omega arith, f))
      (or_cases (some_below n p) (p n) e)

  some_below_make : (n k : ℕ) → k < n → p k ≡ true → some_below n p ≡ true
  unfolding some_below
  some_below_make zero k h e = absurd (omega arith)
  some_below_make (suc n) k h e =
      elim (ℕ_discrete k n) [
        | yes q ↦ or_right (some_below n p) (p n) (rw q at e)
        | no d ↦ rw (some_below_make n k (omega arith) e)
      ]

pub every_below : (n : ℕ) → Every ℕ (λ k. k < n) (all_below n)
every_below n =
    record { read = λ p. every_below_read p n; make = λ p. every_below_make p n }

pub some_below_lem : (n : ℕ) → Some ℕ (λ k. k < n) (some_below n)
some_below_lem n = record { read = λ p. some_below_read p n; make = λ p. some_below_make p n }

module _ (n : ℕ) (f : ℕ → Bool) where
  pub every_of : Every ℕ (λ k. (k < n) × (f k ≡ true)) (all_of n f)
  unfolding all_of
  every_of = every_where f (every_below n)

  pub some_of_lem : Some ℕ (λ k. (k < n) × (f k ≡ true)) (some_of n f)
  unfolding some_of
  some_of_lem = some_where f (some_below_lem n)

-- elements of a list
module _ {A : Type 0} (p : A → Bool) where
  every_list_read : (l : List A) → all_in p l ≡ true → (a : A) → Memᴰ a l → p a ≡ true
  unfolding all_in
  every_list_read [] e a m = elim m [ ]
  every_list_read (x ∷ l) e a (Memᴰ.head q) = rw q (and_both (p x) _ e).0
  every_list_read (x ∷ l) e a (Memᴰ.tail m) = every_list_read l (and_both (p x) _ e).1 a m

  every_list_make : (l : List A) → ((a : A) → Memᴰ a l → p a ≡ true) → all_in p l ≡ true
  unfolding all_in
  every_list_make [] f = refl
  every_list_make (x ∷ l) f =
      rw (f x (Memᴰ.head refl), every_list_make l (λ a m. f a (Memᴰ.tail m)))

  some_list_read : (l : List A) → some_in p l ≡ true → (a : A) × Memᴰ a l × (p a ≡ true)
  unfolding some_in
  some_list_read [] e = both_ways e refl
  some_list_read (x ∷ l) e =
      ⊎_elim
      (λ f. (x, Memᴰ.head refl, f))
      (λ f. let t = some_list_read l f in (t.0, Memᴰ.tail t.1, t.2))
      (or_cases (p x) (some_in p l) e)

  some_list_make : (l : List A) (a : A) → Memᴰ a l → p a ≡ true → some_in p l ≡ true
  unfolding some_in
  some_list_make [] a m e = elim m [ ]
  some_list_make (x ∷ l) a (Memᴰ.head q) e = rw (← q, e)
  some_list_make (x ∷ l) a (Memᴰ.tail m) e = or_right (p x) _ (some_list_make l a m e)

module _ {A : Type 0} (l : List A) where
  pub every_list : Every A (λ a. Memᴰ a l) (λ p. all_in p l)
  every_list = record { read = λ p. every_list_read p l; make = λ p. every_list_make p l }

  pub some_list : Some A (λ a. Memᴰ a l) (λ p. some_in p l)
  some_list = record { read = λ p. some_list_read p l; make = λ p. some_list_make p l }

-- where not every value passes, some value fails
pub a_failure :
    {A : Type 0} {In : A → Type 0} {q s : (A → Bool) → Bool} →
    Every A In q → Some A In s → (p : A → Bool) → q p ≡ false → (a : A) × In a × (p a ≡ false)
a_failure {s} every some p t =
    ⊎_elim
    (λ e. let (a, i, f) = some.read (λ a. not (p a)) e in (a, i, not-true (p a) f))
    (λ e.
    both_ways
    (every.make p
    (λ a i.
    ⊎_elim (λ f. f) (λ f. both_ways (some.make (λ a. not (p a)) a i (ap not f)) e) (either_way (p a))))
    t)
    (either_way (s (λ a. not (p a))))
