-- Tests of every and of some number below n, and of every and of some element of a list; counts; the choice by a test.
use Rattle.std.specs.Prelude.{ℕ, zero, suc, ◌+◌, Bool, true, false, ◌&&◌, ◌||◌, List, [], ◌∷◌}

-- `pick b x y` is x where b holds, and y elsewhere
abbrev pub pick : {A : Type 0} → Bool → A → A → A
pick true x y = x
pick false x y = y

-- 1 where the test holds; the library's Bool.toNat is of its unary numbers, and these are the numbers of the program
abbrev pub one_if : Bool → ℕ
one_if true = 1
one_if false = 0

abbrev pub implies : Bool → Bool → Bool
implies true b = b
implies false b = true

unfoldable pub all_below : ℕ → (ℕ → Bool) → Bool
all_below zero p = true
all_below (suc n) p = all_below n p && p n

unfoldable pub some_below : ℕ → (ℕ → Bool) → Bool
some_below zero p = false
some_below (suc n) p = some_below n p || p n

-- how many numbers below n pass p
unfoldable pub count_below : ℕ → (ℕ → Bool) → ℕ
count_below zero p = 0
count_below (suc n) p = count_below n p + one_if (p n)

-- the same of the numbers below n that pass f
unfoldable pub all_of : ℕ → (ℕ → Bool) → (ℕ → Bool) → Bool
all_of n f p = all_below n (λ k. implies (f k) (p k))

unfoldable pub some_of : ℕ → (ℕ → Bool) → (ℕ → Bool) → Bool
some_of n f p = some_below n (λ k. f k && p k)

module _ {A : Type 0} where
  unfoldable pub all_in : (A → Bool) → List A → Bool
  all_in p [] = true
  all_in p (a ∷ l) = p a && all_in p l

  unfoldable pub some_in : (A → Bool) → List A → Bool
  some_in p [] = false
  some_in p (a ∷ l) = p a || some_in p l

  -- the elements that pass p, in their order
  unfoldable pub keep : (A → Bool) → List A → List A
  keep p [] = []
  keep p (a ∷ l) = pick (p a) (a ∷ keep p l) (keep p l)

  -- how many elements pass p
  unfoldable pub count_in : (A → Bool) → List A → ℕ
  count_in p [] = 0
  count_in p (a ∷ l) = one_if (p a) + count_in p l

  -- each element is in the relation p to every later one
  unfoldable pub pairwise : (A → A → Bool) → List A → Bool
  pairwise p [] = true
  pairwise p (a ∷ l) = all_in (p a) l && pairwise p l
