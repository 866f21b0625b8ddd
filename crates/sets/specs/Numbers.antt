-- Numbers as bytes, high byte first, and what is a byte.
use Rattle.std.specs.Prelude.{ℕ, zero, suc, ◌+◌, ◌*◌, ◌/◌, ◌%◌, Bool, List, [], ◌∷◌, ◌++◌, take, drop, nat_lt}
use Rattle.sets.specs.Quantifiers.{all_in}

-- the number that these bytes write, after what stands before them
unfoldable pub number_from : ℕ → List ℕ → ℕ
number_from a [] = a
number_from a (b ∷ s) = number_from (a * 256 + b) s

-- the number that these bytes write
abbrev pub number : List ℕ → ℕ
number s = number_from 0 s

-- the number that n bytes from place i on write
abbrev pub number_at : ℕ → ℕ → List ℕ → ℕ
number_at i n s = number (take n (drop i s))

-- v in n bytes
unfoldable pub bytes : ℕ → ℕ → List ℕ
bytes zero v = []
bytes (suc n) v = bytes n (v / 256) ++ (v % 256 ∷ [])

-- every element is a byte
abbrev pub is_bytes : List ℕ → Bool
is_bytes s = all_in (λ b. nat_lt b 256) s
