-- Sets of small numbers, as the bits of a number. Bit 0 is the lowest.
use Rattle.std.specs.Prelude.{ℕ, zero, suc, ◌+◌, ◌*◌, ◌/◌, ◌%◌, ◌^◌, Bool, ◌&&◌, nat_eq, nat_lt}
use Rattle.sets.specs.Quantifiers.{one_if, all_of, some_of}

-- k is in the set a: the bit of weight 2 ^ k is set
abbrev pub bit : ℕ → ℕ → Bool
bit k a = nat_eq (a / 2 ^ k % 2) 1

-- all of a lies in b; sets of numbers below n
abbrev pub subset : ℕ → ℕ → ℕ → Bool
subset n a b = all_of n (λ k. bit k a) (λ k. bit k b)

-- a and b share a bit
abbrev pub shares : ℕ → ℕ → ℕ → Bool
shares n a b = some_of n (λ k. bit k a) (λ k. bit k b)

-- the set, as a number, of those numbers below n that pass p
unfoldable pub set_of : ℕ → (ℕ → Bool) → ℕ
set_of zero p = 0
set_of (suc n) p = set_of n p + one_if (p n) * 2 ^ n

-- a set is empty where its number is 0
abbrev pub non_empty : ℕ → Bool
non_empty a = nat_lt 0 a

-- v is a number of n bits
abbrev pub in_bits : ℕ → ℕ → Bool
in_bits n v = nat_lt v (2 ^ n)

-- a is a set of numbers below n that is not empty
abbrev pub non_empty_set : ℕ → ℕ → Bool
non_empty_set n a = non_empty a && in_bits n a
