-- Sets of numbers below 128, as two 64-bit words: "bit i for record i (word i / 64, bit i mod 64)".
use Rattle.std.specs.Prelude.{ℕ, ◌+◌, ◌-◌, ◌*◌, Bool, ◌&&◌, List, [], ◌∷◌, nat_lt}
use Rattle.std.specs.Int.Count.{ones}
use Rattle.sets.specs.Quantifiers.{pick}
use Rattle.sets.specs.Bits.{bit, set_of}
use Rattle.sets.specs.declared.record_set.RecordSet.{RecordSet}

-- k is in the set
unfoldable pub contains : RecordSet → ℕ → Bool
contains w k = pick (nat_lt k 64) (bit k w.low) (bit (k - 64) w.high && nat_lt k 128)

-- word i of those numbers that pass p
abbrev pub word_of : (ℕ → Bool) → ℕ → ℕ
word_of p i = set_of 64 (λ k. p (64 * i + k))

-- the two words of those numbers below 128 that pass p
abbrev pub record_set_of : (ℕ → Bool) → RecordSet
record_set_of p = record { low = word_of p 0; high = word_of p 1 }

-- "the count of set bits"
abbrev pub set_bits : RecordSet → ℕ
set_bits w = ones w.low + ones w.high

-- "two 64-bit words, bit i for record i (word i / 64, bit i mod 64), .. and the count of set bits"
abbrev pub marked : (ℕ → Bool) → List ℕ
marked p = word_of p 0 ∷ word_of p 1 ∷ set_bits (record_set_of p) ∷ []
