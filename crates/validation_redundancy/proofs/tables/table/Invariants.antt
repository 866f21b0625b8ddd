use Prim.Native.Nat.{ℕ, ◌<◌, ◌≤◌}
use mathlib.Core.Path.{◌≡◌}
use lib.ListN.{length, get_or}
use Rattle.sets.specs.Quantifiers.{pick}
use Rattle.sets.specs.Bits.{bit}
use Rattle.validation_redundancy.proofs.tables.table.Given as goal

-- 0 from k on, and below it the masks, for every function f that agrees with what the calls answer
abbrev pub invariant-loop-k : goal.invariant-loop-k
invariant-loop-k g l =
    (length l.table ≡ 16)
    × ((k : ℕ) → l.k ≤ k → get_or l.table k 0 ≡ 0)
    × ((f : ℕ → ℕ) → ((k m : ℕ) → goal.F-post g l.mask k m → m ≡ f k) →
    (k : ℕ) → k < l.k → get_or l.table k 0 ≡ pick (bit k l.set) (f k) 0)
