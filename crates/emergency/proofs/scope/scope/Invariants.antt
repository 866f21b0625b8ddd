use Prim.Native.Nat.{ℕ, ◌^◌, ◌<◌}
use mathlib.Core.Path.{◌≡◌}
use mathlib.Core.Bool.{◌&&◌}
use lib.ListN.{get_or}
use Rattle.sets.specs.Quantifiers.{some_below}
use Rattle.sets.specs.Bits.{bit}
use Rattle.emergency.specs.Emergency.{label_masks}
use Rattle.emergency.proofs.scope.scope.Given as goal

-- a label is there where some state below s opens it
abbrev pub invariant-loop-s : goal.invariant-loop-s
invariant-loop-s l =
    (l.labels < 2 ^ 16)
    × ((k : ℕ) → bit k l.labels ≡ some_below l.s (λ i. bit i l.states && bit k (get_or label_masks i 0)))
