use Prim.Native.Nat.{◌+◌, ◌≤◌}
use mathlib.Core.Path.{◌≡◌}
use mathlib.Core.List.{map}
use lib.ListN.{take}
use Rattle.sets.specs.Quantifiers.{keep}
use Rattle.directive.specs.Matching.{in_minutes}
use Rattle.active.specs.Active.{entries_of}
use Rattle.validation_redundancy.specs.Masks.{minute_mask, boundaries_of, masks_of}
use Rattle.validation_redundancy.proofs.tables.minutes_of.Given as goal

abbrev pub invariant-loop-a : goal.invariant-loop-a
invariant-loop-a l =
    (l.minutes.count ≤ l.a-index + 1)
    × (masks_of l.minutes
    ≡ map (minute_mask (entries_of l.list)) (keep (in_minutes l.first l.d.until) (take (l.a-index + 1) (boundaries_of l.first (entries_of l.list)))))
