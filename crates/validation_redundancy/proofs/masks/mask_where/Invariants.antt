use Prim.Native.Nat.{◌^◌, ◌<◌}
use mathlib.Core.Path.{◌≡◌}
use mathlib.Core.Bool.{Bool}
use lib.ListN.{length, get_or}
use Rattle.std.proofs.Common.{Bor}
use Rattle.sets.proofs.SetLaws.{Built}
use Rattle.active.specs.declared.Active.{Active}
use Rattle.active.specs.Active.{no_active, entries_of}
use Rattle.validation_redundancy.proofs.masks.mask_where.Given as goal

-- no bit from i on, and for every test p that agrees with what the calls answer those below i that pass
abbrev pub invariant-loop-i : goal.invariant-loop-i
invariant-loop-i g l =
    (l.mask < 2 ^ l.i)
    × ((p : Active → Bool) → ((a : Bor Active) (b : Bool) → goal.F-post g l.test a b → b ≡ p a.now) →
    Built (λ i. p (get_or (entries_of l.list) i no_active)) (length (entries_of l.list)) l.mask l.i)
