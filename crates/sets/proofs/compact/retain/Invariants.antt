use Prim.Native.Nat.{◌≤◌}
use mathlib.Core.Path.{◌≡◌}
use mathlib.Core.Bool.{Bool}
use lib.ListN.{length}
use Rattle.sets.proofs.WalkLaws.{InPlace}
use Rattle.sets.proofs.compact.retain.Given as goal

-- for every test p that agrees with what the calls answer
abbrev pub invariant-loop-i : goal.invariant-loop-i
invariant-loop-i g l =
    (l.at ≤ l.i)
    × ((p : g.row.T.Denot → Bool) → ((x : g.row.T.Denot) (b : Bool) → goal.F-post g l.test x b → b ≡ p x) →
    InPlace p l.fn.items (length l.fn.items) l.items l.at l.i)
