use Prim.Native.Nat.{ℕ, ◌^◌, ◌<◌}
use mathlib.Core.Path.{◌≡◌}
use mathlib.Core.Bool.{Bool, ◌&&◌}
use lib.ListN.{length}
use lib.Dec.{ltb}
use Rattle.sets.proofs.SetLaws.{Built}
use Rattle.register.proofs.roles.set_where.Given as goal

-- no role from q on, and for every test p that agrees with what the calls answer those below q that pass
abbrev pub invariant-loop-q : goal.invariant-loop-q
invariant-loop-q g l =
    (l.set < 2 ^ l.q)
    × ((p : ℕ → Bool) → ((q : ℕ) (b : Bool) → goal.F-post g l.test q b → b ≡ p q) →
    Built (λ q. ltb q (length l.parents) && p q) 16 l.set l.q)
