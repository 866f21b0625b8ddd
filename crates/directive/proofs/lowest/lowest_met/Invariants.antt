use mathlib.Core.Path.{◌≡◌}
use mathlib.Core.Bool.{Bool}
use mathlib.Core.List.{map}
use Rattle.std.specs.Prelude.{Option}
use Rattle.std.specs.Bool.{then_some}
use Rattle.std.specs.List.{Contains}
use Rattle.std.proofs.Common.{Bor}
use Rattle.directive.specs.declared.Directive.{Directive}
use Rattle.directive.specs.declared.lowest.Best.{Best}
use Rattle.directive.specs.Lowest.{best_in}
use Rattle.directive.proofs.MetLaws.{Met}
use Rattle.directive.proofs.lowest.lowest_met.Given as goal

-- for every view of the items as directives, and every test of these, that agree with what the calls answer
abbrev pub invariant-loop-x : goal.invariant-loop-x
invariant-loop-x g l =
    (d : g.row.T.Denot → Directive) (p : Directive → Bool) →
    ((x : Bor g.row.T.Denot) (r : Option Best) → Contains l.items x.now → goal.F-post g l.met x r →
    r ≡ then_some (p (d x.now)) (best_in (d x.now))) →
    Met p (map d l.items) l.best l.x-index
