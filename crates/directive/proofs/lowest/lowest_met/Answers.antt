-- `lowest::lowest_met`: after i turns the best is that of the directives of the first i items that pass.
use mathlib.Core.Path.{refl, sym, ◌∙◌}
use lib.ListN.{length-map}
use Rattle.directive.proofs.MetLaws.{met_none, met_next, met_other, met_all}
use Rattle.directive.proofs.lowest.lowest_met.Goals.{in-Some, in_default}
use Rattle.directive.proofs.lowest.lowest_met.Goals as goal

pub loop-x-init : goal.loop-x-init
loop-x-init g c d p f = met_none refl

pub loop-x-preserved : goal.loop-x-preserved
loop-x-preserved g c d p f =
    let met = c.loop-x.invariant d p f in
    let here = c.loop-x-test.true in
    let is = c.x-item.is in
    let said = f _ c.met.result (c.loop-x.x-index, here, sym is) c.met.ensures in
    elim c.match-met.branch [
      | in-Some w ↦ rw w.best-is (met_next d p c.args.items.now met here is (sym w.in-Some.is ∙ said) w.lower.ensures)
      | in_default w ↦ rw w.best-is (met_other d p c.args.items.now met here is (sym w.in_default.is ∙ said))
    ]

pub returns : goal.returns
returns g c d p f = met_all (c.loop-x.invariant d p f) (rw length-map c.loop-x-test.false)
