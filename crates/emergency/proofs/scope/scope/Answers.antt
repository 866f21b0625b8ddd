-- `scope::scope`: after s turns the set has the labels that some state below s opens.
use mathlib.Core.Path.{◌≡◌}
use mathlib.Core.Bool.{or-false}
use native.Mathlib.Numerals.{add-one}
use native.Mathlib.Omega.{arith}
use borrow.Author.Rules.{rules}
use borrow.Author.Tests.{eq-eqb, ne_eqb}
use Rattle.sets.specs.Quantifiers.{some_below}
use Rattle.sets.proofs.BitLaws.{bit_zero, set_ext}
use Rattle.emergency.specs.Emergency.{scope}
use Rattle.emergency.proofs.scope.scope.Goals.{then-states-s-eq1, else-states-s-eq1}
use Rattle.emergency.proofs.scope.scope.Goals as goal

pub loop-s-init : goal.loop-s-init
unfolding some_below
loop-s-init c = (search rules, bit_zero)

pub loop-s-preserved : goal.loop-s-preserved
unfolding some_below
loop-s-preserved c =
    let (wide, has) = c.loop-s.invariant in
    elim c.if-states-s-eq1.branch [
      | then-states-s-eq1 w ↦ rw w.labels-is (
        search rules,
        λ k. rw (add-one c.loop-s.s, ← (has k), eq-eqb _ _ w.if-states-s-eq1.true) (w.join-labels.ensures k),
      )
      | else-states-s-eq1 w ↦ rw w.labels-is (
        wide,
        λ k. rw (add-one c.loop-s.s, ← (has k), ne_eqb _ _ w.if-states-s-eq1.false, or-false),
      )
    ]

pub returns : goal.returns
unfolding scope
returns c =
    let e : c.loop-s.s ≡ 8 = omega arith in
    set_ext 16 c.loop-s.labels _ c.loop-s.invariant.0 (λ k _. rw e at (c.loop-s.invariant.1 k))
