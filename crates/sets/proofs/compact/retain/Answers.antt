-- `compact::retain` is a walk in place that keeps what passes.
use mathlib.Core.Path.{sym, ap, ◌∙◌}
use native.Mathlib.Nat.{add-zero}
use native.Mathlib.Omega.{arith}
use lib.Seq.{take_all}
use Rattle.sets.specs.Quantifiers.{keep}
use Rattle.sets.proofs.WalkLaws.{in_place_none, in_place_next, in_place_all}
use Rattle.sets.proofs.compact.retain.Goals as goal
use Rattle.sets.proofs.compact.retain.Goals.{then-test, else-test}

pub loop-i-init : goal.loop-i-init
loop-i-init g c = (omega arith, λ p f. in_place_none p _ _ (omega arith))

pub loop-i-preserved : goal.loop-i-preserved
loop-i-preserved g c =
    let inv = c.loop-i.invariant in
    let x = c.index-items-i.result in
    elim c.if-test.branch [
      | then-test w ↦ (
        omega arith,
        λ p f.
            rw (w.at-is, c.index-items-i.is)
            (in_place_next p x (inv.1 p f) (omega arith)
            (rw (← c.index-items-i.is, ← f x c.test.result c.test.ensures, w.if-test.true))),
      )
      | else-test w ↦ (
        omega arith,
        λ p f.
            rw (w.at-is, c.index-items-i.is)
            (in_place_next p x (inv.1 p f) (omega arith)
            (rw (← c.index-items-i.is, ← f x c.test.result c.test.ensures, w.if-test.false) (sym (add-zero _)))),
      )
    ]

pub returns-clause-kept : goal.returns-clause-kept
returns-clause-kept g c p f =
    (in_place_all p c.loop-i-test.false (c.loop-i.invariant.1 p f)).1 ∙ ap (keep p) (take_all _ c.args.items.now (omega arith))
