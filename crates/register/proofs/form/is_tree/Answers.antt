-- `form::is_tree` tests the places in turn: those below q fit.
use mathlib.Core.Path.{sym, ◌∙◌}
use native.Mathlib.Omega.{arith}
use borrow.Author.Rules.{rules}
use lib.ListN.{length}
use Rattle.sets.proofs.Quantifiers.{never_true, both_ways, every_below}
use Rattle.register.specs.Tree.{is_tree}
use Rattle.register.proofs.form.is_tree.Goals as goal

pub returns-then-not-parent_fits : goal.returns-then-not-parent_fits
unfolding is_tree
returns-then-not-parent_fits c =
    let s = c.args.s.now in
    let q = c.loop-q.q in
    sym
    (never_true _
    (λ e.
    both_ways
    ((every_below (length s)).read _ e q (search rules))
    (sym c.parent_fits.ensures ∙ c.if-not-parent_fits.true)))

pub returns : goal.returns
unfolding is_tree
returns c =
    let s = c.args.s.now in
    sym ((every_below (length s)).make _ (λ k h. c.loop-q.invariant k (omega arith)))
