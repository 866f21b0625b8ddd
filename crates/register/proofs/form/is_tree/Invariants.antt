use Rattle.std.proofs.Common.{◌≡◌, ℕ, ◌<◌}
use mathlib.Core.Bool.{true}
use Rattle.register.specs.Tree.{parent_of, parent_fits}
use Rattle.register.proofs.form.is_tree.Given as goal

abbrev pub invariant-loop-q : goal.invariant-loop-q
invariant-loop-q l = (k : ℕ) → k < l.q → parent_fits k (parent_of l.s k) ≡ true
