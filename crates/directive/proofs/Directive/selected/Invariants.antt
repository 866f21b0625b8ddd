use Prim.Native.Nat.{ℕ, ◌^◌, ◌<◌, ◌≤◌}
use mathlib.Core.List.{List}
use lib.ListN.{length}
use Rattle.sets.specs.declared.record_set.RecordSet.{RecordSet}
use Rattle.sets.proofs.FillLaws.{HasBelow}
use Rattle.register.specs.declared.Record.{Record}
use Rattle.register.specs.Register.{contents}
use Rattle.register.specs.Records.{descendant}
use Rattle.directive.specs.declared.Directive.{Directive}
use Rattle.directive.specs.Selection.{selects}
use Rattle.directive.proofs.Directive.selected.Given as goal

-- what is known before a turn
pub record Swept (d : Directive) (rs : List Record) (below chosen : RecordSet) (x : ℕ) : Type 0 where
  pub few : length rs ≤ 128
  pub low : chosen.low < 2 ^ 64
  pub high : chosen.high < 2 ^ 64
  pub descendants : HasBelow below x (descendant rs d.«record»)
  pub selection : HasBelow chosen x (selects rs d)

abbrev pub invariant-loop-x : goal.invariant-loop-x
invariant-loop-x l = Swept l.self (contents l.register).records l.below l.chosen l.x
