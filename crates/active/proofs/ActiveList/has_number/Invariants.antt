use lib.ListN.{length}
use lib.Dec.{eqb}
use Rattle.sets.specs.Quantifiers.{some_in}
use Rattle.sets.proofs.WalkLaws.{Sought}
use Rattle.active.specs.Active.{entries_of}
use Rattle.active.proofs.ActiveList.has_number.Given as goal

abbrev pub invariant-loop-a : goal.invariant-loop-a
invariant-loop-a l =
    Sought (some_in (λ a. eqb a.directive.number l.number)) (entries_of l.self) (length (entries_of l.self)) l.a-index
