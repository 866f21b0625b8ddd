use lib.ListN.{length}
use Rattle.sets.specs.Bits.{shares}
use Rattle.sets.proofs.FillLaws.{HasHighest}
use Rattle.register.specs.Records.{record_at}
use Rattle.emergency.proofs.disclosure.labelled.Given as goal

abbrev pub invariant-loop-r : goal.invariant-loop-r
invariant-loop-r l =
    HasHighest (length l.records) (λ x. shares 16 (record_at l.records x).labels l.scope) l.word (length l.yielded)
