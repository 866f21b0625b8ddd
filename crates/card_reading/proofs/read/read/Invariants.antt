use lib.ListN.{length}
use Rattle.card_reading.proofs.Rest.{Left}
use Rattle.card_reading.proofs.read.read.Given as goal

abbrev pub invariant-loop-rest : goal.invariant-loop-rest
invariant-loop-rest l = Left l.fn.card l.rest l.reader

abbrev pub decreases-loop-rest : goal.decreases-loop-rest
decreases-loop-rest l = length l.rest
