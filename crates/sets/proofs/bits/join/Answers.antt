-- `bits::join`: the bits of a | b are those of a and those of b.
use Rattle.sets.proofs.BitLaws.{bit_of_or}
use Rattle.sets.proofs.bits.join.Goals as goal

pub returns : goal.returns
returns c k = bit_of_or k c.args.a c.args.b
