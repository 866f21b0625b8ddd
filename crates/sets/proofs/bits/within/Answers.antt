-- `bits::within`: a & b is a where each bit of a is one of b.
use borrow.Author.Rules.{rules}
use Rattle.sets.proofs.BitLaws.{subset_and}
use Rattle.sets.proofs.bits.within.Goals as goal

pub returns : goal.returns
returns c = subset_and 16 c.args.a c.args.b (search rules)
