-- `bits::meet`: a & b is not 0 where a bit of a is one of b.
use borrow.Author.Rules.{rules}
use Rattle.sets.proofs.BitLaws.{shares_and}
use Rattle.sets.proofs.bits.meet.Goals as goal

pub returns : goal.returns
returns c = shares_and 16 c.args.a c.args.b (search rules)
