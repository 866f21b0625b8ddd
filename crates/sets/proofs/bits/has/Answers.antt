-- `bits::has` reads the bit of the number; from bit 16 on a number of 16 bits has none.
use mathlib.Core.Path.{sym}
use borrow.Author.Rules.{rules}
use Rattle.sets.proofs.BitLaws.{bit_past}
use Rattle.sets.proofs.bits.has.Goals as goal

pub returns-then-k-ge16 : goal.returns-then-k-ge16
returns-then-k-ge16 c = sym (bit_past 16 c.args.k c.args.set (search rules) (search rules))
