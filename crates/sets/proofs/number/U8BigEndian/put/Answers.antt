-- `u8::put`: a number below 256 is its own byte.
use native.Mathlib.Nat.{mod-eq_of_lt}
use borrow.Author.Rules.{rules}
use Rattle.sets.specs.Numbers.{bytes}
use Rattle.sets.proofs.number.U8BigEndian.put.Goals as goal

pub returns : goal.returns
unfolding bytes
returns c = rw (mod-eq_of_lt {n = c.args.self} {m = 256} (search rules))
