-- `u8::get`: a number of one byte is that byte.
use Prim.Native.Nat.{◌+◌}
use mathlib.Core.Path.{sym}
use borrow.Author.Rules.{rules}
use Rattle.sets.specs.Numbers.{number_from}
use Rattle.sets.proofs.Numbers.{number_first}
use Rattle.sets.proofs.number.U8BigEndian.get.Goals as goal

pub returns : goal.returns
unfolding number_from
returns c =
    let at = c.args.at in
    let s = c.args.s.now in
    sym (number_first at (at + 1) 0 s (search rules) (search rules))
