-- `u16::get`: two bytes are read from the first on.
use mathlib.Core.Path.{sym, ◌∙◌}
use Prim.Native.Nat.{◌+◌}
use borrow.Author.Rules.{rules}
use Rattle.sets.specs.Numbers.{number_from}
use Rattle.sets.proofs.Numbers.{number_first, number_next}
use Rattle.sets.proofs.number.U16BigEndian.get.Goals as goal

pub returns : goal.returns
unfolding number_from
returns c =
    let at = c.args.at in
    let s = c.args.s.now in
    c.from_be_bytes.ensures
    ∙ sym
    (number_first at (at + 1) 1 s (search rules) (search rules)
    ∙ number_next _ (at + 1) (at + 2) 0 s (search rules) (search rules))
