-- `u32::get`: four bytes are read from the first on.
use mathlib.Core.Path.{◌∙◌}
use Prim.Native.Nat.{◌+◌}
use native.Mathlib.Omega.{arith}
use borrow.Author.Rules.{rules}
use Rattle.sets.specs.Numbers.{number_from}
use Rattle.sets.proofs.Numbers.{number_first, number_next}
use Rattle.sets.proofs.number.U32BigEndian.get.Goals as goal

pub returns : goal.returns
unfolding number_from
returns c =
    let at = c.args.at in
    let s = c.args.s.now in
    let read =
    number_first at (at + 1) 3 s (search rules) (search rules)
    ∙ number_next _ (at + 1) (at + 2) 2 s (search rules) (search rules)
    ∙ number_next _ (at + 2) (at + 3) 1 s (search rules) (search rules)
    ∙ number_next _ (at + 3) (at + 4) 0 s (search rules) (search rules) in
    c.from_be_bytes.ensures ∙ rw read (omega arith)
