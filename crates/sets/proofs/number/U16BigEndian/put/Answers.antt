-- `u16::put`: the bytes of the number, as std gives them.
use Prim.Native.Nat.{◌+◌}
use mathlib.Core.Path.{◌≡◌, ◌∙◌}
use borrow.Author.Rules.{rules}
use Rattle.sets.specs.Numbers.{bytes}
use Rattle.sets.proofs.Numbers.{bytes_of_std, length_bytes}
use Rattle.sets.proofs.PutLaws.{put_part}
use Rattle.sets.proofs.number.U16BigEndian.put.Goals as goal

pub returns : goal.returns
returns c =
    let s = c.args.s.now in
    let at = c.args.at in
    let same : c.copy_from_slice.new.self ≡ bytes 2 c.args.self =
    c.copy_from_slice.ensures.after ∙ c.to_be_bytes.ensures ∙ bytes_of_std 2 c.args.self in
    rw same (put_part s (bytes 2 c.args.self) at (at + 2) (rw (length_bytes 2 c.args.self)) (search rules))
