-- `write::put_roles_field`: tag and count, and then the parents.
use Prim.Native.Nat.{◌+◌}
use mathlib.Core.Path.{refl}
use native.Mathlib.Omega.{arith}
use lib.ListN.{length}
use Rattle.sets.proofs.PutLaws.{put_part}
use Rattle.card_writing.proofs.WriteLaws.{put_field}
use Rattle.card_writing.proofs.write.put_roles_field.Goals as goal

pub returns : goal.returns
returns c =
    let parents = c.args.parents.now in
    put_field c.args.s.now c.args.at 0x02 (length parents) parents refl c.put_tag.ensures
    (rw c.copy_from_slice.ensures.after (put_part _ parents (c.args.at + 3) _ refl (omega (arith, c.put_tag.auto.s))))
