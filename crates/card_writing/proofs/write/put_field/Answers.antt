-- `write::put_field`: tag and length, and then the value.
use Rattle.card_writing.proofs.WriteLaws.{put_field}
use Rattle.card_writing.proofs.write.put_field.Goals as goal

pub returns : goal.returns
returns g c =
    let v = c.args.v.now in
    put_field c.args.s.now c.args.at g.V.Value.TAG g.V.Value.SIZE (g.V.Value.bytes v) (g.met.V.Value.sized v)
    (rw (c.TAG.ensures, c.SIZE.ensures) at c.put_tag.ensures) c.put_value.ensures
