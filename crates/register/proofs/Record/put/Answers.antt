-- `Record::put` writes the six numbers one after another.
use Rattle.register.specs.Form.{record_bytes}
use Rattle.sets.proofs.PutLaws.{put_first, put_next}
use Rattle.register.proofs.Record.put.Goals as goal

pub returns : goal.returns
unfolding record_bytes
returns c =
    let to_parent = put_first _ _ _ c.put.ensures in
    let to_author = put_next _ _ to_parent c.put-2.ensures in
    let to_origins = put_next _ _ to_author c.put-3.ensures in
    let to_sensitivities = put_next _ _ to_origins c.put-4.ensures in
    let to_kind = put_next _ _ to_sensitivities c.put-5.ensures in
    (put_next _ _ to_kind c.put-6.ensures).stored
