-- `Head::put` writes the three numbers one after another.
use Rattle.sets.proofs.PutLaws.{put_first, put_next}
use Rattle.card.proofs.form.Head.put.Goals as goal

pub returns : goal.returns
returns c =
    let to_edition = put_first _ _ _ c.put.ensures in
    let to_patient = put_next _ _ to_edition c.put-2.ensures in
    (put_next _ _ to_patient c.put-3.ensures).stored
