-- `form::put_directive` writes the thirteen numbers one after another.
use Rattle.sets.proofs.PutLaws.{put_first, put_next}
use Rattle.drafts.specs.Form.{directive_bytes}
use Rattle.drafts.proofs.form.put_directive.Goals as goal

pub returns : goal.returns
unfolding directive_bytes
returns c =
    let to_number = put_first _ _ _ c.put.ensures in
    let to_effect = put_next _ _ to_number (rw c.from.ensures at c.put-2.ensures) in
    let to_kind = put_next _ _ to_effect (rw (c.from-2.ensures, c.is_role.ensures) at c.put-3.ensures) in
    let to_subject = put_next _ _ to_kind (rw c.number.ensures at c.put-4.ensures) in
    let to_subject_origins = put_next _ _ to_subject c.put-5.ensures in
    let to_at_record = put_next _ _ to_subject_origins c.put-6.ensures in
    let to_reach = put_next _ _ to_at_record (rw c.from-3.ensures at c.put-7.ensures) in
    let to_origins = put_next _ _ to_reach c.put-8.ensures in
    let to_sensitivities = put_next _ _ to_origins c.put-9.ensures in
    let to_kinds = put_next _ _ to_sensitivities c.put-10.ensures in
    let to_purposes = put_next _ _ to_kinds c.put-11.ensures in
    let to_from = put_next _ _ to_purposes c.put-12.ensures in
    (put_next _ _ to_from c.put-13.ensures).stored
