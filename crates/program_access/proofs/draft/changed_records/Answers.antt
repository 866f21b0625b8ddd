-- `draft::changed_records`: a preview of a draft that a commit accepts, for a requester who passes question 17, shows what changes.
use Rattle.program_access.proofs.TableLaws.{shown_changes, shows_some}
use Rattle.program_access.proofs.draft.changed_records.Goals as goal

pub returns-in-Ok : goal.returns-in-Ok
returns-in-Ok c =
    λ took asked.
    shown_changes _ c.args.draft.now c.args.w took asked (rw c.in-Ok.is at (c.preview.ensures.answer c.requires))

pub returns-in-Err : goal.returns-in-Err
returns-in-Err c =
    λ took asked.
    absurd (shows_some _ c.args.draft.now c.args.w took asked _ (rw c.in-Err.is at (c.preview.ensures.answer c.requires)))
