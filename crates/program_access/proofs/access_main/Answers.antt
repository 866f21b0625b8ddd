-- `access_main`: where there is a run, its promise is for the draft and the requester that the arguments name.
use Rattle.std.proofs.Common.{None}
use Rattle.std.specs.Option.{option_copied}
use Rattle.directive.specs.declared.Requester.{Requester}
use Rattle.program_access.proofs.RunLaws.{unwritten}
use Rattle.program_access.proofs.access_main.Goals as goal

pub returns-in_default : goal.returns-in_default
returns-in_default g c =
    let w : Requester = record { person = 0; role = 0; origin = 0; purpose = 0 } in
    (None, w, unwritten _ None w _)

pub returns : goal.returns
returns g c = (option_copied c.map-draft.result, c.in-Some.asked.requester, rw c.unwrap_or.ensures c.run.ensures)
