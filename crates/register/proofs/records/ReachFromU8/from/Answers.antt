use Rattle.register.proofs.ReachLaws.{reach_past}
use Rattle.register.proofs.records.ReachFromU8.from.Goals as goal

pub returns-in_default : goal.returns-in_default
returns-in_default c = reach_past c.args.number _
