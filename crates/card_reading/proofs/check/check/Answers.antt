-- `check::check`: the line of what reading gives.
use Rattle.card_reading.proofs.check.check.Goals as goal

pub returns : goal.returns
returns c =
    let read = c.read.ensures in
    let line = c.of.ensures in
    rw (line.refusal_value, line.records_value, line.directives_value, read.answer, ← read.ledger)
