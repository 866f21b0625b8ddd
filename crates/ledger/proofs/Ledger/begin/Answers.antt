-- `Ledger::begin`: the empty ledger with a patient and a clock, each within its width.
use borrow.Author.Rules.{rules}
use Rattle.ledger.proofs.Beginning.{begun_begins}
use Rattle.ledger.proofs.Ledger.begin.Goals as goal

pub returns : goal.returns
returns c =
    rw c.empty-ledger.ensures (begun_begins c.args.patient c.args.clock (search rules) (search rules))
