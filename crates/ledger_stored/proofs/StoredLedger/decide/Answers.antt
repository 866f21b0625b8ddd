-- `StoredLedger::decide`: the lowest stored directive that matches is that of the ledger.
use mathlib.Core.Path.{refl}
use borrow.Author.Rules.{rules}
use Rattle.ledger.specs.State.{view}
use Rattle.ledger.proofs.CallLaws.{records_few}
use Rattle.ledger_stored.specs.Stored.{ledger_of}
use Rattle.ledger_stored.proofs.StoredLedger.decide.Goals as goal

pub returns : goal.returns
unfolding ledger_of
returns c invariant =
    c.decide_by.ensures.decision (view (ledger_of c.args.self.now)) refl refl
    (λ best found.
    rw (← c.roles-roles.ensures.value) (search (rules, records_few invariant.shape, invariant.shape.active_held)))
