-- `CardLine::of`: after a refusal the ledger is the empty one.
use mathlib.Core.Path.{sym, ap}
use lib.ListN.{length}
use Rattle.ledger_model.specs.Model.{Model}
use Rattle.ledger.proofs.Beginning.{empty_view}
use Rattle.card_reading.proofs.check.CardLine.of.Goals as goal

pub returns-in-Err-clause-records_value : goal.returns-in-Err-clause-records_value
returns-in-Err-clause-records_value c =
    rw c.in-Err.is (sym (ap (λ (m : Model). length m.register.records) empty_view))

pub returns-in-Err-clause-directives_value : goal.returns-in-Err-clause-directives_value
returns-in-Err-clause-directives_value c = rw c.in-Err.is (sym (ap (λ (m : Model). length m.active) empty_view))
