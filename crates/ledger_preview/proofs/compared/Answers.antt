-- `compared`: question 17 of the requester, then the records that change among those that the new directive selects.
use mathlib.Core.Bool.{not}
use mathlib.Core.Path.{refl, ap}
use Rattle.register.proofs.CallLaws.{failed, passed}
use Rattle.ledger_model.specs.Answer.{done}
use Rattle.ledger_model.specs.Model.{Model}
use Rattle.ledger_model.specs.Questions.{first_no}
use Rattle.ledger_model.proofs.PreviewLaws.{shown_among}
use Rattle.ledger.specs.State.{view}
use Rattle.ledger.proofs.CallLaws.{records_few}
use Rattle.ledger_preview.proofs.compared.Goals as goal

pub returns-then-not-requester_in_range : goal.returns-then-not-requester_in_range
unfolding first_no
returns-then-not-requester_in_range c before after d last =
    let asked = rw c.register.ensures at c.requester_in_range.ensures in
    rw (failed asked (ap not c.if-not-requester_in_range.true))

pub returns : goal.returns
unfolding first_no
returns c before after d last =
    let asked = rw c.register.ensures at c.requester_in_range.ensures in
    let list = c.active.ensures in
    let chosen = c.last_selection-among.ensures _ (view c.args.before.now).active d (rw (← list) at after.shape.active_held) (rw (← list) at (ap (λ (m : Model). m.active) last)) in
    rw (c.from.ensures, passed asked (ap not c.if-not-requester_in_range.false))
    (ap done (shown_among _ d _ (records_few before.shape) last chosen (c.changed_among.ensures before after) refl))
