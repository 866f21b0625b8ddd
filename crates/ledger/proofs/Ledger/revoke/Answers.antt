-- `Ledger::revoke`: those of other numbers are kept.
use mathlib.Core.Bool.{not}
use mathlib.Core.Path.{sym, ◌∙◌}
use borrow.Author.Rules.{rules}
use lib.Dec.{eqb}
use Rattle.sets.specs.Quantifiers.{all_in}
use Rattle.active.proofs.ListLaws.{directives_kept, invariant_kept}
use Rattle.ledger.specs.State.{view}
use Rattle.ledger_model.specs.Questions.{first_no}
use Rattle.ledger_model.specs.Calls.{revoked}
use Rattle.ledger_model.proofs.Soundness.{sound_revoke}
use Rattle.ledger.proofs.CallLaws.{refuses, changes, shape_held}
use Rattle.ledger.proofs.Ledger.revoke.Goals as goal

pub returns-then-not-has_number : goal.returns-then-not-has_number
unfolding revoked first_no all_in
returns-then-not-has_number c invariant = refuses invariant (rw (sym c.has_number.ensures ∙ c.if-not-has_number.true))

pub returns : goal.returns
unfolding revoked first_no all_in
returns c invariant =
    let l = c.args.self.now in
    let kept = c.retain.ensures (λ d. not (eqb d.number c.args.number)) (λ d b said. search rules) in
    changes
    (rw (sym c.has_number.ensures ∙ c.if-not-has_number.false, directives_kept kept))
    (sound_revoke (view l) invariant.model c.args.number)
    (shape_held invariant.shape l.clock c.retain.new.self l.tokens
    (invariant_kept kept invariant.shape.active_held)
    invariant.shape.tokens_held)
