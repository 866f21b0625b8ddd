-- `Ledger::admit`: where the invariant holds the search answers as is meant, and a directive that passes stands last.
use mathlib.Core.Path.{refl, sym, ap, ◌∙◌}
use Rattle.std.proofs.lemmas.Result.{err_from_is_err_and, IfOk-at_ok}
use Rattle.drafts.specs.Form.{directive_of}
use Rattle.validation_meaning.specs.Judgement.{meant}
use Rattle.ledger.specs.State.{view}
use Rattle.ledger.specs.Answer.{asked_answer}
use Rattle.ledger_model.specs.Questions.{directive_questions}
use Rattle.ledger_model.specs.Calls.{admitted_by}
use Rattle.ledger_model.proofs.Questions.{outcome_accepted, outcome_refused}
use Rattle.ledger_model.proofs.Soundness.{sound_admit}
use Rattle.ledger.proofs.CallLaws.{refuses, changes, view_pushed, shape_pushed}
use Rattle.ledger.proofs.AdmitLaws.{not_accepted, answer_meant, own_selection}
use Rattle.ledger.proofs.Ledger.admit.Goals as goal

pub returns-in_err-admitted : goal.returns-in_err-admitted
unfolding admitted_by
returns-in_err-admitted c invariant =
    let m = view c.args.self.now in
    let p = err_from_is_err_and c.from_residual.result c.from_residual.ensures.1 in
    let e = answer_meant m invariant.model c.args.s c.asked.ensures.widths
    (ap asked_answer (sym c.in_err-admitted.was) ∙ c.asked.ensures.answer invariant.shape) in
    rw (p.1, p.2)
    (refuses invariant (outcome_refused (directive_questions meant m c.args.s) m _ e (not_accepted _)))

pub returns : goal.returns
unfolding admitted_by
returns c invariant =
    let m = view c.args.self.now in
    let s = c.args.s in
    let e = answer_meant m invariant.model s c.asked.ensures.widths
    (ap asked_answer (sym c.in_ok-admitted.was) ∙ c.asked.ensures.answer invariant.shape) in
    let is = IfOk-at_ok _ c.in_ok-admitted.was c.asked.ensures.meant in
    let room = IfOk-at_ok _ c.in_ok-admitted.was c.asked.ensures.room in
    changes
    (outcome_accepted (directive_questions meant m s) m _ e refl ∙ rw (view_pushed c.args.self.now c.push.ensures, is))
    (sound_admit m invariant.model s c.asked.ensures.widths)
    (shape_pushed c.args.self.now c.push.ensures invariant.shape room (own_selection m.register.records (directive_of s) is))
