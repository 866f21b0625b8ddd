-- `Ledger::commit_draft`: the questions 7 to 13, then 14; where the invariant holds the search answers as is meant, and a directive
-- that passes stands last.
use mathlib.Core.Path.{◌≡◌, refl, sym, ap, ◌∙◌}
use Rattle.std.proofs.lemmas.Result.{err_from_is_err_and, IfOk-at_ok}
use Rattle.sets.specs.Quantifiers.{all_in}
use Rattle.active.specs.declared.Active.{Active}
use Rattle.drafts.specs.Form.{directive_of}
use Rattle.validation_meaning.specs.Search.{redundant_found}
use Rattle.ledger.specs.State.{view}
use Rattle.ledger.specs.Invariant.{Invariant}
use Rattle.ledger.specs.Answer.{asked_answer}
use Rattle.ledger_model.specs.Questions.{first_no}
use Rattle.ledger_model.specs.Calls.{committed_draft}
use Rattle.ledger_model.proofs.Agree.{committed_draft_agree, sound_searchable}
use Rattle.ledger_model.proofs.Soundness.{sound_commit_draft}
use Rattle.ledger.proofs.CallLaws.{refuses, changes, records_few, view_pushed, shape_pushed}
use Rattle.ledger.proofs.AdmitLaws.{not_accepted, own_selection, last_asked, commit_refused, commit_left}
use Rattle.ledger.proofs.Ledger.commit_draft.Goals.{After-is_redundant}
use Rattle.ledger.proofs.Ledger.commit_draft.Goals as goal

pub returns-in_err-a : goal.returns-in_err-a
returns-in_err-a c invariant =
    let p = err_from_is_err_and c.from_residual.result c.from_residual.ensures.1 in
    rw (p.1, p.2)
    (refuses invariant
    (committed_draft_agree _ (sound_searchable _ invariant.model) c.args.s c.asked.ensures.widths
    ∙ commit_refused _ _
    (ap asked_answer (sym c.in_err-a.was) ∙ c.asked.ensures.answer invariant.shape)
    (not_accepted _)))

-- the outcome by search, which where the invariant holds is as meant
left :
    (c : After-is_redundant) →
    let args = c.args in Invariant args.self.now →
    committed_draft (view args.self.now) args.s ≡ last_asked (view args.self.now) args.s
left c invariant =
    committed_draft_agree _ (sound_searchable _ invariant.model) c.args.s c.asked.ensures.widths
    ∙ commit_left _ _ (ap asked_answer (sym c.in_ok-a.was) ∙ c.asked.ensures.answer invariant.shape) refl

-- the answer to 14
repeats :
    (c : After-is_redundant) →
    let args = c.args in
    let m = view args.self.now in Invariant args.self.now →
    c.is_redundant.result ≡ redundant_found m.register m.clock (directive_of args.s) m.active
repeats c invariant =
    let rs = (view c.args.self.now).register.records in
    let is = IfOk-at_ok _ c.in_ok-a.was c.asked.ensures.meant in
    rw (ap (λ (a : Active). a.directive) is) at
    (rw c.roles.ensures.value at
    (c.is_redundant.ensures.searched rs
    (record {
      few = records_few invariant.shape;
      own = own_selection rs (directive_of c.args.s) is;
      others = invariant.shape.active_held;
    })))

pub returns-then-is_redundant : goal.returns-then-is_redundant
unfolding first_no all_in
returns-then-is_redundant c invariant =
    let at = goal.at.returns-then-is_redundant c in
    refuses invariant
    (left at.After-is_redundant invariant ∙ rw (sym (repeats at.After-is_redundant invariant) ∙ c.if-is_redundant.true))

pub returns : goal.returns
unfolding first_no all_in
returns c invariant =
    let m = view c.args.self.now in
    let s = c.args.s in
    let at = goal.at.returns c in
    let is = IfOk-at_ok _ c.in_ok-a.was c.asked.ensures.meant in
    let room = IfOk-at_ok _ c.in_ok-a.was c.asked.ensures.room in
    changes
    (left at.After-is_redundant invariant
    ∙ rw (sym (repeats at.After-is_redundant invariant) ∙ c.if-is_redundant.false, view_pushed c.args.self.now c.push.ensures, is))
    (sound_commit_draft m invariant.model s c.asked.ensures.widths)
    (shape_pushed c.args.self.now c.push.ensures invariant.shape room (own_selection m.register.records (directive_of s) is))
