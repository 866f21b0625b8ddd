-- What the answer to questions 7 to 13 by search says of admit and of commit.
use mathlib.Core.Path.{◌≡◌, refl, sym, ap, ◌∙◌}
use mathlib.Core.Bool.{true, false, not}
use mathlib.Core.List.{List, [], ◌∷◌}
use lib.Dec.{eqb}
use Rattle.std.specs.Prelude.{Ok, Err}
use Rattle.register.specs.declared.Record.{Record}
use Rattle.directive.specs.declared.Directive.{Directive}
use Rattle.active.specs.declared.Active.{Active}
use Rattle.active.specs.Active.{active_in}
use Rattle.drafts.specs.declared.Draft.{Draft}
use Rattle.drafts.specs.Form.{directive_of}
use Rattle.drafts.proofs.FormLaws.{Widths}
use Rattle.validation_meaning.specs.Search.{redundant_found}
use Rattle.validation_meaning.specs.Judgement.{meant}
use Rattle.validation_meaning.specs.Searched.{searched}
use Rattle.ledger.specs.declared.answer.DirectiveRefusal.{DirectiveRefusal}
use Rattle.ledger.specs.declared.answer.DirectiveRefusal.TheVariants.{OutOfRange, NotInRegister, NoMinutes, NumberTaken, ListFull, BreaksBaseline, Conflicts}
use Rattle.ledger.specs.declared.answer.CommitRefusal.{CommitRefusal}
use Rattle.ledger.specs.declared.answer.CommitRefusal.TheVariants as Commit
use Rattle.ledger_model.specs.Model.{Model}
use Rattle.ledger_model.specs.Answer.{Answer, done, accepted, refusal}
use Rattle.ledger.specs.Answer.{CommitAnswer, directive_refusal, commit_refusal, commit_answer}
use Rattle.ledger_model.specs.Questions.{ask, first_no, Outcome, outcome, directive_questions, draft_questions}
use Rattle.ledger_model.specs.Calls.{with_last, committed_draft_by}
use Rattle.ledger_model.specs.Invariant.{ModelInvariant}
use Rattle.ledger_model.proofs.Questions.{outcome_accepted, outcome_refused, outcome_append}
use Rattle.ledger_model.proofs.Agree.{questions_agree, sound_searchable}

-- a refusal accepts nothing
pub not_accepted : (r : DirectiveRefusal) → accepted (directive_refusal r) ≡ false
not_accepted OutOfRange = refl
not_accepted NotInRegister = refl
not_accepted NoMinutes = refl
not_accepted NumberTaken = refl
not_accepted ListFull = refl
not_accepted BreaksBaseline = refl
not_accepted (Conflicts n) = refl

pub not_committed : (r : CommitRefusal) → accepted (commit_refusal r) ≡ false
not_committed Commit.WrongLength = refl
not_committed (Commit.Directive r) = not_accepted r
not_committed Commit.Redundant = refl

-- an answer is accepted where it misses no question
pub directive_accepted : (r : DirectiveRefusal) → accepted (directive_refusal r) ≡ eqb (refusal (directive_refusal r)) 0
directive_accepted OutOfRange = refl
directive_accepted NotInRegister = refl
directive_accepted NoMinutes = refl
directive_accepted NumberTaken = refl
directive_accepted ListFull = refl
directive_accepted BreaksBaseline = refl
directive_accepted (Conflicts n) = refl

pub commit_accepted : (a : CommitAnswer) → accepted (commit_answer a) ≡ eqb (refusal (commit_answer a)) 0
commit_accepted (Ok u) = refl
commit_accepted (Err Commit.WrongLength) = refl
commit_accepted (Err (Commit.Directive r)) = directive_accepted r
commit_accepted (Err Commit.Redundant) = refl

-- an active directive that is d's selects what its directive does
pub own_selection :
    (rs : List Record) {a : Active} (d : Directive) → a ≡ active_in rs d → a ≡ active_in rs a.directive
own_selection rs d e = e ∙ ap (active_in rs) (ap (λ (a : Active). a.directive) (sym e))

-- on a sound model the answer is that of what is meant
pub answer_meant :
    (m : Model) → ModelInvariant m → (s : Draft) → Widths s → {a : Answer} →
    a ≡ first_no (directive_questions searched m s) (done []) → a ≡ first_no (directive_questions meant m s) (done [])
answer_meant m h s wide e = e ∙ sym ((questions_agree m (sound_searchable m h) s wide).answer (done []))

-- question 14 by search, and the outcome where it is passed
abbrev pub last_asked : Model → Draft → Outcome
last_asked m s =
    outcome (ask 14 (not (redundant_found m.register m.clock (directive_of s) m.active)) ∷ []) m
    (record { answer = done []; model = with_last m (directive_of s) })

module _ (m : Model) (s : Draft) where
  -- a draft is put to 7 to 13 and then to 14
  asked_in_turn : committed_draft_by searched m s ≡ outcome (directive_questions searched m s) m (last_asked m s)
  unfolding committed_draft_by draft_questions
  asked_in_turn =
      let left = ask 14 (not (redundant_found m.register m.clock (directive_of s) m.active)) ∷ [] in
      outcome_append (directive_questions searched m s) left m (record { answer = done []; model = with_last m (directive_of s) })

  module _ {a : Answer} (e : a ≡ first_no (directive_questions searched m s) (done [])) where
    pub commit_refused : accepted a ≡ false → committed_draft_by searched m s ≡ record { answer = a; model = m }
    commit_refused f = asked_in_turn ∙ outcome_refused (directive_questions searched m s) m (last_asked m s) e f

    pub commit_left : accepted a ≡ true → committed_draft_by searched m s ≡ last_asked m s
    commit_left t = asked_in_turn ∙ outcome_accepted (directive_questions searched m s) m (last_asked m s) e t
