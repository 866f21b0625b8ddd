-- What the answers of the calls mean, in document 01's numbers and values: those of a call that succeeds, and each case of what it is
-- refused for.
use Rattle.std.specs.Prelude.{[], ◌∷◌, Result, Ok, Err}
use Rattle.sets.specs.Quantifiers.{one_if}
use Rattle.active.specs.declared.Active.{Active}
use Rattle.emergency.specs.declared.Brief.{Brief}
use Rattle.ledger_model.specs.Answer.{Answer, done, refused}
use Rattle.ledger.specs.declared.answer.DirectiveRefusal.{DirectiveRefusal}
use Rattle.ledger.specs.declared.answer.DirectiveRefusal.TheVariants as Refusal
use Rattle.ledger.specs.declared.answer.CommitRefusal.{CommitRefusal}
use Rattle.ledger.specs.declared.answer.CommitRefusal.TheVariants as Commit
use Rattle.ledger.specs.declared.answer.NotActive.{NotActive}
use Rattle.ledger.specs.declared.answer.Dropped.{Dropped}
use Rattle.ledger.specs.declared.answer.BeforeClock.{BeforeClock}
use Rattle.ledger.specs.declared.answer.IssueRefusal.{IssueRefusal}
use Rattle.ledger.specs.declared.answer.IssueRefusal.TheVariants as Issue
use Rattle.ledger.specs.declared.answer.NoToken.{NoToken}
use Rattle.ledger.specs.declared.answer.Decision.{Decision}
use Rattle.ledger.specs.declared.answer.Decision.TheVariants as Decide
use Rattle.ledger.specs.declared.answer.NotInRegister.{NotInRegister}

-- The answers.
abbrev pub AdmitAnswer : Type 0
AdmitAnswer = Result (Unit {0}) DirectiveRefusal

abbrev pub CommitAnswer : Type 0
CommitAnswer = Result (Unit {0}) CommitRefusal

abbrev pub RevokeAnswer : Type 0
RevokeAnswer = Result (Unit {0}) NotActive

abbrev pub AdvanceAnswer : Type 0
AdvanceAnswer = Result Dropped BeforeClock

abbrev pub IssueAnswer : Type 0
IssueAnswer = Result (Unit {0}) IssueRefusal

abbrev pub BriefAnswer : Type 0
BriefAnswer = Result Brief NoToken

abbrev pub DecideAnswer : Type 0
DecideAnswer = Result Decision NotInRegister

abbrev pub directive_refusal : DirectiveRefusal → Answer
directive_refusal Refusal.OutOfRange = refused 7 []
directive_refusal Refusal.NotInRegister = refused 8 []
directive_refusal Refusal.NoMinutes = refused 9 []
directive_refusal Refusal.NumberTaken = refused 10 []
directive_refusal Refusal.ListFull = refused 11 []
directive_refusal Refusal.BreaksBaseline = refused 12 []
directive_refusal (Refusal.Conflicts n) = refused 13 (n ∷ [])

-- the answer to questions 7 to 13 alone
abbrev pub asked_answer : Result Active DirectiveRefusal → Answer
asked_answer (Ok a) = done []
asked_answer (Err r) = directive_refusal r

abbrev pub admit_answer : AdmitAnswer → Answer
admit_answer (Ok u) = done []
admit_answer (Err r) = directive_refusal r

abbrev pub commit_refusal : CommitRefusal → Answer
commit_refusal Commit.WrongLength = refused 6 []
commit_refusal (Commit.Directive r) = directive_refusal r
commit_refusal Commit.Redundant = refused 14 []

abbrev pub commit_answer : CommitAnswer → Answer
commit_answer (Ok u) = done []
commit_answer (Err r) = commit_refusal r

abbrev pub revoke_answer : RevokeAnswer → Answer
revoke_answer (Ok u) = done []
revoke_answer (Err r) = refused 15 []

-- both counts of dropped ones
abbrev pub advance_answer : AdvanceAnswer → Answer
advance_answer (Ok d) = done (d.directives ∷ d.tokens ∷ [])
advance_answer (Err r) = refused 16 []

abbrev pub issue_refusal : IssueRefusal → Answer
issue_refusal Issue.NoState = refused 18 []
issue_refusal Issue.WrongMinutes = refused 19 []
issue_refusal Issue.NumberTaken = refused 20 []
issue_refusal Issue.TokensFull = refused 21 []

abbrev pub issue_answer : IssueAnswer → Answer
issue_answer (Ok u) = done []
issue_answer (Err r) = issue_refusal r

-- the two words and the count
abbrev pub brief_answer : BriefAnswer → Answer
brief_answer (Ok b) = done (b.records.low ∷ b.records.high ∷ b.count ∷ [])
brief_answer (Err r) = refused 22 []

-- effect (1 permit, 0 deny), basis, and the number with basis 3
abbrev pub decision_answer : Decision → Answer
decision_answer Decide.Patient = done (1 ∷ 1 ∷ [])
decision_answer Decide.Author = done (1 ∷ 2 ∷ [])
decision_answer (Decide.Directive permit number) = done (one_if permit ∷ 3 ∷ number ∷ [])
decision_answer (Decide.Default permit) = done (one_if permit ∷ 4 ∷ [])

abbrev pub decide_answer : DecideAnswer → Answer
decide_answer (Ok d) = decision_answer d
decide_answer (Err r) = refused 17 []
