-- What the ledger's calls promise. On a ledger that does not keep the invariant a call ends and its answer is free, so each promise
-- is an implication from `Invariant`. Where it is kept, the answer and the view after it are the reference model's; a refusal gives
-- back the ledger itself; what stands past a count of the ledger after a success is free.
use Rattle.std.specs.Prelude.{ℕ, ◌≡◌, false, List}
use Rattle.directive.specs.declared.Query.{Query}
use Rattle.drafts.specs.declared.Draft.{Draft}
use Rattle.ledger.specs.declared.Ledger.{Ledger}
use Rattle.ledger.specs.State.{view}
use Rattle.ledger_model.specs.Answer.{Answer, accepted}
use Rattle.ledger.specs.Answer.{AdmitAnswer, CommitAnswer, RevokeAnswer, AdvanceAnswer, IssueAnswer, BriefAnswer, DecideAnswer, admit_answer, commit_answer, revoke_answer, advance_answer, issue_answer, brief_answer, decide_answer}
use Rattle.ledger_model.specs.Questions.{Outcome}
use Rattle.ledger_model.specs.Calls.{admitted, committed_draft, committed, revoked, advanced, issued, decided, briefed}
use Rattle.ledger.specs.Invariant.{Invariant}

-- The answer a and the ledger `after` are those of the outcome o; after a refusal the ledger is l itself.
pub record Gives (l : Ledger) (o : Outcome) (a : Answer) (after : Ledger) : Type 0 where
  pub answer : a ≡ o.answer
  pub ledger : view after ≡ o.model
  pub unchanged : accepted a ≡ false → after ≡ l
  pub invariant : Invariant after

-- What a call that can change the ledger gives: its answer, and the ledger after it.
pub record After (A : Type 0) : Type 0 where
  pub answer : A
  pub ledger : Ledger

abbrev pub after : {A : Type 0} → A → Ledger → After A
after a l = record { answer = a; ledger = l }

abbrev pub AdmitResult : Type 0
AdmitResult = After AdmitAnswer

abbrev pub CommitResult : Type 0
CommitResult = After CommitAnswer

abbrev pub RevokeResult : Type 0
RevokeResult = After RevokeAnswer

abbrev pub AdvanceResult : Type 0
AdvanceResult = After AdvanceAnswer

abbrev pub IssueResult : Type 0
IssueResult = After IssueAnswer

-- a directive put to questions 7 to 13 alone
abbrev pub Admits : Ledger → Draft → AdmitResult → Type 0
Admits l s r = Invariant l → Gives l (admitted (view l) s) (admit_answer r.answer) r.ledger

-- commit of a decoded draft s
abbrev pub CommitsDraft : Ledger → Draft → CommitResult → Type 0
CommitsDraft l s r = Invariant l → Gives l (committed_draft (view l) s) (commit_answer r.answer) r.ledger

-- commit of a draft's bytes s
abbrev pub Commits : Ledger → List ℕ → CommitResult → Type 0
Commits l s r = Invariant l → Gives l (committed (view l) s) (commit_answer r.answer) r.ledger

-- revoke of the number n
abbrev pub Revokes : Ledger → ℕ → RevokeResult → Type 0
Revokes l n r = Invariant l → Gives l (revoked (view l) n) (revoke_answer r.answer) r.ledger

-- advance to the minute t
abbrev pub Advances : Ledger → ℕ → AdvanceResult → Type 0
Advances l t r = Invariant l → Gives l (advanced (view l) t) (advance_answer r.answer) r.ledger

-- issue of a token: number, person, state set, length in minutes
abbrev pub Issues : Ledger → ℕ → ℕ → ℕ → ℕ → IssueResult → Type 0
Issues l n p states minutes r =
    Invariant l → Gives l (issued (view l) n p states minutes) (issue_answer r.answer) r.ledger

-- The calls that change nothing give their answer alone.
abbrev pub Decides : Ledger → Query → DecideAnswer → Type 0
Decides l q a = Invariant l → decide_answer a ≡ decided (view l) q

-- brief for a token's number and a person
abbrev pub Briefs : Ledger → ℕ → ℕ → BriefAnswer → Type 0
Briefs l n p a = Invariant l → brief_answer a ≡ briefed (view l) n p
