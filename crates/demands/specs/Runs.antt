-- Lists of calls of the program, through what its functions promise.
use Rattle.std.specs.Prelude.{ℕ, ◌^◌, ◌<◌, ◌≡◌, true, List, [], ◌∷◌}
use Rattle.sets.specs.Numbers.{is_bytes}
use Rattle.ledger.specs.declared.Ledger.{Ledger}
use Rattle.ledger.specs.State.{empty_ledger}
use Rattle.ledger_model.specs.Answer.{Answer}
use Rattle.ledger.specs.Answer.{commit_answer, revoke_answer, advance_answer, issue_answer}
use Rattle.ledger_model.specs.Calls.{Call, commit, revoke, advance, issue}
use Rattle.ledger.specs.Promises.{CommitResult, RevokeResult, AdvanceResult, IssueResult, Commits, Revokes, Advances, Issues}
use Rattle.card.specs.Promises.{ReadResult, Reads}

-- One call of the program, with arguments of document 01's widths, as its function's promise has it: the ledger before, the
-- call, the answer in document 01's numbers, the ledger after.
pub data Called : Ledger → Call → Answer → Ledger → Type 0 where
  committing :
      {l : Ledger} (s : List ℕ) (r : CommitResult) →
      is_bytes s ≡ true → Commits l s r → Called l (commit s) (commit_answer r.answer) r.ledger
  revoking :
      {l : Ledger} (n : ℕ) (r : RevokeResult) →
      n < 2 ^ 16 → Revokes l n r → Called l (revoke n) (revoke_answer r.answer) r.ledger
  advancing :
      {l : Ledger} (t : ℕ) (r : AdvanceResult) →
      t < 2 ^ 32 → Advances l t r → Called l (advance t) (advance_answer r.answer) r.ledger
  issuing :
      {l : Ledger} (n p states minutes : ℕ) (r : IssueResult) →
      n < 2 ^ 16 → p < 2 ^ 16 → states < 2 ^ 8 → minutes < 2 ^ 32 → Issues l n p states minutes r →
      Called l (issue n p states minutes) (issue_answer r.answer) r.ledger

-- "Each call gets the ledger that read or the call before it gave; nobody else changes it."
pub data Run : Ledger → List Call → List Answer → Ledger → Type 0 where
  ended : {l : Ledger} → Run l [] [] l
  more :
      {l m n : Ledger} {c : Call} {a : Answer} {cs : List Call} {rs : List Answer} →
      Called l c a m → Run m cs rs n → Run l (c ∷ cs) (a ∷ rs) n

-- "The ledgers meant in this paper are the empty one, what reading gives, and what the calls make of these."
pub data Reachable : Ledger → Type 0 where
  empty : Reachable empty_ledger
  reading : (card : List ℕ) (r : ReadResult) → is_bytes card ≡ true → Reads card r → Reachable r.ledger
  calling : {l m : Ledger} {c : Call} {a : Answer} → Reachable l → Called l c a m → Reachable m
