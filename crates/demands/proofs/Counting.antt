-- The balance of active directives over a list of calls.
use Prim.Native.Nat.{◌+◌}
use mathlib.Core.Path.{◌≡◌}
use mathlib.Core.List.{List}
use native.Mathlib.Omega.{arith}
use lib.ListN.{length}
use Rattle.validation_meaning.specs.Judgement.{meant}
use Rattle.ledger.specs.declared.Ledger.{Ledger}
use Rattle.ledger_model.specs.Model.{Model}
use Rattle.ledger.specs.State.{view}
use Rattle.ledger_model.specs.Answer.{Answer}
use Rattle.ledger_model.specs.Calls.{Call, commit, revoke, advance, issue, called_by}
use Rattle.ledger_model.specs.Invariant.{ModelInvariant}
use Rattle.ledger.specs.Invariant.{Invariant}
use Rattle.ledger_model.proofs.Balance.{commit_active, revoke_active, advance_active, issue_active}
use Rattle.demands.specs.Runs.{Run, ended, more}
use Rattle.demands.specs.Counts.{counts_of, totals}
use Rattle.demands.proofs.Runs.{called_gives}

call_balance :
    (m : Model) → ModelInvariant m → (c : Call) →
    length (called_by meant m c).model.active
    + (counts_of c (called_by meant m c).answer).revoked
    + (counts_of c (called_by meant m c).answer).expired
    ≡ length m.active + (counts_of c (called_by meant m c).answer).accepted
call_balance m h (commit s) = omega (arith, commit_active m s)
call_balance m h (revoke n) = omega (arith, revoke_active m h n)
call_balance m h (advance t) = omega (arith, advance_active m t)
call_balance m h (issue n p states minutes) = omega (arith, issue_active m n p states minutes)

pub run_balance :
    {l m : Ledger} {cs : List Call} {rs : List Answer} → Invariant l → Run l cs rs m →
    length (view m).active + (totals cs rs).revoked + (totals cs rs).expired
    ≡ length (view l).active + (totals cs rs).accepted
unfolding totals
run_balance h ended = omega arith
run_balance h (more {l} {c} called rest) =
    let now = called_gives h called in
    let later = run_balance now.invariant rest in
    let first = rw (← now.answer, ← now.ledger) at (call_balance (view l) h.model c) in
    omega arith
