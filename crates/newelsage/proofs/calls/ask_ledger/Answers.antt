-- `ask_ledger`: which question it is, and what its function promises, of the ledger that is stored.
use mathlib.Core.Path.{refl}
use native.Mathlib.Omega.{arith}
use Rattle.replay_entries.specs.Entries.{said_of}
use Rattle.newelsage.proofs.LibraryLaws.{asked, counts_asked, token_asked, malformed_asked, other_asked, as_asked, query_told}
use Rattle.newelsage.proofs.calls.ask_ledger.Goals as goal

pub returns-in-0-empty : goal.returns-in-0-empty
returns-in-0-empty c stamp =
    asked _ c.from-ledger.result _ _ _ _ _ _ _ c.put_counts.ensures stamp c.from-ledger.ensures
    (λ _. as_asked (counts_asked _ _ c.in-0-empty.is-0 (omega (arith, c.in-0-empty.len_below))) (record { told = c.put_counts.ensures; buffer = refl }))

pub returns-in-1-len1 : goal.returns-in-1-len1
returns-in-1-len1 c stamp =
    let arm = c.in-1-len1 in
    asked _ c.from-ledger.result _ _ _ _ _ _ _ c.put_token.ensures stamp c.from-ledger.ensures
    (λ _. as_asked (token_asked _ _ arm.is-0 (omega (arith, arm.len_at_least, arm.len_below))) (record { told = c.put_token.ensures; buffer = refl }))

pub returns-in-0-default : goal.returns-in-0-default
returns-in-0-default c stamp =
    asked _ c.from-ledger.result _ _ _ _ _ _ _ c.refuse.ensures stamp c.from-ledger.ensures
    (λ _. as_asked (malformed_asked _ _ (grind arith) (grind arith) (grind arith)) (record { told = c.refuse.ensures; buffer = refl }))

pub returns-in_default : goal.returns-in_default
returns-in_default c stamp =
    let entry = c.run_query-entry in
    asked _ c.from-ledger.result _ _ _ _ _ _ _ (c.put_line.ensures (said_of entry.result) _ c.line_of.ensures) stamp c.from-ledger.ensures
    (λ invariant. as_asked (other_asked _ _ (omega arith) (omega arith)) (query_told _ _ _ _ _ _ _ _ _ (entry.ensures invariant) c.line_of.ensures c.put_line.ensures))
