-- `ask`: a decide is of the ledger that is stored.
use mathlib.Core.Path.{refl}
use Rattle.ledger_stored.specs.Stored.{ledger_of}
use Rattle.replay_entries.specs.Entries.{said_of}
use Rattle.newelsage.proofs.LibraryLaws.{not_asked, asked, decide_asked, as_asked, query_told}
use Rattle.newelsage.proofs.calls.ask.Goals as goal

pub returns-then-stored-ne-STAMP : goal.returns-then-stored-ne-STAMP
returns-then-stored-ne-STAMP c = not_asked _ _ _ _ _ _ c.if-stored-ne-STAMP.true c.refuse.ensures

pub returns-then-tag-eq20 : goal.returns-then-tag-eq20
returns-then-tag-eq20 c =
    let decided = c.decide_entry in
    let stored = c.args.stored.now in
    asked stored (ledger_of stored) _ _ _ _ _ _ _ (c.put_line.ensures (said_of decided.result) _ c.line_of.ensures) c.if-stored-ne-STAMP.false refl
    (λ invariant. as_asked (decide_asked _ _ c.if-tag-eq20.true) (query_told _ _ _ _ _ _ _ _ _ (decided.ensures _ invariant) c.line_of.ensures c.put_line.ensures))

pub returns : goal.returns
returns c = c.ask_ledger.ensures c.if-stored-ne-STAMP.false
