-- `call`: the entry's promise, stored.
use mathlib.Core.Path.{sym}
use Rattle.newelsage.proofs.LibraryLaws.{not_called, called}
use Rattle.newelsage.proofs.calls.call.Goals as goal

pub returns-then-stored-ne-STAMP : goal.returns-then-stored-ne-STAMP
returns-then-stored-ne-STAMP c =
    not_called _ _ _ _ _ (λ e. c.if-stored-ne-STAMP.true (sym e)) c.refuse.ensures

pub returns : goal.returns
returns c =
    let line = c.line_of in
    let entry = c.run_call-entry in
    let ledger = c.from-ledger in
    called _ ledger.result _ _ _ line.result _ _ _ _ (sym c.if-stored-ne-STAMP.false)
    ledger.ensures entry.ensures line.ensures c.put_line.ensures c.from.ensures
