-- `Reader::read_directive`: the ledger puts questions 7 to 13 of the numbers that the value writes.
use borrow.Author.Tests.{eqb-true}
use Rattle.std.specs.Prelude.{Ok, Err}
use Rattle.std.proofs.lemmas.Result.{err_from_is_err_and}
use Rattle.sets.proofs.Quantifiers.{and_right}
use Rattle.card_reading.proofs.ReaderLaws.{admits}
use Rattle.card_reading.proofs.read.Reader.read_directive.Goals as goal

pub directive_draft-requires : goal.directive_draft-requires
directive_draft-requires c = eqb-true _ _ (and_right _ _ c.requires)

pub returns-in_err-admit : goal.returns-in_err-admit
returns-in_err-admit c invariant =
    let p = err_from_is_err_and c.from_residual.result c.from_residual.ensures.1 in
    rw (p.1, p.2) (admits (Err _) (rw c.directive_draft.ensures at (c.in_err-admit.ensures invariant)) c.requires)

pub returns : goal.returns
returns c invariant = admits (Ok _) (rw c.directive_draft.ensures at (c.in_ok-admit.ensures invariant)) c.requires
