-- `Ledger::commit`: question 6, and then the draft that the bytes write.
use borrow.Author.Tests.{eq-eqb, ne_eqb}
use Rattle.validation_meaning.specs.Judgement.{meant}
use Rattle.ledger_model.proofs.Passed.{committed_bytes, committed_other}
use Rattle.ledger.proofs.CallLaws.{refuses}
use Rattle.ledger.proofs.Ledger.commit.Goals as goal

pub returns-then-draft-ne-SIZE : goal.returns-then-draft-ne-SIZE
returns-then-draft-ne-SIZE c invariant =
    refuses invariant (committed_other meant _ _ (ne_eqb _ 25 c.if-draft-ne-SIZE.true))

pub returns : goal.returns
returns c invariant =
    rw (committed_bytes meant _ _ (eq-eqb _ 25 c.if-draft-ne-SIZE.false))
    (rw c.from_bytes.ensures at (c.commit_draft.ensures invariant))
