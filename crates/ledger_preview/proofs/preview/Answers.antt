-- `preview`: what commit refuses is refused alike; where it accepts, the ledger before is compared with the one after it.
use Rattle.ledger_preview.proofs.AnswerLaws.{refused_alike, compares}
use Rattle.ledger_preview.proofs.preview.Goals as goal

pub returns-in_err-commit : goal.returns-in_err-commit
returns-in_err-commit c =
    refused_alike c.in_err-commit.was c.commit.ensures c.from_residual.ensures.1

pub returns : goal.returns
returns c = compares c.in_ok-commit.was c.commit.ensures c.compared.ensures
