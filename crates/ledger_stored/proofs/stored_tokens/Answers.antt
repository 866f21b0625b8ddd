-- `stored_tokens`: `map` stores each place.
use borrow.Author.Rules.{rules}
use Rattle.register.proofs.ArrayLaws.{long_mapped}
use Rattle.ledger_stored.specs.Stored.{stored_token}
use Rattle.ledger_stored.proofs.Mapping.{mapped}
use Rattle.ledger_stored.proofs.stored_tokens.Goals as goal

pub returns : goal.returns
returns c = mapped stored_token _ (λ q x y r k. search rules) (search (rules, long_mapped)) c.map.ensures.items
