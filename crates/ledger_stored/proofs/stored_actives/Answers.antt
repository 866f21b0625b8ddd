-- `stored_actives`: `map` stores each place.
use borrow.Author.Rules.{rules}
use Rattle.register.proofs.ArrayLaws.{long_mapped}
use Rattle.ledger_stored.specs.Stored.{stored_active}
use Rattle.ledger_stored.proofs.Mapping.{mapped}
use Rattle.ledger_stored.proofs.stored_actives.Goals as goal

pub returns : goal.returns
returns c = mapped stored_active _ (λ q x y r k. search rules) (search (rules, long_mapped)) c.map.ensures.items
