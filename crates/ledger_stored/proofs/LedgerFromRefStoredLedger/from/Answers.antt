-- A ledger from a stored one: the directives and the tokens are brought back one by one.
use mathlib.Core.Path.{refl}
use borrow.Author.Rules.{rules}
use Rattle.register.proofs.ArrayLaws.{long_mapped}
use Rattle.ledger_stored.specs.Stored.{active_of, token_of, ledger_of}
use Rattle.ledger_stored.proofs.Mapping.{mapped}
use Rattle.ledger_stored.proofs.LedgerFromRefStoredLedger.from.Goals as goal

pub returns : goal.returns
unfolding ledger_of
returns c =
    rw (
      c.from_parts.ensures,
      mapped active_of _ (λ q x y r k. search rules) (search (rules, long_mapped)) c.map.ensures.items,
      mapped token_of _ (λ q x y r k. search rules) (search (rules, long_mapped)) c.map-2.ensures.items,
    )
    refl
