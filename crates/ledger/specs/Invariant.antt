-- The invariant of the ledger: what every ledger that document 01 means satisfies.
use Rattle.std.specs.Prelude.{◌≤◌}
use Rattle.register.specs.Register.{role_places, record_places}
use Rattle.active.specs.Active.{ActiveInvariant}
use Rattle.emergency.specs.Tokens.{token_places}
use Rattle.ledger_model.specs.Invariant.{ModelInvariant}
use Rattle.ledger.specs.declared.Ledger.{Ledger}
use Rattle.ledger.specs.State.{view}

-- The ledger's shape: its counts keep within its arrays, and each active directive stands with what it selects. What stands past
-- a count is free.
pub record Shape (l : Ledger) : Type 0 where
  pub roles_held : l.register.role_count ≤ role_places
  pub records_held : l.register.record_count ≤ record_places
  pub active_held : ActiveInvariant (view l).register.records l.active
  pub tokens_held : l.tokens.count ≤ token_places

-- Its shape, and what document 01 says of its content.
pub record Invariant (l : Ledger) : Type 0 where
  pub shape : Shape l
  pub model : ModelInvariant (view l)
