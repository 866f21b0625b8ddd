-- The ledger's view as lists; the empty ledger.
use Rattle.std.specs.Prelude.{ℕ}
use Rattle.register.specs.declared.Register.{Register}
use Rattle.register.specs.Register.{contents, empty_register}
use Rattle.active.specs.declared.ActiveList.{ActiveList}
use Rattle.active.specs.Active.{directives_of, empty_list}
use Rattle.emergency.specs.declared.TokenList.{TokenList}
use Rattle.emergency.specs.Tokens.{tokens_of, empty_tokens}
use Rattle.ledger_model.specs.Model.{Model}
use Rattle.ledger.specs.declared.Ledger.{Ledger}

-- "The ledger is the book's when patient, register, clock, active list and tokens are equal": when its view is the model.
abbrev pub view : Ledger → Model
view l =
    record {
      patient = l.patient;
      clock = l.clock;
      register = contents l.register;
      active = directives_of l.active;
      tokens = tokens_of l.tokens;
    }

-- "The empty ledger has patient 0, clock 0 and nothing else."
unfoldable pub empty_ledger : Ledger
empty_ledger = record { patient = 0; clock = 0; register = empty_register; active = empty_list; tokens = empty_tokens }

-- the ledger of these parts
abbrev pub ledger_from : ℕ → ℕ → Register → ActiveList → TokenList → Ledger
ledger_from patient clock register active tokens =
    record { patient = patient; clock = clock; register = register; active = active; tokens = tokens }
