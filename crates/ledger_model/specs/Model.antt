-- The state of the reference model: the ledger as lists.
use Rattle.std.specs.Prelude.{ℕ, List, []}
use Rattle.register.specs.Register.{Contents}
use Rattle.directive.specs.declared.Directive.{Directive}
use Rattle.emergency.specs.declared.Token.{Token}

-- Document 01: the plain book. Patient, clock, register, active directives in order, tokens in order of issue.
pub record Model : Type 0 where
  pub patient : ℕ
  pub clock : ℕ
  pub register : Contents
  pub active : List Directive
  pub tokens : List Token

-- patient and clock, and nothing else
abbrev pub beginning : ℕ → ℕ → Model
beginning patient clock =
    record {
      patient = patient;
      clock = clock;
      register = record { roles = []; records = [] };
      active = [];
      tokens = [];
    }

-- "The empty ledger has patient 0, clock 0 and nothing else"
abbrev pub empty_model : Model
empty_model = beginning 0 0

abbrev pub with_register : Model → Contents → Model
with_register m c =
    record {
      patient = m.patient;
      clock = m.clock;
      register = c;
      active = m.active;
      tokens = m.tokens;
    }

abbrev pub with_active : Model → List Directive → Model
with_active m ds =
    record {
      patient = m.patient;
      clock = m.clock;
      register = m.register;
      active = ds;
      tokens = m.tokens;
    }

abbrev pub with_tokens : Model → List Token → Model
with_tokens m ts =
    record {
      patient = m.patient;
      clock = m.clock;
      register = m.register;
      active = m.active;
      tokens = ts;
    }
