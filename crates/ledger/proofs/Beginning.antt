-- A ledger that has a patient and a clock and nothing else keeps the invariant; the empty ledger is one, and its view the empty
-- model.
use Prim.Native.Nat.{ℕ, ◌^◌, ◌<◌}
use mathlib.Core.Path.{◌≡◌, refl}
use native.Mathlib.Omega.{arith}
use Rattle.register.specs.Register.{empty_register}
use Rattle.active.specs.Active.{empty_list}
use Rattle.active.proofs.ListLaws.{empty_invariant}
use Rattle.emergency.specs.Tokens.{empty_tokens}
use Rattle.ledger.specs.declared.Ledger.{Ledger}
use Rattle.ledger.specs.State.{view, empty_ledger}
use Rattle.ledger_model.specs.Model.{empty_model}
use Rattle.ledger_model.proofs.Enrolled.{beginning_sound}
use Rattle.ledger.specs.Invariant.{Invariant}
use Rattle.ledger.specs.Enrolment.{BeginsWith}

pub empty_view : view empty_ledger ≡ empty_model
unfolding empty_ledger empty_register empty_list empty_tokens
empty_view = refl

-- the empty ledger with a patient and a clock
abbrev pub begun : ℕ → ℕ → Ledger
begun patient clock =
    record {
      patient = patient;
      clock = clock;
      register = empty_ledger.register;
      active = empty_ledger.active;
      tokens = empty_ledger.tokens;
    }

pub begun_begins : (patient clock : ℕ) → patient < 2 ^ 16 → clock < 2 ^ 32 → BeginsWith patient clock (begun patient clock)
unfolding empty_ledger empty_register empty_list empty_tokens
begun_begins patient clock p t =
    record {
      ledger = refl;
      invariant =
          record {
            shape =
                record {
                  roles_held = omega arith;
                  records_held = omega arith;
                  active_held = empty_invariant _;
                  tokens_held = omega arith;
                };
            model = beginning_sound patient clock p t;
          };
    }

pub empty_sound : Invariant empty_ledger
unfolding empty_ledger
empty_sound = (begun_begins 0 0 (omega arith) (omega arith)).invariant
