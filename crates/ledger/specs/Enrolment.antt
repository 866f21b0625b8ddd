-- How a card's ledger comes about, step by step: each step keeps the invariant. What stands past a count is free. No promise of a call
-- rests on these definitions: reading has its own.
use Rattle.std.specs.Prelude.{ℕ, ◌≡◌, Bool, true, false, List, [], ◌∷◌, ◌++◌, Result}
use Rattle.std.specs.Result.{is_ok}
use Rattle.register.specs.declared.Record.{Record}
use Rattle.register.specs.Register.{holding}
use Rattle.register.specs.Tree.{is_tree}
use Rattle.register.specs.Form.{record_fits}
use Rattle.ledger.specs.declared.Ledger.{Ledger}
use Rattle.ledger.specs.declared.enrolment.OutOfRange.{OutOfRange}
use Rattle.ledger_model.specs.Model.{Model, beginning, with_register}
use Rattle.ledger.specs.State.{view}
use Rattle.ledger.specs.Invariant.{Invariant}

-- a ledger of a patient and a clock, and nothing else
pub record BeginsWith (patient clock : ℕ) (l : Ledger) : Type 0 where
  pub ledger : view l ≡ beginning patient clock
  pub invariant : Invariant l

abbrev pub EnrolAnswer : Type 0
EnrolAnswer = Result (Unit {0}) OutOfRange

-- A step whose question 4 is `kept`: it gives the model m, or leaves the ledger alone where the ranges are not kept.
pub record Enrols (l : Ledger) (kept : Bool) (m : Model) (a : EnrolAnswer) (after : Ledger) : Type 0 where
  pub fits : is_ok a ≡ kept
  pub ledger : kept ≡ true → view after ≡ m
  pub unchanged : kept ≡ false → after ≡ l
  pub invariant : Invariant after

-- the roles of a ledger that has none yet
abbrev pub EnrolsRoles : Ledger → List ℕ → EnrolAnswer → Ledger → Type 0
EnrolsRoles l s a after =
    Invariant l →
    Enrols l (is_tree s) (with_register (view l) (holding s (view l).register.records)) a after

-- one record more of a ledger that has roles and no directives
abbrev pub EnrolsRecord : Ledger → Record → EnrolAnswer → Ledger → Type 0
EnrolsRecord l x a after =
    Invariant l →
    Enrols l (record_fits (view l).register.records x)
    (with_register (view l) (holding (view l).register.roles ((view l).register.records ++ (x ∷ []))))
    a after
