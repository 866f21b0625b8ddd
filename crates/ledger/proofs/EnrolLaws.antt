-- Laws of the steps by which a card's ledger comes about: ranges that are not kept, and the ledger with another register.
use Prim.Native.Nat.{◌≤◌}
use mathlib.Core.Path.{◌≡◌, refl, ap}
use mathlib.Core.Bool.{Bool, true, false}
use mathlib.Core.List.{[]}
use Rattle.sets.proofs.Quantifiers.{both_ways}
use Rattle.register.specs.declared.Register.{Register}
use Rattle.register.specs.Register.{Contents, contents, role_places, record_places}
use Rattle.active.proofs.ListLaws.{none_active}
use Rattle.std.specs.Prelude.{Ok, Err}
use Rattle.ledger.specs.declared.Ledger.{Ledger}
use Rattle.ledger.specs.declared.enrolment.OutOfRange.{OutOfRange}
use Rattle.ledger_model.specs.Model.{Model, with_register}
use Rattle.ledger.specs.State.{view}
use Rattle.ledger_model.specs.Invariant.{RegisterInvariant}
use Rattle.ledger_model.proofs.Enrolled.{sound_with}
use Rattle.ledger.specs.Invariant.{Invariant}
use Rattle.ledger.specs.Enrolment.{Enrols}

-- the ledger with another register
abbrev pub register_with : Ledger → Register → Ledger
register_with l g = record { patient = l.patient; clock = l.clock; register = g; active = l.active; tokens = l.tokens }

module _ {l : Ledger} (invariant : Invariant l) where
  pub out_of_range : {kept : Bool} {m : Model} → kept ≡ false → {e : OutOfRange} → Enrols l kept m (Err e) l
  out_of_range e = record { fits = rw e; ledger = λ t. both_ways t e; unchanged = λ _. refl; invariant = invariant }

  -- where there are no directives yet
  pub enrolled :
      {kept : Bool} {c : Contents} (g : Register) → kept ≡ true → (view l).active ≡ [] → contents g ≡ c →
      RegisterInvariant c → g.role_count ≤ role_places → g.record_count ≤ record_places →
      Enrols l kept (with_register (view l) c) (Ok tt) (register_with l g)
  enrolled g e none same register roles records =
      record {
        fits = rw e;
        ledger = λ _. ap (λ (c : Contents). with_register (view l) c) same;
        unchanged = λ f. both_ways e f;
        invariant =
            record {
              shape =
                  record {
                    roles_held = roles;
                    records_held = records;
                    active_held = none_active none invariant.shape.active_held;
                    tokens_held = invariant.shape.tokens_held;
                  };
              model = sound_with (view l) (contents g) invariant.model none (rw same register);
            };
      }
