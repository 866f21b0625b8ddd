-- Laws of what the calls promise: of a refusal, of a change, and of how many a walk drops.
use Prim.Native.Nat.{ℕ, ◌-◌, ◌<◌, ◌≤◌}
use mathlib.Core.Path.{◌≡◌, refl, ap}
use mathlib.Core.Bool.{Bool, not}
use mathlib.Core.List.{List}
use native.Mathlib.Omega.{arith}
use lib.ListN.{length, length-take}
use Rattle.sets.specs.Quantifiers.{keep, count_in}
use Rattle.sets.proofs.Quantifiers.{both_ways}
use Rattle.sets.proofs.Keep.{count_keep}
use Rattle.register.specs.Register.{record_places}
use Rattle.directive.specs.declared.Directive.{Directive}
use Rattle.directive.specs.Places.{active_places}
use Rattle.active.specs.declared.Active.{Active}
use Rattle.active.specs.declared.ActiveList.{ActiveList}
use Rattle.active.specs.Active.{active_in, ActiveInvariant}
use Rattle.active.specs.Changes.{Pushed}
use Rattle.active.proofs.ListLaws.{directives_pushed, invariant_pushed}
use Rattle.emergency.specs.declared.TokenList.{TokenList}
use Rattle.emergency.specs.Tokens.{token_places}
use Rattle.ledger.specs.declared.Ledger.{Ledger}
use Rattle.ledger.specs.State.{view}
use Rattle.ledger_model.specs.Model.{with_active}
use Rattle.ledger_model.specs.Calls.{with_last}
use Rattle.ledger_model.specs.Answer.{Answer, done}
use Rattle.ledger_model.specs.Questions.{Outcome}
use Rattle.ledger_model.specs.Invariant.{ModelInvariant}
use Rattle.ledger.specs.Invariant.{Shape, Invariant}
use Rattle.ledger.specs.Promises.{Gives}

module _ {l : Ledger} {o : Outcome} where
  pub refuses : {a : Answer} → Invariant l → o ≡ record { answer = a; model = view l } → Gives l o a l
  refuses invariant e = record { answer = rw e; ledger = rw e; unchanged = λ _. refl; invariant = invariant }

  pub changes :
      {vs : List ℕ} {after : Ledger} → o ≡ record { answer = done vs; model = view after } → ModelInvariant o.model →
      Shape after → Gives l o (done vs) after
  changes e still shape =
      record {
        answer = rw e;
        ledger = rw e;
        unchanged = λ f. both_ways refl f;
        invariant = record { shape = shape; model = rw e at still };
      }

pub records_few : {l : Ledger} → Shape l → length (view l).register.records ≤ record_places
records_few {l} shape = simp length-take (omega (arith, shape.records_held))

-- the ledger with another clock, active list and token list
abbrev pub held_with : Ledger → ℕ → ActiveList → TokenList → Ledger
held_with l clock a t = record { patient = l.patient; clock = clock; register = l.register; active = a; tokens = t }

pub shape_held :
    {l : Ledger} → Shape l → (clock : ℕ) (a : ActiveList) (t : TokenList) →
    ActiveInvariant (view l).register.records a → t.count ≤ token_places → Shape (held_with l clock a t)
shape_held shape clock a t selections tokens =
    record {
      roles_held = shape.roles_held;
      records_held = shape.records_held;
      active_held = selections;
      tokens_held = tokens;
    }

-- one directive more, last
module _ (l : Ledger) {a : Active} {r : ActiveList} (pushed : Pushed l.active a r) where
  pub view_pushed : view (held_with l l.clock r l.tokens) ≡ with_last (view l) a.directive
  view_pushed = ap (λ (ds : List Directive). with_active (view l) ds) (directives_pushed pushed)

  pub shape_pushed :
      Shape l → l.active.count < active_places → a ≡ active_in (view l).register.records a.directive →
      Shape (held_with l l.clock r l.tokens)
  shape_pushed shape room own =
      shape_held shape l.clock r l.tokens (invariant_pushed pushed shape.active_held room own) shape.tokens_held

-- those that pass are as many as the others are fewer
pub dropped_count :
    {A : Type 0} (p : A → Bool) (l kept : List A) → kept ≡ keep (λ a. not (p a)) l → length l - length kept ≡ count_in p l
dropped_count p l kept e = omega (arith, count_keep p l, ap length e)

pub dropped_few :
    {A : Type 0} (p : A → Bool) (l kept : List A) → kept ≡ keep (λ a. not (p a)) l → length kept ≤ length l
dropped_few p l kept e = omega (arith, count_keep p l, ap length e)
