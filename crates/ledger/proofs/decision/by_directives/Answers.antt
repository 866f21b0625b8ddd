-- `decision::by_directives`: the lowest directive where there is one, otherwise the default consent.
use Prim.Native.Nat.{ℕ}
use mathlib.Core.Path.{◌≡◌, refl, sym, ap, ◌∙◌}
use mathlib.Core.Bool.{Bool, true, false, ◌&&◌}
use mathlib.Core.List.{List, [], ◌∷◌}
use lib.Dec.{eqb}
use Rattle.std.specs.Prelude.{Option, Some, None}
use Rattle.sets.specs.Quantifiers.{one_if}
use Rattle.sets.specs.Bits.{bit}
use Rattle.directive.specs.declared.Directive.{Directive}
use Rattle.directive.specs.declared.Query.{Query}
use Rattle.directive.specs.declared.lowest.Best.{Best}
use Rattle.directive.specs.Lowest.{best_of}
use Rattle.ledger_model.specs.Model.{Model}
use Rattle.ledger_model.specs.Answer.{done}
use Rattle.ledger_model.specs.Decision.{Decision, matching, by_directives, decision}
use Rattle.ledger_model.specs.Questions.{first_no}
use Rattle.ledger_model.specs.Calls.{decided}
use Rattle.ledger.specs.Opening.{Undecided}
use Rattle.ledger.proofs.decision.by_directives.Goals as goal

by_lowest :
    (ds : List Directive) (x : Decision) (b : Best) → best_of ds ≡ Some b →
    by_directives ds x ≡ record { permit = b.permit; basis = 3; named = b.number ∷ [] }
by_lowest [] x b e = cc
by_lowest (d ∷ ds) x b e = cc

by_none : (ds : List Directive) (x : Decision) → best_of ds ≡ None → by_directives ds x ≡ x
by_none [] x e = refl
by_none (d ∷ ds) x e = cc

module _ (m : Model) (q : Query) {origins : ℕ} {best : Option Best} (past : Undecided m q origins) (lowest : best ≡ best_of (matching m q)) where
  directive : (b : Best) → best ≡ Some b → done (one_if b.permit ∷ 3 ∷ b.number ∷ []) ≡ decided m q
  unfolding decided first_no decision
  directive b e =
      rw (past.inside, past.no_patient, past.no_author, by_lowest (matching m q) _ b (sym lowest ∙ e))

  default : (o : Bool) → best ≡ None → bit q.requester.origin origins ≡ o → done (one_if (o && eqb q.requester.purpose 0) ∷ 4 ∷ []) ≡ decided m q
  unfolding decided first_no decision
  default o e b =
      rw (
        past.inside,
        past.no_patient,
        past.no_author,
        by_none (matching m q) _ (sym lowest ∙ e),
        ap (bit q.requester.origin) (sym past.default) ∙ b,
      )

pub returns-in-Some : goal.returns-in-Some
returns-in-Some c m past lowest = directive m _ past lowest c.in-Some.lowest c.in-Some.is

pub returns-then-has : goal.returns-then-has
returns-then-has c m past lowest = default m _ past lowest true c.in-None.is (sym c.has.ensures ∙ c.if-has.true)

pub returns-else-has : goal.returns-else-has
returns-else-has c m past lowest =
    rw c.if-has.false (default m _ past lowest false c.in-None.is (sym c.has.ensures ∙ c.if-has.false))
