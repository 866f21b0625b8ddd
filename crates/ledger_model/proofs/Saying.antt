-- What the directives say, and so effect and basis, is determined by which effects cover the request at hand.
use Prim.Native.Nat.{◌<◌}
use mathlib.Core.Path.{◌≡◌, refl, sym, ap, ◌∙◌}
use mathlib.Core.Bool.{Bool, true, false, beq}
use mathlib.Core.Logic.{⊎_elim}
use mathlib.Core.List.{List, [], ◌∷◌, Memᴰ}
use native.Mathlib.Omega.{arith}
use borrow.Author.Tests.{ltb-true}
use lib.ListN.{length, take}
use Rattle.sets.specs.Quantifiers.{pick, one_if, all_in, some_in}
use Rattle.sets.proofs.Quantifiers.{either_way, both_ways, never_true, and_left, and_right, every_list, some_list}
use Rattle.sets.proofs.Keep.{all_keep, some_keep}
use Rattle.directive.specs.declared.Directive.{Directive}
use Rattle.directive.specs.declared.Request.{Request}
use Rattle.directive.specs.declared.Query.{Query}
use Rattle.directive.specs.Matching.{matches, request_at}
use Rattle.validation_meaning.specs.Requests.{persons, origins, purposes, minutes, InRange}
use Rattle.validation_meaning.proofs.Requests.{asked_there, in_range_of}
use Rattle.ledger_model.specs.Model.{Model}
use Rattle.directive.specs.Lowest.{lowest}
use Rattle.ledger_model.specs.Decision.{decision_values, matching, by_default, by_directives}
use Rattle.ledger_model.specs.Xacml.{Result, Permit, Deny, NotApplicable, directives_say, effect_of}
use Rattle.ledger_model.specs.Questions.{passes, decide_questions}
use Rattle.ledger_model.specs.Invariant.{ModelInvariant}
use Rattle.ledger_model.proofs.Lowest.{lowest_is}
use Rattle.ledger_model.proofs.Clash.{no_clash_at}
use Rattle.ledger_model.proofs.Covering.{speaks, covered_by, covered_by_read}

-- the request that a query is now
abbrev pub now : Model → Query → Request
now m q = request_at q m.clock

-- what passes question 17 is a request in range
pub in_range_now :
    (m : Model) → ModelInvariant m → (q : Query) → q.requester.person < persons → passes (decide_questions m q) ≡ true →
    InRange m.register m.clock (now m q)
unfolding all_in
in_range_now m h q person asked =
    in_range_of m.register m.clock (now m q) person
    (ltb-true q.requester.role (length m.register.roles) (search (and_left, and_right)))
    (ltb-true q.requester.origin origins (search (and_left, and_right)))
    (asked_there m.register.records q.«record» (search (and_left, and_right)))
    (ltb-true q.requester.purpose purposes (search (and_left, and_right)))
    (ltb-true m.clock minutes h.clock_in)
    (omega arith)

beq_self : (b : Bool) → beq b b ≡ true
beq_self true = refl
beq_self false = refl

module _ (m : Model) (q : Query) where
  covered_by_matching : (b : Bool) → covered_by m b (now m q) ≡ some_in (speaks m.register b (now m q)) (matching m q)
  covered_by_matching b = sym (some_keep _ _ (λ d t. and_right (beq b d.permit) _ t) m.active)

  all_match : all_in (λ d. matches m.register d (now m q)) (matching m q) ≡ true
  all_match = all_keep _ (λ _. true) _ (λ _ t _. t) m.active ((every_list m.active).make _ (λ _ _. refl))

  matching_covers : (d : Directive) → Memᴰ d (matching m q) → covered_by m d.permit (now m q) ≡ true
  matching_covers d j =
      let matched = (every_list (matching m q)).read _ all_match d j in
      covered_by_matching d.permit
      ∙ (some_list (matching m q)).make (speaks m.register d.permit (now m q)) d j
      (rw (beq_self d.permit, matched))

  -- the effect and the basis of what they say
  pub said_effect :
      (ds : List Directive) →
      take 2 (decision_values (by_directives ds (by_default m q)))
      ≡ one_if (effect_of m q (directives_say ds)).permit ∷ (effect_of m q (directives_say ds)).basis ∷ []
  said_effect [] = refl
  said_effect (d ∷ ds) =
      ⊎_elim
      (λ (permit : (lowest d ds).permit ≡ true). rw permit)
      (λ (deny : (lowest d ds).permit ≡ false). rw deny)
      (either_way (lowest d ds).permit)

-- what they say where the request is covered, or not, by a permit and by a deny
abbrev pub says : Bool → Bool → Result
says permitted denied = pick permitted Permit (pick denied Deny NotApplicable)

module _ (m : Model) (h : ModelInvariant m) (q : Query) (i : InRange m.register m.clock (now m q)) where
  one_effect : covered_by m true (now m q) ≡ true → covered_by m false (now m q) ≡ false
  one_effect t =
      never_true _ λ u.
      let (d, in_d, permit, by_d) = covered_by_read m true _ t in
      let (e, in_e, deny, by_e) = covered_by_read m false _ u in
      no_clash_at m h d e in_d in_e permit deny _ i by_d by_e

  said_by :
      (ds : List Directive) → matching m q ≡ ds →
      directives_say ds ≡ says (covered_by m true (now m q)) (covered_by m false (now m q))
  unfolding some_in
  said_by [] e =
      let none : (b : Bool) → covered_by m b (now m q) ≡ false =
      λ b. covered_by_matching m q b ∙ ap (some_in (speaks m.register b (now m q))) e
      in
      rw (none true, none false)
  said_by (d ∷ ds) e =
      let x = lowest d ds in
      let here : covered_by m x.permit (now m q) ≡ true = matching_covers m q x (rw e (lowest_is d ds).among) in
      ⊎_elim
      (λ (p : x.permit ≡ true). rw (p, rw p at here))
      (λ (p : x.permit ≡ false).
      let denied : covered_by m false (now m q) ≡ true = rw p at here in
      let not_both : covered_by m true (now m q) ≡ false = never_true _ (λ t. both_ways denied (one_effect t)) in
      rw (p, not_both, denied))
      (either_way x.permit)

  pub said_by_covered :
      directives_say (matching m q) ≡ says (covered_by m true (now m q)) (covered_by m false (now m q))
  said_by_covered = said_by (matching m q) refl
