-- XACML 3.0's combining of results, over those that a directive can give, and what the directives say by it.
use Rattle.std.specs.Prelude.{ℕ, Bool, true, false, List, [], ◌∷◌, map}
use Rattle.sets.specs.Quantifiers.{pick, some_in}
use Rattle.directive.specs.declared.Directive.{Directive}
use Rattle.directive.specs.declared.Request.{Request}
use Rattle.directive.specs.declared.Query.{Query}
use Rattle.directive.specs.Matching.{matches, request_at}
use Rattle.register.specs.Register.{Contents}
use Rattle.ledger_model.specs.Model.{Model}
use Rattle.directive.specs.Lowest.{lowest}
use Rattle.ledger_model.specs.Decision.{default_permits}

pub data Result : Type 0 where
  Permit : Result
  Deny : Result
  NotApplicable : Result

abbrev pub is_permit : Result → Bool
is_permit Permit = true
is_permit Deny = false
is_permit NotApplicable = false

abbrev pub is_deny : Result → Bool
is_deny Permit = false
is_deny Deny = true
is_deny NotApplicable = false

-- XACML 3.0, C.2 deny-overrides, where no result is Indeterminate: any Deny gives Deny; otherwise any Permit gives Permit;
-- otherwise NotApplicable.
unfoldable pub deny_overrides : List Result → Result
deny_overrides rs = pick (some_in is_deny rs) Deny (pick (some_in is_permit rs) Permit NotApplicable)

-- XACML 3.0, C.4 permit-overrides, likewise with the two exchanged
unfoldable pub permit_overrides : List Result → Result
permit_overrides rs = pick (some_in is_permit rs) Permit (pick (some_in is_deny rs) Deny NotApplicable)

-- "an active directive gives its effect where it matches and NotApplicable elsewhere"
abbrev pub result_of : Contents → Request → Directive → Result
result_of c q d = pick (matches c d q) (pick d.permit Permit Deny) NotApplicable

abbrev pub results : Model → Query → List Result
results m q = map (result_of m.register (request_at q m.clock)) m.active

-- what the directives that match say: nothing, or their effect
abbrev pub directives_say : List Directive → Result
directives_say [] = NotApplicable
directives_say (d ∷ ds) = pick (lowest d ds).permit Permit Deny

-- the effect and the basis that a combined result leads to: "a combined NotApplicable leads to basis 4"
pub record Effect : Type 0 where
  pub permit : Bool
  pub basis : ℕ

abbrev pub effect_of : Model → Query → Result → Effect
effect_of m q Permit = record { permit = true; basis = 3 }
effect_of m q Deny = record { permit = false; basis = 3 }
effect_of m q NotApplicable = record { permit = default_permits m.register q; basis = 4 }
