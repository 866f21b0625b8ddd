-- The decision on a request, with its four bases.
use Rattle.std.specs.Prelude.{ℕ, Bool, true, ◌&&◌, List, [], ◌∷◌, nat_eq}
use Rattle.sets.specs.Quantifiers.{pick, one_if, keep}
use Rattle.sets.specs.Bits.{bit}
use Rattle.register.specs.Register.{Contents}
use Rattle.register.specs.Records.{record_at}
use Rattle.directive.specs.declared.Directive.{Directive}
use Rattle.directive.specs.declared.Query.{Query}
use Rattle.directive.specs.Matching.{matches, request_at}
use Rattle.directive.specs.Lowest.{lowest, lowest_number}
use Rattle.ledger_model.specs.Model.{Model}

-- An effect, a basis 1..4, and the number that basis 3 names.
pub record Decision : Type 0 where
  pub permit : Bool
  pub basis : ℕ
  pub named : List ℕ

abbrev pub decision_values : Decision → List ℕ
decision_values a = one_if a.permit ∷ a.basis ∷ a.named

-- the directives that match the request at hand
abbrev pub matching : Model → Query → List Directive
matching m q = keep (λ d. matches m.register d (request_at q m.clock)) m.active

abbrev pub is_patient : Model → Query → Bool
is_patient m q = nat_eq q.requester.person m.patient

abbrev pub is_author : Model → Query → Bool
is_author m q = nat_eq q.requester.person (record_at m.register.records q.«record»).author

-- "basis 4, the default consent: permit if the requester's origin is among the record's origins and the purpose is 0,
-- otherwise deny"
abbrev pub default_permits : Contents → Query → Bool
default_permits c q = bit q.requester.origin (record_at c.records q.«record»).origins && nat_eq q.requester.purpose 0

abbrev pub by_default : Model → Query → Decision
by_default m q = record { permit = default_permits m.register q; basis = 4; named = [] }

-- "a matching active directive, its effect, basis 3 with the lowest such number"; without one, the default
abbrev pub by_directives : List Directive → Decision → Decision
by_directives [] default = default
by_directives (d ∷ ds) default = record { permit = (lowest d ds).permit; basis = 3; named = lowest_number (d ∷ ds) }

-- "the patient, permit, basis 1; else the record's author, permit, basis 2; else a matching active directive ..; else
-- basis 4". The clock is the request's minute.
unfoldable pub decision : Model → Query → Decision
decision m q =
    pick (is_patient m q) (record { permit = true; basis = 1; named = [] })
    (pick (is_author m q) (record { permit = true; basis = 2; named = [] })
    (by_directives (matching m q) (by_default m q)))
