-- How a conflict, a broken baseline and a redundant directive are found, without going through all persons and all minutes. No
-- promise of a call rests on these definitions: proofs/Exact.antt has that they agree with what is meant.
use Rattle.std.specs.Prelude.{ℕ, ◌<◌, ◌≤◌, max, min, Bool, true, false, ◌&&◌, not, List, ◌∷◌, map, length, nat_eq, nat_lt}
use Rattle.sets.specs.Quantifiers.{implies, some_below, all_of, some_of, all_in, some_in}
use Rattle.sets.specs.Bits.{bit}
use Rattle.register.specs.Register.{Contents}
use Rattle.register.specs.Roles.{covers}
use Rattle.directive.specs.declared.Subject.{Subject}
use Rattle.directive.specs.declared.Subject.TheVariants.{Person, Role}
use Rattle.directive.specs.declared.Directive.{Directive}
use Rattle.directive.specs.Selection.{selects}
use Rattle.directive.specs.Matching.{in_minutes, applies_to}
use Rattle.validation_meaning.specs.Requests.{persons, origins, purposes, minutes}
use Rattle.validation_meaning.specs.Meaning.{same_effect, has_baseline}

-- A directive's tests, one a dimension.
abbrev pub from_origin : Directive → ℕ → Bool
from_origin d o = bit o d.subject_origins

abbrev pub for_purpose : Directive → ℕ → Bool
for_purpose d u = bit u d.purposes

-- the first minute from the clock on at which d can match
abbrev pub start : ℕ → Directive → ℕ
start clock d = max d.from clock

-- some person in some role is covered by both subjects
abbrev pub subjects_meet : List ℕ → Subject → Subject → Bool
subjects_meet roles (Person n) (Person k) = nat_eq n k
subjects_meet roles (Person n) (Role k) = true
subjects_meet roles (Role n) (Person k) = true
subjects_meet roles (Role n) (Role k) = some_of (length roles) (covers roles n) (covers roles k)

-- the two overlap in each dimension
unfoldable pub overlap : Contents → ℕ → Directive → Directive → Bool
overlap c clock d e =
    subjects_meet c.roles d.subject e.subject
    && some_of origins (from_origin d) (from_origin e)
    && some_of (length c.records) (selects c.records d) (selects c.records e)
    && some_of purposes (for_purpose d) (for_purpose e)
    && nat_lt (max (start clock d) (start clock e)) (min d.until e.until)

unfoldable pub conflict_found : Contents → ℕ → Directive → Directive → Bool
conflict_found c clock d e = not (same_effect d e) && overlap c clock d e

-- a deny that names n matches some request on a record of which n has the baseline
abbrev pub breaks_for_found : Contents → ℕ → ℕ → Directive → Subject → Bool
breaks_for_found c patient clock d (Person n) =
    some_of (length c.records) (selects c.records d) (has_baseline c patient n)
    && some_below origins (from_origin d)
    && some_below purposes (for_purpose d)
    && nat_lt (start clock d) d.until
breaks_for_found c patient clock d (Role n) = false

unfoldable pub breaks_baseline_found : Contents → ℕ → ℕ → Directive → Bool
breaks_baseline_found c patient clock d = not d.permit && breaks_for_found c patient clock d d.subject

-- One person stands for all that a draft's subject s covers: the person whom s names, or one whom no active directive
-- names. `stands_for roles s t r`: t covers that person in role r.
abbrev pub stands_for : List ℕ → Subject → Subject → ℕ → Bool
stands_for roles (Person n) (Person k) r = nat_eq k n
stands_for roles (Person n) (Role k) r = covers roles k r
stands_for roles (Role n) (Person k) r = false
stands_for roles (Role n) (Role k) r = covers roles k r

-- e passes `ok`, and matches that person's request
abbrev pub meets : Contents → (Directive → Bool) → Directive → ℕ → ℕ → ℕ → ℕ → Directive → ℕ → Bool
meets c ok d x o u r e m = ok e && stands_for c.roles d.subject e.subject r && applies_to c e x o u m

-- one of the list does so
abbrev pub covered_at : Contents → (Directive → Bool) → Directive → List Directive → ℕ → ℕ → ℕ → ℕ → ℕ → Bool
covered_at c ok d es x o u r m = some_in (λ e. meets c ok d x o u r e m) es

-- the minutes looked at: the first at which the draft can match, and those at which a directive of the list ends
abbrev pub boundaries : ℕ → Directive → List Directive → List ℕ
boundaries clock d es = start clock d ∷ map (λ e. e.until) es

unfoldable pub included_found : Contents → ℕ → (Directive → Bool) → Directive → List Directive → Bool
included_found c clock ok d es =
    all_of (length c.records) (selects c.records d) λ x.
    all_of origins (from_origin d) λ o.
    all_of purposes (for_purpose d) λ u.
    all_of (length c.roles) (stands_for c.roles d.subject d.subject) λ r.
    all_in (λ m. implies (in_minutes (start clock d) d.until m) (covered_at c ok d es x o u r m)) (boundaries clock d es)

abbrev pub redundant_found : Contents → ℕ → Directive → List Directive → Bool
redundant_found c clock d es = included_found c clock (same_effect d) d es

-- what the search asks of a directive: a person or role that there is, and an end that is a minute, or one past the last
abbrev pub SubjectIn : Contents → Subject → Type 0
SubjectIn c (Person n) = n < persons
SubjectIn c (Role n) = n < length c.roles

pub record Fit (c : Contents) (d : Directive) : Type 0 where
  pub subject_in : SubjectIn c d.subject
  pub until_in : d.until ≤ minutes
