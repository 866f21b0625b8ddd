-- The search is exact: it finds a conflict, a broken baseline and a redundant directive exactly where one is meant.
use Prim.Native.Nat.{ℕ, ◌<◌}
use mathlib.Core.Path.{◌≡◌}
use mathlib.Core.Bool.{Bool}
use mathlib.Core.List.{List}
use lib.ListN.{length}
use Rattle.sets.proofs.Quantifiers.{same_test}
use Rattle.register.specs.Register.{Contents}
use Rattle.directive.specs.declared.Directive.{Directive}
use Rattle.validation_meaning.specs.Requests.{persons}
use Rattle.validation_meaning.specs.Meaning.{same_effect, conflict, breaks_baseline, included, redundant}
use Rattle.validation_meaning.specs.Search.{conflict_found, breaks_baseline_found, included_found, redundant_found, Fit}
use Rattle.validation_meaning.proofs.ConflictLaws.{conflict_read, conflict_make, found_read, found_make, found_common, common_found}
use Rattle.validation_meaning.proofs.BaselineLaws.{baseline_read, baseline_make, baseline_found_read, baseline_found_make}
use Rattle.validation_meaning.proofs.InclusionLaws.{included_read, included_make, included_found_read, included_found_make}

-- Two directives of opposite effect match a request in common exactly where they overlap in each dimension.
pub conflict_exact :
    (c : Contents) (clock : ℕ) → 0 < length c.roles → (d e : Directive) → Fit c d → Fit c e →
    conflict c clock d e ≡ conflict_found c clock d e
conflict_exact c clock a_role d e fit_d fit_e =
    same_test (conflict c clock d e) (conflict_found c clock d e)
    (λ t.
    let (opposite, h) = conflict_read c clock d e t in found_make c clock d e (common_found c clock d e opposite h))
    (λ t.
    let h = found_read c clock d e t in
    conflict_make c clock d e h.opposite (found_common c clock a_role d e fit_d fit_e h))

-- A deny matches a request that the baseline allows exactly where one is found on the records that it selects.
pub baseline_exact :
    (c : Contents) (patient clock : ℕ) → 0 < length c.roles → (d : Directive) → Fit c d →
    breaks_baseline c patient clock d ≡ breaks_baseline_found c patient clock d
baseline_exact c patient clock a_role d fit =
    same_test (breaks_baseline c patient clock d) (breaks_baseline_found c patient clock d)
    (λ t. baseline_found_make c patient clock d (baseline_read c patient clock d t))
    (λ t. baseline_make c patient clock d (baseline_found_read c patient clock d a_role fit t))

-- Every request that a directive matches is matched by the list exactly where one person's are at the boundary minutes.
pub included_exact :
    (c : Contents) (clock : ℕ) (ok : Directive → Bool) (d : Directive) (es : List Directive) → Fit c d → length es < persons →
    included c clock ok d es ≡ included_found c clock ok d es
included_exact c clock ok d es fit few =
    same_test (included c clock ok d es) (included_found c clock ok d es)
    (λ t. included_found_make c clock ok d es fit few (included_read c clock ok d es t))
    (λ t. included_make c clock ok d es (included_found_read c clock ok d es t))

pub redundant_exact :
    (c : Contents) (clock : ℕ) (d : Directive) (es : List Directive) → Fit c d → length es < persons →
    redundant c clock d es ≡ redundant_found c clock d es
redundant_exact c clock d es = included_exact c clock (same_effect d) d es
