-- Conflict, baseline and redundancy, over all requests.
use Rattle.std.specs.Prelude.{ℕ, Bool, false, ◌&&◌, ◌||◌, not, List, nat_eq}
use Rattle.std.specs.Bool.{beq}
use Rattle.sets.specs.Quantifiers.{implies, some_in}
use Rattle.register.specs.Register.{Contents}
use Rattle.register.specs.Records.{record_at}
use Rattle.directive.specs.declared.Subject.{Subject}
use Rattle.directive.specs.declared.Subject.TheVariants.{Person, Role}
use Rattle.directive.specs.declared.Directive.{Directive}
use Rattle.directive.specs.declared.Request.{Request}
use Rattle.directive.specs.Matching.{matches}
use Rattle.validation_meaning.specs.Requests.{every_request, some_request}

abbrev pub same_effect : Directive → Directive → Bool
same_effect d e = beq d.permit e.permit

-- "A conflict is a request matched by two directives of opposite effect."
unfoldable pub conflict : Contents → ℕ → Directive → Directive → Bool
conflict c clock d e = not (same_effect d e) && some_request c clock (λ q. matches c d q && matches c e q)

-- the person n is the record's author, or the patient
abbrev pub has_baseline : Contents → ℕ → ℕ → ℕ → Bool
has_baseline c patient n x = nat_eq (record_at c.records x).author n || nat_eq patient n

-- "A deny that names a person breaks the baseline when it matches some request of that person on a record they authored, or
-- any request if that person is the patient. A deny on a role breaks nothing, as the baseline is decided first."
abbrev pub breaks_for : Contents → ℕ → ℕ → Directive → Subject → Bool
breaks_for c patient clock d (Person n) =
    some_request c clock (λ q. matches c d q && nat_eq q.query.requester.person n && has_baseline c patient n q.query.«record»)
breaks_for c patient clock d (Role n) = false

unfoldable pub breaks_baseline : Contents → ℕ → ℕ → Directive → Bool
breaks_baseline c patient clock d = not d.permit && breaks_for c patient clock d d.subject

-- one of the list that passes `ok` matches the request
abbrev pub covered : Contents → (Directive → Bool) → List Directive → Request → Bool
covered c ok es q = some_in (λ e. ok e && matches c e q) es

-- every request that d matches is matched by one of the list that passes `ok`
unfoldable pub included : Contents → ℕ → (Directive → Bool) → Directive → List Directive → Bool
included c clock ok d es = every_request c clock (λ q. implies (matches c d q) (covered c ok es q))

-- document 01: superfluous. "A draft is superfluous when every request it matches is matched by an active directive of its
-- own effect, several together if need be; one that matches no request is superfluous too."
abbrev pub redundant : Contents → ℕ → Directive → List Directive → Bool
redundant c clock d es = included c clock (same_effect d) d es
