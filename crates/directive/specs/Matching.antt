-- When a directive matches a request.
use Rattle.std.specs.Prelude.{ℕ, Bool, true, false, ◌&&◌, List, nat_eq, nat_le, nat_lt}
use Rattle.sets.specs.Bits.{bit}
use Rattle.register.specs.Register.{Contents}
use Rattle.register.specs.Roles.{covers}
use Rattle.directive.specs.declared.Subject.{Subject}
use Rattle.directive.specs.declared.Subject.TheVariants.{Person, Role}
use Rattle.directive.specs.declared.Directive.{Directive}
use Rattle.directive.specs.declared.Request.{Request}
use Rattle.directive.specs.declared.Query.{Query}
use Rattle.directive.specs.declared.Requester.{Requester}
use Rattle.directive.specs.Selection.{selects}

-- the role or the person of that number
abbrev pub subject_named : Bool → ℕ → Subject
subject_named true n = Role n
subject_named false n = Person n

abbrev pub is_role : Subject → Bool
is_role (Person n) = false
is_role (Role n) = true

-- the person or the role that a subject names
abbrev pub number_of : Subject → ℕ
number_of (Person n) = n
number_of (Role n) = n

-- "The subject is either one person or one role with all roles that it covers": it covers person p in role r.
abbrev pub subject_covers : List ℕ → Subject → ℕ → ℕ → Bool
subject_covers roles (Person n) p r = nat_eq n p
subject_covers roles (Role n) p r = covers roles n r

-- from <= minute < until
abbrev pub in_minutes : ℕ → ℕ → ℕ → Bool
in_minutes from until m = nat_le from m && nat_lt m until

-- all but the subject, for record x, origin o, purpose u and minute m: "subject origins and purposes cover it, the record is
-- selected, and from <= minute < until"
unfoldable pub applies_to : Contents → Directive → ℕ → ℕ → ℕ → ℕ → Bool
applies_to c d x o u m =
    bit o d.subject_origins
    && bit u d.purposes
    && selects c.records d x
    && in_minutes d.from d.until m

-- "A directive matches it when subject, subject origins and purposes cover it, the record is selected, and
-- from <= minute < until."
unfoldable pub matches : Contents → Directive → Request → Bool
matches c d q =
    subject_covers c.roles d.subject q.query.requester.person q.query.requester.role
    && applies_to c d q.query.«record» q.query.requester.origin q.query.requester.purpose q.minute

-- the request that a query is at a minute
abbrev pub request_at : Query → ℕ → Request
request_at q m = record { query = q; minute = m }

-- the query of a requester (document 02, #101: person, role, origin, purpose) for record x
abbrev pub query_on : Requester → ℕ → Query
query_on w x = record { requester = w; «record» = x }
