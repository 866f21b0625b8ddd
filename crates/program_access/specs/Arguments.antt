-- What the arguments of `access` say, and how the program ends.
use Rattle.std.specs.Prelude.{ℕ, ◌≤◌, Bool, true, false, Option, Some, None, IfSome}
use Rattle.directive.specs.declared.Requester.{Requester}
use Rattle.streams.specs.declared.Status.{Status}
use Rattle.streams.specs.declared.Status.TheVariants.{Success, Refused}
use Rattle.program_access.specs.declared.Inquiry.{Inquiry}

-- person, role, origin and purpose; one that is no number makes all unusable
abbrev pub requester_of : Option ℕ → Option ℕ → Option ℕ → Option ℕ → Option Requester
requester_of (Some p) (Some r) (Some o) (Some u) = Some (record { person = p; role = r; origin = o; purpose = u })
requester_of _ _ _ _ = None

-- the same with a draft of so many bytes; a draft that is no bytes makes all unusable
abbrev pub with_draft : Requester → Option ℕ → Option Inquiry
with_draft w None = None
with_draft w (Some n) = Some (record { requester = w; draft_size = Some n })

-- the draft has at most so many bytes
abbrev pub DraftAtMost : ℕ → Inquiry → Type 0
DraftAtMost most a = IfSome a.draft_size (λ n. n ≤ most)

-- a table is a success
abbrev pub status_for : Bool → Status
status_for true = Success
status_for false = Refused
