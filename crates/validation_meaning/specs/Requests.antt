-- "Some request", "every request" and "no request" range over this register, all persons, and minutes from the clock on.
use Rattle.std.specs.Prelude.{ℕ, ◌^◌, ◌<◌, ◌≤◌, Bool, List, length, nat_le}
use Rattle.sets.specs.Quantifiers.{all_below, some_below, all_of, some_of}
use Rattle.register.specs.declared.Record.{Record}
use Rattle.register.specs.Register.{Contents}
use Rattle.directive.specs.declared.Request.{Request}

-- "All 65,536 person numbers are valid"; "one origin 0..15"; "one purpose 0..10"; "A minute is a 32-bit unsigned number"
abbrev pub persons : ℕ
persons = 65536

abbrev pub origins : ℕ
origins = 16

abbrev pub purposes : ℕ
purposes = 11

abbrev pub minutes : ℕ
minutes = 2 ^ 32

-- the request of these six, in the order of the quantifiers
abbrev pub request : ℕ → ℕ → ℕ → ℕ → ℕ → ℕ → Request
request p r o x u m =
    record {
      query =
          record {
            requester = record { person = p; role = r; origin = o; purpose = u };
            «record» = x;
          };
      minute = m;
    }

-- every request over the register c from the minute `clock` on
unfoldable pub every_request : Contents → ℕ → (Request → Bool) → Bool
every_request c clock f =
    all_below persons λ p.
    all_below (length c.roles) λ r.
    all_below origins λ o.
    all_below (length c.records) λ x.
    all_below purposes λ u.
    all_of minutes (nat_le clock) λ m. f (request p r o x u m)

-- some request over the register c from the minute `clock` on
unfoldable pub some_request : Contents → ℕ → (Request → Bool) → Bool
some_request c clock f =
    some_below persons λ p.
    some_below (length c.roles) λ r.
    some_below origins λ o.
    some_below (length c.records) λ x.
    some_below purposes λ u.
    some_of minutes (nat_le clock) λ m. f (request p r o x u m)

-- a record that a request can be for
abbrev pub Asked : List Record → ℕ → Type 0
Asked rs x = x < length rs

-- the requests that `every_request` and `some_request` range over
pub record InRange (c : Contents) (clock : ℕ) (q : Request) : Type 0 where
  pub person_in : q.query.requester.person < persons
  pub role_in : q.query.requester.role < length c.roles
  pub origin_in : q.query.requester.origin < origins
  pub record_in : Asked c.records q.query.«record»
  pub purpose_in : q.query.requester.purpose < purposes
  pub minute_in : q.minute < minutes
  pub not_past : clock ≤ q.minute
