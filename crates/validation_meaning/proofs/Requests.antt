-- The requests in range, and that "every request" and "some request" range over them.
use Prim.Native.Nat.{ℕ, ◌<◌, ◌≤◌}
use mathlib.Core.Path.{◌≡◌}
use mathlib.Core.Bool.{Bool, true}
use mathlib.Core.List.{List}
use native.Mathlib.Omega.{arith}
use borrow.Author.Tests.{leb-true, le-leb, ltb-true}
use lib.ListN.{length}
use lib.Dec.{leb}
use Rattle.sets.specs.Quantifiers.{all_below, some_below}
use Rattle.sets.proofs.Quantifiers.{Every, Some, and_left, every_below, some_below_lem, every_of, some_of_lem}
use Rattle.register.specs.declared.Record.{Record}
use Rattle.register.specs.Register.{Contents}
use Rattle.register.specs.Records.{has_record}
use Rattle.directive.specs.declared.Directive.{Directive}
use Rattle.directive.specs.declared.Request.{Request}
use Rattle.directive.specs.Selection.{selects}
use Rattle.validation_meaning.specs.Requests.{persons, origins, purposes, minutes, request, every_request, some_request, Asked, InRange}

-- The records that a request can be for: those that the register has, with each that a directive selects. What other proofs know
-- of `Asked` is here.
module _ (rs : List Record) where
  pub asked_there : (x : ℕ) → has_record rs x ≡ true → Asked rs x
  asked_there x e = ltb-true x (length rs) e

  pub asked_selected : (d : Directive) (x : ℕ) → selects rs d x ≡ true → Asked rs x
  unfolding selects
  asked_selected d x e = asked_there x (and_left _ _ (and_left _ _ e))

  pub asked_below : {x : ℕ} → Asked rs x → x < length rs
  asked_below h = h

  every_asked : Every ℕ (Asked rs) (all_below (length rs))
  every_asked = every_below (length rs)

  some_asked : Some ℕ (Asked rs) (some_below (length rs))
  some_asked = some_below_lem (length rs)

module _ (c : Contents) (clock : ℕ) where
  -- every place that shows a request to be in range does so by this law
  pub in_range_of :
      (q : Request) → q.query.requester.person < persons → q.query.requester.role < length c.roles → q.query.requester.origin < origins →
      Asked c.records q.query.«record» → q.query.requester.purpose < purposes → q.minute < minutes → clock ≤ q.minute → InRange c clock q
  in_range_of q person role origin asked purpose minute now =
      record {
        person_in = person;
        role_in = role;
        origin_in = origin;
        record_in = asked;
        purpose_in = purpose;
        minute_in = minute;
        not_past = now;
      }

  -- a request from a later minute on is one from an earlier on
  pub in_range_earlier : (later : ℕ) (q : Request) → clock ≤ later → InRange c later q → InRange c clock q
  in_range_earlier later q before h =
      in_range_of q h.person_in h.role_in h.origin_in h.record_in h.purpose_in h.minute_in (omega arith)

  every_request_read :
      (f : Request → Bool) → every_request c clock f ≡ true → (q : Request) → InRange c clock q → f q ≡ true
  unfolding every_request
  every_request_read f e q h =
      (every_of minutes (leb clock)).read _
      ((every_below purposes).read _
      ((every_asked c.records).read _
      ((every_below origins).read _
      ((every_below (length c.roles)).read _
      ((every_below persons).read _ e q.query.requester.person h.person_in)
      q.query.requester.role h.role_in)
      q.query.requester.origin h.origin_in)
      q.query.«record» h.record_in)
      q.query.requester.purpose h.purpose_in)
      q.minute (h.minute_in, le-leb _ _ h.not_past)

  every_request_make :
      (f : Request → Bool) → ((q : Request) → InRange c clock q → f q ≡ true) → every_request c clock f ≡ true
  unfolding every_request
  every_request_make f g =
      (every_below persons).make _ λ p hp.
      (every_below (length c.roles)).make _ λ r hr.
      (every_below origins).make _ λ o ho.
      (every_asked c.records).make _ λ x hx.
      (every_below purposes).make _ λ u hu.
      (every_of minutes (leb clock)).make _ λ m hm.
      let q = request p r o x u m in g q (in_range_of q hp hr ho hx hu hm.0 (leb-true clock m hm.1))

  some_request_read :
      (f : Request → Bool) → some_request c clock f ≡ true → (q : Request) × InRange c clock q × (f q ≡ true)
  unfolding some_request
  some_request_read f e =
      let (p, hp, e₁) = (some_below_lem persons).read _ e in
      let (r, hr, e₂) = (some_below_lem (length c.roles)).read _ e₁ in
      let (o, ho, e₃) = (some_below_lem origins).read _ e₂ in
      let (x, hx, e₄) = (some_asked c.records).read _ e₃ in
      let (u, hu, e₅) = (some_below_lem purposes).read _ e₄ in
      let (m, hm, e₆) = (some_of_lem minutes (leb clock)).read _ e₅ in
      let q = request p r o x u m in (q, in_range_of q hp hr ho hx hu hm.0 (leb-true clock m hm.1), e₆)

  some_request_make :
      (f : Request → Bool) (q : Request) → InRange c clock q → f q ≡ true → some_request c clock f ≡ true
  unfolding some_request
  some_request_make f q h e =
      (some_below_lem persons).make _ q.query.requester.person h.person_in
      ((some_below_lem (length c.roles)).make _ q.query.requester.role h.role_in
      ((some_below_lem origins).make _ q.query.requester.origin h.origin_in
      ((some_asked c.records).make _ q.query.«record» h.record_in
      ((some_below_lem purposes).make _ q.query.requester.purpose h.purpose_in
      ((some_of_lem minutes (leb clock)).make _ q.minute (h.minute_in, le-leb _ _ h.not_past) e)))))

  pub every_request_lem : Every Request (InRange c clock) (every_request c clock)
  every_request_lem = record { read = every_request_read; make = every_request_make }

  pub some_request_lem : Some Request (InRange c clock) (some_request c clock)
  some_request_lem = record { read = some_request_read; make = some_request_make }
