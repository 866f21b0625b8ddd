-- What a match says, one dimension at a time.
use Prim.Native.Nat.{ℕ, ◌<◌, ◌≤◌}
use mathlib.Core.Path.{◌≡◌, sym}
use mathlib.Core.Bool.{true, false}
use native.Mathlib.Omega.{arith}
use borrow.Author.Tests.{eqb-true, leb-true, le-leb, ltb-true, lt-ltb}
use lib.Dec.{leb}
use Rattle.sets.specs.Bits.{bit}
use Rattle.sets.proofs.Quantifiers.{never_true, and_both}
use Rattle.register.specs.Register.{Contents}
use Rattle.directive.specs.declared.Subject.TheVariants.{Person}
use Rattle.directive.specs.declared.Directive.{Directive}
use Rattle.directive.specs.declared.Request.{Request}
use Rattle.directive.specs.Selection.{selects}
use Rattle.directive.specs.Matching.{subject_covers, in_minutes, applies_to, matches}

module _ (from until m : ℕ) where
  pub in_minutes_read : in_minutes from until m ≡ true → (from ≤ m) × (m < until)
  in_minutes_read e = let (h, k) = and_both (leb from m) _ e in (leb-true from m h, ltb-true m until k)

  pub in_minutes_make : from ≤ m → m < until → in_minutes from until m ≡ true
  in_minutes_make h k = rw (le-leb from m h, lt-ltb m until k)

-- what applying to a record, an origin, a purpose and a minute says
pub record Applies (c : Contents) (d : Directive) (x o u m : ℕ) : Type 0 where
  pub origin : bit o d.subject_origins ≡ true
  pub purpose : bit u d.purposes ≡ true
  pub selected : selects c.records d x ≡ true
  pub begun : d.from ≤ m
  pub not_over : m < d.until

module _ (c : Contents) (d : Directive) (x o u m : ℕ) where
  pub applies_read : applies_to c d x o u m ≡ true → Applies c d x o u m
  unfolding applies_to
  applies_read e =
      let (to_selected, span) = and_both _ (in_minutes d.from d.until m) e in
      let (to_purpose, selected) = and_both _ (selects c.records d x) to_selected in
      let (origin, purpose) = and_both _ (bit u d.purposes) to_purpose in
      let (begun, not_over) = in_minutes_read d.from d.until m span in
      record {
        origin = origin;
        purpose = purpose;
        selected = selected;
        begun = begun;
        not_over = not_over;
      }

  pub applies_make : Applies c d x o u m → applies_to c d x o u m ≡ true
  unfolding applies_to
  applies_make a =
      rw (a.origin, a.purpose, a.selected) (in_minutes_make d.from d.until m a.begun a.not_over)

pub record Matches (c : Contents) (d : Directive) (q : Request) : Type 0 where
  pub subject : subject_covers c.roles d.subject q.query.requester.person q.query.requester.role ≡ true
  pub origin : bit q.query.requester.origin d.subject_origins ≡ true
  pub purpose : bit q.query.requester.purpose d.purposes ≡ true
  pub selected : selects c.records d q.query.«record» ≡ true
  pub begun : d.from ≤ q.minute
  pub not_over : q.minute < d.until

module _ (c : Contents) (d : Directive) (q : Request) where
  pub matches_read : matches c d q ≡ true → Matches c d q
  unfolding matches
  matches_read e =
      let (subject, rest) = and_both (subject_covers c.roles d.subject q.query.requester.person q.query.requester.role) _ e in
      let a = applies_read c d q.query.«record» q.query.requester.origin q.query.requester.purpose q.minute rest in
      record {
        subject = subject;
        origin = a.origin;
        purpose = a.purpose;
        selected = a.selected;
        begun = a.begun;
        not_over = a.not_over;
      }

  pub matches_make : Matches c d q → matches c d q ≡ true
  unfolding matches
  matches_make h =
      rw h.subject
      (applies_make c d q.query.«record» q.query.requester.origin q.query.requester.purpose q.minute
      (record {
        origin = h.origin;
        purpose = h.purpose;
        selected = h.selected;
        begun = h.begun;
        not_over = h.not_over;
      }))

  -- a directive that names a person matches that person's requests alone
  pub matches_named : (n : ℕ) → d.subject ≡ Person n → matches c d q ≡ true → q.query.requester.person ≡ n
  matches_named n e t = sym (eqb-true n q.query.requester.person (rw e at (matches_read t).subject))

  -- minutes that meet at `until` are not shared
  pub not_at_until : q.minute ≡ d.until → matches c d q ≡ false
  not_at_until e = never_true (matches c d q) (λ t. omega (arith, (matches_read t).not_over))
