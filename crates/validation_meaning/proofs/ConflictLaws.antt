-- Two directives match a request in common exactly where they overlap in each dimension.
use Prim.Native.Nat.{ℕ, ◌<◌, ◌≤◌, max, min}
use mathlib.Core.Path.{◌≡◌, refl, ◌∙◌}
use mathlib.Core.Bool.{Bool, true, false, not, beq}
use native.Mathlib.Omega.{arith}
use borrow.Author.Tests.{not-true, eqb-true, eq-eqb, ltb-true, lt-ltb}
use lib.ListN.{length}
use lib.Dec.{ltb}
use Rattle.sets.specs.Quantifiers.{some_of}
use Rattle.sets.proofs.Quantifiers.{same_test, and_both, some_of_lem}
use Rattle.register.specs.Register.{Contents}
use Rattle.register.specs.Roles.{covers}
use Rattle.register.proofs.TreeLaws.{covers_self}
use Rattle.directive.specs.declared.Subject.{Subject}
use Rattle.directive.specs.declared.Subject.TheVariants.{Person, Role}
use Rattle.directive.specs.declared.Directive.{Directive}
use Rattle.directive.specs.declared.Request.{Request}
use Rattle.directive.specs.Selection.{selects}
use Rattle.directive.specs.Matching.{subject_covers, matches}
use Rattle.directive.proofs.MatchLaws.{matches_read, matches_make}
use Rattle.validation_meaning.specs.Requests.{persons, origins, purposes, request, InRange}
use Rattle.validation_meaning.specs.Meaning.{same_effect, conflict}
use Rattle.validation_meaning.specs.Search.{from_origin, for_purpose, start, subjects_meet, overlap, conflict_found, SubjectIn, Fit}
use Rattle.validation_meaning.proofs.Requests.{asked_selected, asked_below, in_range_of, in_range_earlier, some_request_lem}

-- a request that both match
pub record Common (c : Contents) (clock : ℕ) (d e : Directive) : Type 0 where
  pub common : Request
  pub in_range : InRange c clock common
  pub by_first : matches c d common ≡ true
  pub by_second : matches c e common ≡ true

-- what the search finds, one dimension at a time
pub record Found (c : Contents) (clock : ℕ) (d e : Directive) : Type 0 where
  pub opposite : same_effect d e ≡ false
  pub subject : subjects_meet c.roles d.subject e.subject ≡ true
  pub origin : some_of origins (from_origin d) (from_origin e) ≡ true
  pub selected : some_of (length c.records) (selects c.records d) (selects c.records e) ≡ true
  pub purpose : some_of purposes (for_purpose d) (for_purpose e) ≡ true
  pub span : max (start clock d) (start clock e) < min d.until e.until

module _ (c : Contents) (clock : ℕ) (d e : Directive) where
  pub found_read : conflict_found c clock d e ≡ true → Found c clock d e
  unfolding conflict_found overlap
  found_read t =
      let (opposite, found) = and_both (not (same_effect d e)) _ t in
      let m = max (start clock d) (start clock e) in
      let (to_purpose, span) = and_both _ (ltb m (min d.until e.until)) found in
      let (to_record, purpose) = and_both _ (some_of purposes (for_purpose d) (for_purpose e)) to_purpose in
      let (to_origin, selected) =
      and_both _ (some_of (length c.records) (selects c.records d) (selects c.records e)) to_record
      in
      let (subject, origin) = and_both _ (some_of origins (from_origin d) (from_origin e)) to_origin in
      record {
        opposite = not-true (same_effect d e) opposite;
        subject = subject;
        origin = origin;
        selected = selected;
        purpose = purpose;
        span = ltb-true m (min d.until e.until) span;
      }

  pub found_make : Found c clock d e → conflict_found c clock d e ≡ true
  unfolding conflict_found overlap
  found_make h =
      rw (h.opposite, h.subject, h.origin, h.selected, h.purpose)
      (lt-ltb (max (start clock d) (start clock e)) (min d.until e.until) h.span)

module _ (c : Contents) (clock : ℕ) (d e : Directive) where
  pub conflict_read : conflict c clock d e ≡ true → (same_effect d e ≡ false) × Common c clock d e
  unfolding conflict
  conflict_read t =
      let (opposite, shared) = and_both (not (same_effect d e)) _ t in
      let (q, h, both) = (some_request_lem c clock).read _ shared in
      let (a, b) = and_both (matches c d q) _ both in
      (not-true (same_effect d e) opposite, record { common = q; in_range = h; by_first = a; by_second = b })

  pub conflict_make : same_effect d e ≡ false → Common c clock d e → conflict c clock d e ≡ true
  unfolding conflict
  conflict_make opposite h =
      rw opposite ((some_request_lem c clock).make _ h.common h.in_range (rw (h.by_first, h.by_second)))

beq_sym : (a b : Bool) → beq a b ≡ beq b a
beq_sym true true = refl
beq_sym true false = refl
beq_sym false true = refl
beq_sym false false = refl

pub same_effect_sym : (d e : Directive) → same_effect d e ≡ same_effect e d
same_effect_sym d e = beq_sym d.permit e.permit

module _ (c : Contents) (clock : ℕ) where
  conflict_back : (d e : Directive) → conflict c clock d e ≡ true → conflict c clock e d ≡ true
  conflict_back d e t =
      let (opposite, h) = conflict_read c clock d e t in
      conflict_make c clock e d (same_effect_sym e d ∙ opposite)
      (record {
        common = h.common;
        in_range = h.in_range;
        by_first = h.by_second;
        by_second = h.by_first;
      })

  pub conflict_sym : (d e : Directive) → conflict c clock d e ≡ conflict c clock e d
  conflict_sym d e =
      same_test (conflict c clock d e) (conflict c clock e d) (conflict_back d e) (conflict_back e d)

  -- a conflict from a later minute on is one from an earlier on
  pub conflict_later :
      (later : ℕ) (d e : Directive) → clock ≤ later → conflict c later d e ≡ true → conflict c clock d e ≡ true
  conflict_later later d e before t =
      let (opposite, h) = conflict_read c later d e t in
      conflict_make c clock d e opposite
      (record {
        common = h.common;
        in_range = in_range_earlier c clock later h.common before h.in_range;
        by_first = h.by_first;
        by_second = h.by_second;
      })

  module _ (a_role : 0 < length c.roles) where
    meeting :
        (s t : Subject) → SubjectIn c s → SubjectIn c t → subjects_meet c.roles s t ≡ true →
        (p : ℕ) × (r : ℕ) × (p < persons) × (r < length c.roles)
        × (subject_covers c.roles s p r ≡ true) × (subject_covers c.roles t p r ≡ true)
    meeting (Person n) (Person k) h i e = (k, 0, i, a_role, e, eq-eqb k k refl)
    meeting (Person n) (Role k) h i e = (n, k, h, i, eq-eqb n n refl, covers_self c.roles k)
    meeting (Role n) (Person k) h i e = (k, n, i, h, covers_self c.roles n, eq-eqb k k refl)
    meeting (Role n) (Role k) h i e =
        let (r, h, b) = (some_of_lem _ _).read _ e in (0, r, omega arith, h.0, h.1, b)

    -- what is found is a request in common, at the first minute of both
    pub found_common : (d e : Directive) → Fit c d → Fit c e → Found c clock d e → Common c clock d e
    found_common d e fit_d fit_e found =
        let m = max (start clock d) (start clock e) in
        let (p, r, hp, hr, s, t) =
        meeting d.subject e.subject fit_d.subject_in fit_e.subject_in found.subject
        in
        let (o, ho, o_e) = (some_of_lem _ _).read _ found.origin in
        let (x, hx, x_e) = (some_of_lem _ _).read _ found.selected in
        let (u, hu, u_e) = (some_of_lem _ _).read _ found.purpose in
        let left = found.span in
        let q = request p r o x u m in
        record {
          common = q;
          in_range = in_range_of c clock q hp hr ho.0 (asked_selected c.records d x hx.1) hu.0
              (omega (arith, fit_d.until_in)) (omega arith);
          by_first = matches_make c d q
              (record {
                subject = s;
                origin = ho.1;
                purpose = hu.1;
                selected = hx.1;
                begun = omega arith;
                not_over = omega arith;
              });
          by_second = matches_make c e q
              (record {
                subject = t;
                origin = o_e;
                purpose = u_e;
                selected = x_e;
                begun = omega arith;
                not_over = omega arith;
              });
        }

  subjects_meet_lem :
      (s t : Subject) (p r : ℕ) → r < length c.roles →
      subject_covers c.roles s p r ≡ true → subject_covers c.roles t p r ≡ true → subjects_meet c.roles s t ≡ true
  subjects_meet_lem (Person n) (Person k) p r h a b =
      let i = eqb-true n p a in let j = eqb-true k p b in eq-eqb n k (omega arith)
  subjects_meet_lem (Person n) (Role k) p r h a b = refl
  subjects_meet_lem (Role n) (Person k) p r h a b = refl
  subjects_meet_lem (Role n) (Role k) p r h a b =
      (some_of_lem (length c.roles) (covers c.roles n)).make (covers c.roles k) r (h, a) b

  -- what two directives of opposite effect have in common is found
  pub common_found : (d e : Directive) → same_effect d e ≡ false → Common c clock d e → Found c clock d e
  common_found d e opposite h =
      let q = h.common in
      let i = h.in_range in
      let a = matches_read c d q h.by_first in
      let b = matches_read c e q h.by_second in
      record {
        opposite = opposite;
        subject = subjects_meet_lem d.subject e.subject q.query.requester.person q.query.requester.role i.role_in a.subject b.subject;
        origin = (some_of_lem _ _).make _ q.query.requester.origin (i.origin_in, a.origin) b.origin;
        selected = (some_of_lem _ _).make _ q.query.«record» (asked_below c.records i.record_in, a.selected) b.selected;
        purpose = (some_of_lem _ _).make _ q.query.requester.purpose (i.purpose_in, a.purpose) b.purpose;
        span = omega arith;
      }
