-- A deny breaks the baseline exactly where the search finds that it does.
use Prim.Native.Nat.{ℕ, ◌<◌, ◌≤◌}
use mathlib.Core.Path.{◌≡◌, refl, sym, ap, ap₂, ◌∙◌}
use mathlib.Core.Bool.{Bool, true, false, ◌&&◌, not, and-false}
use mathlib.Core.Logic.{◌⊎◌, inl, inr, ⊎_elim}
use native.Mathlib.Omega.{arith}
use borrow.Author.Tests.{not-true, eqb-true, eq-eqb, ltb-true, lt-ltb}
use lib.ListN.{length}
use lib.Dec.{eqb, ltb}
use Rattle.sets.specs.Quantifiers.{some_below, some_of}
use Rattle.sets.proofs.Quantifiers.{same_test, both_ways, and_both, or_cases, or_right, some_below_lem, some_of_lem}
use Rattle.register.specs.Register.{Contents}
use Rattle.register.specs.Records.{record_at}
use Rattle.directive.specs.declared.Subject.{Subject}
use Rattle.directive.specs.declared.Subject.TheVariants.{Person, Role}
use Rattle.directive.specs.declared.Directive.{Directive}
use Rattle.directive.specs.declared.Request.{Request}
use Rattle.directive.specs.Selection.{selects}
use Rattle.directive.specs.Matching.{matches}
use Rattle.directive.proofs.MatchLaws.{matches_read, matches_make, matches_named}
use Rattle.validation_meaning.specs.Requests.{origins, purposes, request, InRange}
use Rattle.validation_meaning.specs.Meaning.{has_baseline, breaks_for, breaks_baseline}
use Rattle.validation_meaning.specs.Search.{from_origin, for_purpose, start, breaks_for_found, breaks_baseline_found, Fit}
use Rattle.validation_meaning.proofs.Requests.{asked_selected, asked_below, in_range_of, in_range_earlier, some_request_lem}

-- a deny that names a person, and a request that it matches, on a record they authored or as the patient
pub record Broken (c : Contents) (patient clock : ℕ) (d : Directive) : Type 0 where
  pub deny : d.permit ≡ false
  pub person : ℕ
  pub named : d.subject ≡ Person person
  pub denied : Request
  pub in_range : InRange c clock denied
  pub matched : matches c d denied ≡ true
  pub baseline : ((record_at c.records denied.query.«record»).author ≡ person) ⊎ (patient ≡ person)

-- what the search finds of the person n whom a deny names, one dimension at a time
pub record FoundFor (c : Contents) (patient clock : ℕ) (d : Directive) (n : ℕ) : Type 0 where
  pub own : some_of (length c.records) (selects c.records d) (has_baseline c patient n) ≡ true
  pub origin : some_below origins (from_origin d) ≡ true
  pub purpose : some_below purposes (for_purpose d) ≡ true
  pub span : start clock d < d.until

module _ (c : Contents) (patient clock : ℕ) (d : Directive) (n : ℕ) where
  pub found_for_read : breaks_for_found c patient clock d (Person n) ≡ true → FoundFor c patient clock d n
  found_for_read t =
      let (to_purpose, span) = and_both _ (ltb (start clock d) d.until) t in
      let (to_origin, purpose) = and_both _ (some_below purposes (for_purpose d)) to_purpose in
      let (own, origin) = and_both _ (some_below origins (from_origin d)) to_origin in
      record {
        own = own;
        origin = origin;
        purpose = purpose;
        span = ltb-true (start clock d) d.until span;
      }

  pub found_for_make : FoundFor c patient clock d n → breaks_for_found c patient clock d (Person n) ≡ true
  found_for_make h = rw (h.own, h.origin, h.purpose) (lt-ltb (start clock d) d.until h.span)

  -- where the other dimensions pass, the records tell
  pub found_for_own :
      (b : Bool) → b ≡ some_of (length c.records) (selects c.records d) (has_baseline c patient n) →
      some_below origins (from_origin d) ≡ true → some_below purposes (for_purpose d) ≡ true → start clock d < d.until →
      b ≡ breaks_for_found c patient clock d (Person n)
  found_for_own b e origin purpose span =
      same_test b (breaks_for_found c patient clock d (Person n))
      (λ t. found_for_make (record { own = sym e ∙ t; origin = origin; purpose = purpose; span = span }))
      (λ t. e ∙ (found_for_read t).own)

module _ (c : Contents) (patient : ℕ) where
  has_baseline_make :
      (n x : ℕ) → ((record_at c.records x).author ≡ n) ⊎ (patient ≡ n) →
      has_baseline c patient n x ≡ true
  has_baseline_make n x e =
      ⊎_elim
      (λ t. rw (eq-eqb (record_at c.records x).author n t))
      (λ t. or_right (eqb (record_at c.records x).author n) _ (eq-eqb patient n t))
      e

  has_baseline_read :
      (n x : ℕ) → has_baseline c patient n x ≡ true →
      ((record_at c.records x).author ≡ n) ⊎ (patient ≡ n)
  has_baseline_read n x e =
      ⊎_elim
      (λ t. inl (eqb-true _ n t))
      (λ t. inr (eqb-true patient n t))
      (or_cases (eqb (record_at c.records x).author n) _ e)

  module _ (clock : ℕ) (d : Directive) where
    -- a test of a deny and its subject that no role passes
    named_deny :
        (f : Subject → Bool) → ((n : ℕ) → f (Role n) ≡ false) →
        ((n : ℕ) → d.permit ≡ false → d.subject ≡ Person n → f (Person n) ≡ true → Broken c patient clock d) →
        not d.permit && f d.subject ≡ true → Broken c patient clock d
    named_deny f role person t =
        let (deny, passes) = and_both (not d.permit) _ t in
        of (not-true d.permit deny) d.subject refl passes
      where
        of : d.permit ≡ false → (s : Subject) → d.subject ≡ s → f s ≡ true → Broken c patient clock d
        of deny (Person n) named e = person n deny named e
        of deny (Role n) named e = both_ways e (role n)

    pub baseline_read : breaks_baseline c patient clock d ≡ true → Broken c patient clock d
    unfolding breaks_baseline
    baseline_read =
        named_deny (breaks_for c patient clock d) (λ n. refl) λ n deny named t.
        let (q, h, both) = (some_request_lem c clock).read _ t in
        let (of_person, own) = and_both _ (has_baseline c patient n q.query.«record») both in
        record {
          deny = deny;
          person = n;
          named = named;
          denied = q;
          in_range = h;
          matched = (and_both _ (eqb q.query.requester.person n) of_person).0;
          baseline = has_baseline_read n q.query.«record» own;
        }

    pub baseline_make : Broken c patient clock d → breaks_baseline c patient clock d ≡ true
    unfolding breaks_baseline
    baseline_make h =
        let q = h.denied in
        ap₂ ◌&&◌ (ap not h.deny)
        (ap (breaks_for c patient clock d) h.named
        ∙ (some_request_lem c clock).make _ q h.in_range
        (rw (
          h.matched,
          eq-eqb q.query.requester.person h.person (matches_named c d q h.person h.named h.matched),
        )
        (has_baseline_make h.person q.query.«record» h.baseline)))

    -- "A deny on a role breaks nothing"
    pub baseline_role : (n : ℕ) → d.subject ≡ Role n → breaks_baseline c patient clock d ≡ false
    unfolding breaks_baseline
    baseline_role n e =
        ap (λ s. not d.permit && breaks_for c patient clock d s) e ∙ and-false (not d.permit)

    module _ (a_role : 0 < length c.roles) (fit : Fit c d) where
      -- what is found is such a request, at the first minute
      pub baseline_found_read : breaks_baseline_found c patient clock d ≡ true → Broken c patient clock d
      unfolding breaks_baseline_found
      baseline_found_read =
          named_deny (breaks_for_found c patient clock d) (λ n. refl) λ n deny named t.
          let found = found_for_read c patient clock d n t in
          let (x, hx, baseline) = (some_of_lem _ _).read _ found.own in
          let (o, ho, from_o) = (some_below_lem origins).read _ found.origin in
          let (u, hu, for_u) = (some_below_lem purposes).read _ found.purpose in
          let left = found.span in
          let q = request n 0 o x u (start clock d) in
          record {
            deny = deny;
            person = n;
            named = named;
            denied = q;
            in_range = in_range_of c clock q (rw named at fit.subject_in) a_role ho (asked_selected c.records d x hx.1) hu
                (omega (arith, fit.until_in)) (omega arith);
            matched = matches_make c d q
                (record {
                  subject = rw named (eq-eqb n n refl);
                  origin = from_o;
                  purpose = for_u;
                  selected = hx.1;
                  begun = omega arith;
                  not_over = omega arith;
                });
            baseline = has_baseline_read n x baseline;
          }

    -- what breaks the baseline is found
    pub baseline_found_make : Broken c patient clock d → breaks_baseline_found c patient clock d ≡ true
    unfolding breaks_baseline_found
    baseline_found_make h =
        let q = h.denied in
        let i = h.in_range in
        let a = matches_read c d q h.matched in
        ap₂ ◌&&◌ (ap not h.deny)
        (ap (breaks_for_found c patient clock d) h.named
        ∙ found_for_make c patient clock d h.person
        (record {
          own = (some_of_lem _ _).make _ q.query.«record» (asked_below c.records i.record_in, a.selected) (has_baseline_make h.person q.query.«record» h.baseline);
          origin = (some_below_lem origins).make _ q.query.requester.origin i.origin_in a.origin;
          purpose = (some_below_lem purposes).make _ q.query.requester.purpose i.purpose_in a.purpose;
          span = omega arith;
        }))

  -- what breaks the baseline from a later minute on breaks it from an earlier on
  pub baseline_later :
      (clock later : ℕ) (d : Directive) → clock ≤ later →
      breaks_baseline c patient later d ≡ true → breaks_baseline c patient clock d ≡ true
  baseline_later clock later d before t =
      let h = baseline_read later d t in
      baseline_make clock d
      (record {
        deny = h.deny;
        person = h.person;
        named = h.named;
        denied = h.denied;
        in_range = in_range_earlier c clock later h.denied before h.in_range;
        matched = h.matched;
        baseline = h.baseline;
      })
