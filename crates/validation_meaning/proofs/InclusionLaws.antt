-- A directive is included in a list exactly where the search finds that it is.
use Prim.Native.Nat.{ℕ, suc, ◌<◌, ◌≤◌}
use mathlib.Core.Path.{◌≡◌, refl}
use mathlib.Core.Bool.{Bool, true, false}
use mathlib.Core.List.{List, Memᴰ}
use native.Mathlib.Omega.{arith}
use borrow.Author.Tests.{eqb-true, eq-eqb}
use lib.ListN.{length}
use Rattle.sets.proofs.Quantifiers.{never_true, both_ways, and_both, implies_at, implies_of, implies_not, a_failure, every_of, every_where, every_list, some_list}
use Rattle.register.specs.Register.{Contents}
use Rattle.directive.specs.declared.Subject.{Subject}
use Rattle.directive.specs.declared.Subject.TheVariants.{Person, Role}
use Rattle.directive.specs.declared.Directive.{Directive}
use Rattle.directive.specs.declared.Request.{Request}
use Rattle.directive.specs.Selection.{selects}
use Rattle.directive.specs.Matching.{subject_covers, in_minutes, applies_to, matches, number_of}
use Rattle.directive.proofs.MatchLaws.{in_minutes_read, in_minutes_make, applies_read, applies_make, matches_read, matches_make}
use Rattle.validation_meaning.specs.Requests.{persons, origins, purposes, request, InRange}
use Rattle.validation_meaning.specs.Meaning.{covered, included}
use Rattle.validation_meaning.specs.Search.{from_origin, for_purpose, start, stands_for, meets, covered_at, boundaries, included_found, SubjectIn, Fit}
use Rattle.validation_meaning.proofs.Requests.{asked_selected, asked_below, in_range_of, every_request_lem, some_request_lem}
use Rattle.validation_meaning.proofs.Fresh.{fresh}
use Rattle.validation_meaning.proofs.MinuteLaws.{covered_between}

module _ (c : Contents) (ok : Directive → Bool) (es : List Directive) (q : Request) where
  pub covered_read :
      covered c ok es q ≡ true →
      (e : Directive) × Memᴰ e es × (ok e ≡ true) × (matches c e q ≡ true)
  covered_read t =
      let (e, i, both) = (some_list es).read _ t in
      let (passes, matched) = and_both (ok e) _ both in (e, i, passes, matched)

  pub covered_make :
      (e : Directive) → Memᴰ e es → ok e ≡ true → matches c e q ≡ true → covered c ok es q ≡ true
  covered_make e i passes matched = (some_list es).make _ e i (rw (passes, matched))

-- every request that d matches is covered
abbrev pub AllCovered : Contents → ℕ → (Directive → Bool) → Directive → List Directive → Type 0
AllCovered c clock ok d es = (q : Request) → InRange c clock q → matches c d q ≡ true → covered c ok es q ≡ true

module _ (c : Contents) (clock : ℕ) (ok : Directive → Bool) (d : Directive) (es : List Directive) where
  pub included_make : AllCovered c clock ok d es → included c clock ok d es ≡ true
  unfolding included
  included_make f = (every_request_lem c clock).make _ (λ q h. implies_of (matches c d q) _ (f q h))

  pub included_read : included c clock ok d es ≡ true → AllCovered c clock ok d es
  unfolding included
  included_read t q h matched = implies_at (matches c d q) _ ((every_request_lem c clock).read _ t q h) matched

  -- what an included directive matches, one of the list that passes matches
  pub included_at :
      included c clock ok d es ≡ true → (q : Request) → InRange c clock q → matches c d q ≡ true →
      (e : Directive) × Memᴰ e es × (ok e ≡ true) × (matches c e q ≡ true)
  included_at t q h matched = covered_read c ok es q (included_read t q h matched)

  -- and where a directive is not included, a request shows it
  pub not_included_at :
      included c clock ok d es ≡ false →
      (q : Request) × InRange c clock q × (matches c d q ≡ true)
      × ((e : Directive) → Memᴰ e es → ok e ≡ true → matches c e q ≡ false)
  unfolding included
  not_included_at t =
      let (q, h, f) = a_failure (every_request_lem c clock) (some_request_lem c clock) _ t in
      let (matched, uncovered) = implies_not (matches c d q) _ f in (
        q,
        h,
        matched,
        λ e i passes.
            never_true (matches c e q) (λ m. both_ways (covered_make c ok es q e i passes m) uncovered),
      )

module _ (c : Contents) where
  -- the person who stands for s in role r: named by s, or one whose number no subject of the list has
  standing :
      (s : Subject) (es : List Directive) (r : ℕ) → SubjectIn c s → length es < persons → stands_for c.roles s s r ≡ true →
      (p : ℕ) × (p < persons) × (subject_covers c.roles s p r ≡ true)
      × ((e : Directive) → Memᴰ e es →
      subject_covers c.roles e.subject p r ≡ true → stands_for c.roles s e.subject r ≡ true)
  standing (Person n) es r h few a = (n, h, a, λ e i. alike e.subject)
    where
      alike : (t : Subject) → subject_covers c.roles t n r ≡ true → stands_for c.roles (Person n) t r ≡ true
      alike (Person k) b = b
      alike (Role k) b = b
  standing (Role n) es r h few a =
      let (p, small, free) = fresh (λ e. number_of e.subject) persons es few in
      (p, small, a, λ e i. unnamed p e.subject (free e i))
    where
      unnamed :
          (p : ℕ) (t : Subject) → (number_of t ≡ p → ⊥) →
          subject_covers c.roles t p r ≡ true → stands_for c.roles (Role n) t r ≡ true
      unnamed p (Person k) f b = absurd (f (eqb-true k p b))
      unnamed p (Role k) f b = b

  module _ (clock : ℕ) (ok : Directive → Bool) (d : Directive) (es : List Directive) (fit : Fit c d) (few : length es < persons) where
    -- what holds of each request is found
    pub included_found_make : AllCovered c clock ok d es → included_found c clock ok d es ≡ true
    unfolding included_found matches
    included_found_make holds =
        (every_of (length c.records) (selects c.records d)).make _ λ x hx.
        (every_of origins (from_origin d)).make _ λ o ho.
        (every_of purposes (for_purpose d)).make _ λ u hu.
        (every_of (length c.roles) (stands_for c.roles d.subject d.subject)).make _ λ r hr.
        (every_where (in_minutes (start clock d) d.until) (every_list (boundaries clock d es))).make _ λ m hm.
        let (begun, not_over) = in_minutes_read (start clock d) d.until m hm.1 in
        let (p, hp, s, alike) = standing d.subject es r fit.subject_in few hr.1 in
        let q = request p r o x u m in
        let (e, i, passes, matched) =
        covered_read c ok es q
        (holds q
        (in_range_of c clock q hp hr.0 ho.0 (asked_selected c.records d x hx.1) hu.0
        (omega (arith, fit.until_in)) (omega arith))
        (matches_make c d q
        (record {
          subject = s;
          origin = ho.1;
          purpose = hu.1;
          selected = hx.1;
          begun = omega arith;
          not_over = not_over;
        })))
        in
        let (subject, rest) = and_both (subject_covers c.roles e.subject p r) _ matched in
        (some_list es).make (λ e. meets c ok d x o u r e m) e i (rw (passes, alike e i subject, rest))

  -- what the person who stands for s is to t, each person whom s covers is to t
  stands_at :
      (s t : Subject) (p r : ℕ) → subject_covers c.roles s p r ≡ true → stands_for c.roles s t r ≡ true →
      subject_covers c.roles t p r ≡ true
  stands_at (Person n) (Person k) p r a b =
      let i = eqb-true n p a in let j = eqb-true k n b in eq-eqb k p (omega arith)
  stands_at (Person n) (Role k) p r a b = b
  stands_at (Role n) (Person k) p r a b = both_ways b refl
  stands_at (Role n) (Role k) p r a b = b

  stands_self : (s : Subject) (p r : ℕ) → subject_covers c.roles s p r ≡ true → stands_for c.roles s s r ≡ true
  stands_self (Person n) p r a = eq-eqb n n refl
  stands_self (Role n) p r a = a

  module _ (ok : Directive → Bool) (d : Directive) (x o u r : ℕ) where
    meets_read :
        (e : Directive) (m : ℕ) → meets c ok d x o u r e m ≡ true →
        (ok e ≡ true) × (stands_for c.roles d.subject e.subject r ≡ true) × (applies_to c e x o u m ≡ true)
    meets_read e m t =
        let (two, a) = and_both _ (applies_to c e x o u m) t in
        let (passes, subject) = and_both (ok e) _ two in (passes, subject, a)

    -- a directive goes on matching until it ends
    goes_on :
        (e : Directive) (m : ℕ) → meets c ok d x o u r e m ≡ true → (suc m ≡ e.until → ⊥) →
        meets c ok d x o u r e (suc m) ≡ true
    goes_on e m t more =
        let (passes, subject, i) = meets_read e m t in
        let a = applies_read c e x o u m i in
        rw (passes, subject)
        (applies_make c e x o u (suc m)
        (record {
          origin = a.origin;
          purpose = a.purpose;
          selected = a.selected;
          begun = omega arith;
          not_over = omega arith;
        }))

  module _ (clock : ℕ) (ok : Directive → Bool) (d : Directive) (es : List Directive) (found : included_found c clock ok d es ≡ true) where
    point_covered :
        (x o u r m : ℕ) →
        (x < length c.records) × (selects c.records d x ≡ true) →
        (o < origins) × (from_origin d o ≡ true) →
        (u < purposes) × (for_purpose d u ≡ true) →
        (r < length c.roles) × (stands_for c.roles d.subject d.subject r ≡ true) →
        start clock d ≤ m → m < d.until → covered_at c ok d es x o u r m ≡ true
    unfolding included_found
    point_covered x o u r m hx ho hu hr =
        covered_between (meets c ok d x o u r) (λ e. e.until) (goes_on ok d x o u r) es (start clock d) d.until
        (λ n i h k.
        (every_where (in_minutes (start clock d) d.until) (every_list (boundaries clock d es))).read _
        ((every_of _ _).read _
        ((every_of _ _).read _ ((every_of _ _).read _ ((every_of _ _).read _ found x hx) o ho) u hu)
        r hr)
        n (i, in_minutes_make (start clock d) d.until n h k))
        m

    -- what is found holds of each request
    pub included_found_read : AllCovered c clock ok d es
    unfolding matches
    included_found_read q h t =
        let a = matches_read c d q t in
        let (e, i, met) =
        (some_list es).read _
        (point_covered q.query.«record» q.query.requester.origin q.query.requester.purpose q.query.requester.role q.minute
        (asked_below c.records h.record_in, a.selected)
        (h.origin_in, a.origin)
        (h.purpose_in, a.purpose)
        (h.role_in, stands_self d.subject q.query.requester.person q.query.requester.role a.subject)
        (omega arith)
        a.not_over)
        in
        let (passes, subject, rest) = meets_read ok d _ _ _ _ e _ met in
        covered_make c ok es q e i passes
        (rw (stands_at d.subject e.subject q.query.requester.person q.query.requester.role a.subject subject, rest))
