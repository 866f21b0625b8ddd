-- A directive of reach 3 beside the two of reach 0 and reach 2: what they match, and how they are judged.
use Prim.Native.Nat.{ℕ}
use mathlib.Core.Path.{◌≡◌, refl, sym, ap, ap₂, ◌∙◌}
use mathlib.Core.Bool.{Bool, true, false, ◌&&◌, ◌||◌, and-false, or-false, or_self}
use mathlib.Core.Logic.{◌⊎◌, ⊎_elim}
use mathlib.Core.List.{List}
use Rattle.sets.specs.Quantifiers.{some_in}
use Rattle.sets.specs.Bits.{bit}
use Rattle.sets.proofs.Quantifiers.{same_test, either_way, both_ways, and_both, or_cases, or_right, some_list}
use Rattle.register.specs.Register.{Contents}
use Rattle.register.specs.declared.records.Reach.{Reach}
use Rattle.register.specs.declared.records.Reach.TheVariants.{Itself, Descendants, Folder}
use Rattle.register.specs.Records.{record_at, has_record, reaches}
use Rattle.register.proofs.ReachLaws.{within_folder, folder}
use Rattle.directive.specs.declared.Subject.TheVariants.{Person}
use Rattle.directive.specs.declared.Directive.{Directive}
use Rattle.directive.specs.declared.Request.{Request}
use Rattle.directive.specs.Selection.{passes_filters, selects}
use Rattle.directive.specs.Matching.{subject_covers, in_minutes, applies_to, matches}
use Rattle.validation_meaning.specs.Meaning.{same_effect, conflict, breaks_baseline, redundant}
use Rattle.validation_meaning.proofs.BaselineLaws.{Broken, baseline_read, baseline_make}
use Rattle.validation_meaning.proofs.ConflictLaws.{conflict_read, conflict_make}
use Rattle.validation_meaning.proofs.InclusionLaws.{included_read, included_make}
use Rattle.demands.specs.Folder.{with_reach, OneForTwo}

-- whether the directive matches the request, with `within` for whether the record is within its reach
abbrev matches_where : Contents → Directive → Request → Bool → Bool
matches_where c d q within =
    subject_covers c.roles d.subject q.query.requester.person q.query.requester.role
    && (bit q.query.requester.origin d.subject_origins
    && bit q.query.requester.purpose d.purposes
    && (has_record c.records q.query.«record» && within && passes_filters (record_at c.records q.query.«record») d)
    && in_minutes d.from d.until q.minute)

module _ (c : Contents) (d : Directive) (q : Request) where
  matches_where_lem : matches c d q ≡ matches_where c d q (reaches c.records d.reach d.«record» q.query.«record»)
  unfolding matches applies_to selects
  matches_where_lem = refl

  matches_with :
      (n : ℕ) (k : Reach) → matches c (with_reach n k d) q ≡ matches_where c d q (reaches c.records k d.«record» q.query.«record»)
  unfolding matches applies_to selects passes_filters
  matches_with n k = refl

  outside : matches_where c d q false ≡ false
  outside =
      rw (
        and-false (has_record c.records q.query.«record»),
        and-false (bit q.query.requester.origin d.subject_origins && bit q.query.requester.purpose d.purposes),
        and-false (subject_covers c.roles d.subject q.query.requester.person q.query.requester.role),
      )

  both_parts : (a b : Bool) → matches_where c d q (a || b) ≡ matches_where c d q a || matches_where c d q b
  both_parts true true = sym (or_self (matches_where c d q true))
  both_parts true false = rw outside (sym (or-false (matches_where c d q true)))
  both_parts false b = rw outside refl

  -- the one matches what either of the two matches
  pub two_parts : (e f : Directive) → OneForTwo d e f → matches c d q ≡ matches c e q || matches c f q
  two_parts e f parts =
      let within : Reach → Bool = λ k. matches_where c d q (reaches c.records k d.«record» q.query.«record») in
      matches_where_lem
      ∙ ap within parts.one
      ∙ ap (matches_where c d q) (folder c.records d.«record» q.query.«record»)
      ∙ both_parts (reaches c.records Itself d.«record» q.query.«record») (reaches c.records Descendants d.«record» q.query.«record»)
      ∙ sym (ap₂ ◌||◌
      (ap (λ x. matches c x q) parts.first ∙ matches_with e.number Itself)
      (ap (λ x. matches c x q) parts.second ∙ matches_with f.number Descendants))

  -- what differs from a directive of reach 3 in the number and the reach alone matches nothing else
  pub part_matches :
      (n : ℕ) (k : Reach) → d.reach ≡ Folder → matches c (with_reach n k d) q ≡ true → matches c d q ≡ true
  part_matches n k one e =
      let within : Reach → Bool = λ j. matches_where c d q (reaches c.records j d.«record» q.query.«record») in
      ⊎_elim
      (λ (t : reaches c.records k d.«record» q.query.«record» ≡ true).
      matches_where_lem ∙ ap within one
      ∙ ap (matches_where c d q) (within_folder c.records d.«record» k q.query.«record» t ∙ sym t)
      ∙ sym (matches_with n k) ∙ e)
      (λ (t : reaches c.records k d.«record» q.query.«record» ≡ false).
      both_ways e (matches_with n k ∙ ap (matches_where c d q) t ∙ outside))
      (either_way (reaches c.records k d.«record» q.query.«record»))

-- the one by the two
module _ (d : Directive) (n k : ℕ) (one : d.reach ≡ Folder) where
  abbrev first : Directive
  first = with_reach n Itself d

  abbrev second : Directive
  second = with_reach k Descendants d

  parts : OneForTwo d first second
  parts = record { one = one; first = refl; second = refl }

  module _ (c : Contents) (clock : ℕ) where
    by_either : (q : Request) → matches c d q ≡ true → (matches c first q ≡ true) ⊎ (matches c second q ≡ true)
    by_either q e = or_cases (matches c first q) _ (sym (two_parts c d q first second parts) ∙ e)

    by_first : (q : Request) → matches c first q ≡ true → matches c d q ≡ true
    by_first q e = two_parts c d q first second parts ∙ rw e

    by_second : (q : Request) → matches c second q ≡ true → matches c d q ≡ true
    by_second q e = two_parts c d q first second parts ∙ or_right (matches c first q) _ e

    pub breaks_parts :
        (patient : ℕ) →
        breaks_baseline c patient clock d ≡ breaks_baseline c patient clock first || breaks_baseline c patient clock second
    breaks_parts patient =
        same_test _ _
        (λ t.
        let h = baseline_read c patient clock d t in
        ⊎_elim
        (λ (e : matches c first h.denied ≡ true).
        rw (baseline_make c patient clock first (other first h h.deny h.named e)))
        (λ (e : matches c second h.denied ≡ true).
        or_right (breaks_baseline c patient clock first) _ (baseline_make c patient clock second (other second h h.deny h.named e)))
        (by_either h.denied h.matched))
        (λ t.
        ⊎_elim
        (λ e.
        let h = baseline_read c patient clock first e in
        baseline_make c patient clock d (other d h h.deny h.named (by_first h.denied h.matched)))
        (λ e.
        let h = baseline_read c patient clock second e in
        baseline_make c patient clock d (other d h h.deny h.named (by_second h.denied h.matched)))
        (or_cases (breaks_baseline c patient clock first) _ t))
      where
        -- the same request, for a directive of the same effect and subject that matches it
        other :
            (e : Directive) {b : Directive} (h : Broken c patient clock b) → e.permit ≡ false → e.subject ≡ Person h.person →
            matches c e h.denied ≡ true → Broken c patient clock e
        other e h deny named matched =
            record {
              deny = deny;
              person = h.person;
              named = named;
              denied = h.denied;
              in_range = h.in_range;
              matched = matched;
              baseline = h.baseline;
            }

    conflict_parts : (g : Directive) → conflict c clock d g ≡ conflict c clock first g || conflict c clock second g
    conflict_parts g =
        same_test _ _
        (λ t.
        let (opposite, h) = conflict_read c clock d g t in
        ⊎_elim
        (λ (e : matches c first h.common ≡ true).
        rw (conflict_make c clock first g opposite
        (record { common = h.common; in_range = h.in_range; by_first = e; by_second = h.by_second })))
        (λ (e : matches c second h.common ≡ true).
        or_right (conflict c clock first g) _ (conflict_make c clock second g opposite
        (record { common = h.common; in_range = h.in_range; by_first = e; by_second = h.by_second })))
        (by_either h.common h.by_first))
        (λ t.
        ⊎_elim
        (λ e.
        let (opposite, h) = conflict_read c clock first g e in
        conflict_make c clock d g opposite
        (record { common = h.common; in_range = h.in_range; by_first = by_first h.common h.by_first; by_second = h.by_second }))
        (λ e.
        let (opposite, h) = conflict_read c clock second g e in
        conflict_make c clock d g opposite
        (record { common = h.common; in_range = h.in_range; by_first = by_second h.common h.by_first; by_second = h.by_second }))
        (or_cases (conflict c clock first g) _ t))

    pub clashes_parts :
        (es : List Directive) →
        some_in (conflict c clock d) es ≡ some_in (conflict c clock first) es || some_in (conflict c clock second) es
    clashes_parts es =
        same_test _ _
        (λ t.
        let (g, i, clash) = (some_list es).read _ t in
        ⊎_elim
        (λ e. rw ((some_list es).make (conflict c clock first) g i e))
        (λ e. or_right (some_in (conflict c clock first) es) _ ((some_list es).make (conflict c clock second) g i e))
        (or_cases (conflict c clock first g) _ (sym (conflict_parts g) ∙ clash)))
        (λ t.
        ⊎_elim
        (λ e.
        let (g, i, clash) = (some_list es).read _ e in
        (some_list es).make _ g i (conflict_parts g ∙ rw clash))
        (λ e.
        let (g, i, clash) = (some_list es).read _ e in
        (some_list es).make _ g i (conflict_parts g ∙ or_right (conflict c clock first g) _ clash))
        (or_cases (some_in (conflict c clock first) es) _ t))

    pub repeats_parts :
        (es : List Directive) → redundant c clock d es ≡ redundant c clock first es && redundant c clock second es
    repeats_parts es =
        let ok = same_effect d in
        same_test _ _
        (λ t.
        let all = included_read c clock ok d es t in
        rw (
          included_make c clock ok first es (λ q h e. all q h (by_first q e)),
          included_make c clock ok second es (λ q h e. all q h (by_second q e)),
        ))
        (λ t.
        let (by_one, by_other) = and_both (redundant c clock first es) _ t in
        included_make c clock ok d es (λ q h e.
        ⊎_elim
        (λ f. included_read c clock ok first es by_one q h f)
        (λ f. included_read c clock ok second es by_other q h f)
        (by_either q e)))
