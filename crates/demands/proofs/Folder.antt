-- A directive of reach 3 is signed instead of two, one of reach 0 and one of reach 2.
use Prim.Native.Nat.{ℕ}
use mathlib.Core.Path.{◌≡◌, refl, sym, ap, ap₂, ◌∙◌}
use mathlib.Core.Bool.{Bool, true, false, ◌&&◌, ◌||◌, not, beq, and-false, or_assoc, and-or_distrib_left}
use mathlib.Core.Logic.{◌⊎◌, inl, inr, ⊎_elim}
use mathlib.Core.List.{List, [], ◌∷◌, Memᴰ}
use borrow.Author.Tests.{eqb-true, eq-eqb, not-true}
use lib.ListN.{length, drop}
use lib.Dec.{eqb, leb}
use Rattle.sets.specs.Quantifiers.{pick, all_in, some_in}
use Rattle.sets.proofs.Quantifiers.{either_way, both_ways, never_true, and_both, or_cases, implies_of, some_list}
use Rattle.register.specs.Register.{Contents}
use Rattle.register.specs.declared.records.Reach.TheVariants.{Itself, Descendants}
use Rattle.directive.specs.declared.Directive.{Directive}
use Rattle.directive.specs.declared.Request.{Request}
use Rattle.directive.specs.Matching.{matches}
use Rattle.directive.specs.Lowest.{lowest_number}
use Rattle.drafts.specs.declared.Draft.{Draft}
use Rattle.drafts.specs.Form.{draft_size, draft_of, keeps_ranges}
use Rattle.validation_meaning.specs.Requests.{InRange}
use Rattle.validation_meaning.specs.Meaning.{same_effect, conflict, breaks_baseline, redundant}
use Rattle.validation_meaning.specs.Judgement.{meant}
use Rattle.validation_meaning.proofs.Requests.{every_request_lem, some_request_lem}
use Rattle.ledger_model.specs.Model.{Model}
use Rattle.ledger_model.specs.Answer.{Answer, done, refused, refusal}
use Rattle.ledger_model.specs.Questions.{Question, first_no, passes, questions_before, directive_questions, conflicting, draft_questions, bytes_questions, Outcome}
use Rattle.ledger_model.specs.Calls.{drafted, committed_draft_by, committed_by}
use Rattle.ledger_model.proofs.Questions.{first_append, first_passed}
use Rattle.ledger_model.proofs.Passed.{from_12, committed_bytes}
use Rattle.ledger_model.proofs.Clash.{no_clash_at}
use Rattle.ledger_model.proofs.Covering.{speaks, covered_by_drafts}
use Rattle.ledger_model.proofs.Order.{same_drafts}
use Rattle.ledger.specs.declared.Ledger.{Ledger}
use Rattle.ledger.specs.State.{view}
use Rattle.ledger.specs.Invariant.{Invariant}
use Rattle.ledger.specs.Promises.{CommitResult, Commits}
use Rattle.demands.specs.Demands.{refused_with}
use Rattle.demands.specs.Folder.{with_reach, OneForTwo, at_reach, together, PassesBefore12, Folders}
use Rattle.demands.proofs.Exactness.{draft_exact}
use Rattle.demands.proofs.Ordering.{drafts_bytes, advanced_small, told_after}
use Rattle.demands.proofs.Runs.{meant_sound}
use Rattle.demands.proofs.FolderLaws.{two_parts, part_matches, breaks_parts, clashes_parts, repeats_parts}

-- questions of other numbers never refuse with n
never_refused :
    (n : ℕ) (qs : List Question) → eqb 0 n ≡ false → all_in (λ q. not (eqb q.number n)) qs ≡ true →
    eqb (refusal (first_no qs (done []))) n ≡ false
unfolding first_no all_in
never_refused n [] none others = none
never_refused n (q ∷ qs) none others =
    let (this, rest) = and_both (not (eqb q.number n)) _ others in
    ⊎_elim
    (λ (e : q.holds ≡ true). rw e (never_refused n qs none rest))
    (λ (e : q.holds ≡ false). rw e (not-true _ this))
    (either_way q.holds)

seven : (m : Model) (t : Draft) → eqb (refusal (committed_draft_by meant m t).answer) 7 ≡ not (keeps_ranges t)
unfolding committed_draft_by first_no all_in draft_questions directive_questions
seven m t =
    ⊎_elim
    (λ (e : keeps_ranges t ≡ true). rw e (never_refused 7 (drop 1 (draft_questions meant m t)) refl refl))
    (λ (e : keeps_ranges t ≡ false). rw e)
    (either_way (keeps_ranges t))

-- the reach apart from the other ranges
ranges : (t : Draft) → keeps_ranges t ≡ leb t.reach 3 && keeps_ranges (at_reach 0 t)
unfolding keeps_ranges
ranges t =
    ⊎_elim
    (λ (e : leb t.reach 3 ≡ true). rw e)
    (λ (e : leb t.reach 3 ≡ false). rw (e, and-false (leb t.effect 1 && leb t.subject_kind 1)))
    (either_way (leb t.reach 3))

-- what a draft that passes 6 to 11 is refused with, by baseline, conflict and redundancy
abbrev number_of : Bool → Bool → Bool → ℕ
number_of breaks clashes repeats = pick breaks 12 (pick clashes 13 (pick repeats 14 0))

refusal_number :
    (b c r : Bool) (named : List ℕ) →
    refusal (pick (not b) (pick (not c) (pick (not r) (done []) (refused 14 [])) (refused 13 named)) (refused 12 []))
    ≡ number_of b c r
refusal_number true c r named = refl
refusal_number false true r named = refl
refusal_number false false true named = refl
refusal_number false false false named = refl

abbrev number_in : Model → Directive → ℕ
number_in m d =
    number_of (breaks_baseline m.register m.patient m.clock d)
    (some_in (conflict m.register m.clock d) m.active)
    (redundant m.register m.clock d m.active)

numbered :
    (l : Ledger) → Invariant l → (s : List ℕ) (r : CommitResult) → Commits l s r → PassesBefore12 l s →
    refused_with r ≡ number_in (view l) (drafted s)
unfolding committed_by first_no
numbered l h s r commits passed =
    let m = view l in
    let early = questions_before 12 (bytes_questions meant m s) in
    ap refusal
    ((commits h).answer
    ∙ ap (λ qs. first_no qs (done [])) (from_12 meant m s)
    ∙ first_append early _ (done [])
    ∙ first_passed early _ passed)
    ∙ refusal_number
    (breaks_baseline m.register m.patient m.clock (drafted s))
    (some_in (conflict m.register m.clock (drafted s)) m.active)
    (redundant m.register m.clock (drafted s) m.active)
    (lowest_number (conflicting meant m (drafted s)))

of_both :
    (b₁ b₂ c₁ c₂ r₁ r₂ : Bool) →
    number_of (b₁ || b₂) (c₁ || c₂) (r₁ && r₂) ≡ together (number_of b₁ c₁ r₁) (number_of b₂ c₂ r₂)
of_both true b₂ c₁ c₂ r₁ r₂ = refl
of_both false true true c₂ r₁ r₂ = refl
of_both false true false c₂ true r₂ = refl
of_both false true false c₂ false r₂ = refl
of_both false false true true r₁ r₂ = refl
of_both false false true false r₁ true = refl
of_both false false true false r₁ false = refl
of_both false false false true true r₂ = refl
of_both false false false true false r₂ = refl
of_both false false false false true true = refl
of_both false false false false true false = refl
of_both false false false false false true = refl
of_both false false false false false false = refl

one_by_two :
    (m : Model) (d e f : Directive) → OneForTwo d e f →
    number_in m d ≡ together (number_in m e) (number_in m f)
one_by_two m d e f parts =
    let c = m.register in
    let n = e.number in
    let k = f.number in
    rw (
      parts.first,
      parts.second,
      breaks_parts d n k parts.one c m.clock m.patient,
      clashes_parts d n k parts.one c m.clock m.active,
      repeats_parts d n k parts.one c m.clock m.active,
    )
    (of_both
    (breaks_baseline c m.patient m.clock (with_reach n Itself d))
    (breaks_baseline c m.patient m.clock (with_reach k Descendants d))
    (some_in (conflict c m.clock (with_reach n Itself d)) m.active)
    (some_in (conflict c m.clock (with_reach k Descendants d)) m.active)
    (redundant c m.clock (with_reach n Itself d) m.active)
    (redundant c m.clock (with_reach k Descendants d) m.active))

-- one of the active, of the draft's effect, matches the request
abbrev CoveredAt : Ledger → List ℕ → Request → Type 0
CoveredAt l s q =
    (e : Directive) × Memᴰ e (view l).active × (e.permit ≡ (drafted s).permit) × (matches (view l).register e q ≡ true)

opposite : (a b : Bool) → beq a b ≡ false → ((a ≡ true) × (b ≡ false)) ⊎ ((b ≡ true) × (a ≡ false))
opposite true true e = both_ways refl e
opposite true false e = inl (refl, refl)
opposite false true e = inr (refl, refl)
opposite false false e = both_ways refl e

-- a draft that passes questions 6 to 12 and matches only what active directives of its effect match is refused 14
module _
    (l : Ledger) (h : Invariant l) (s : List ℕ) (r : CommitResult) (commits : Commits l s r)
    (passed : passes (questions_before 13 (bytes_questions meant (view l) s)) ≡ true)
    (cover :
    (q : Request) → InRange (view l).register (view l).clock q → matches (view l).register (drafted s) q ≡ true →
    CoveredAt l s q)
  where
    no_conflict : eqb (refused_with r) 13 ≡ false
    no_conflict =
        let m = view l in
        let c = m.register in
        let d = drafted s in
        (draft_exact l h s r commits passed).thirteen
        ∙ never_true _ (λ t.
        let (q, range, both) = (some_request_lem c m.clock).read _ t in
        let (by_d, by_other) = and_both (matches c d q) _ both in
        let (g, j, against) = (some_list m.active).read _ by_other in
        let (differ, by_g) = and_both (not (same_effect d g)) _ against in
        let (e, i, same, by_e) = cover q range by_d in
        ⊎_elim
        (λ (x : (d.permit ≡ true) × (g.permit ≡ false)).
        no_clash_at m h.model e g i j (same ∙ x.0) x.1 q range by_e by_g)
        (λ (x : (g.permit ≡ true) × (d.permit ≡ false)).
        no_clash_at m h.model g e j i x.0 (same ∙ x.1) q range by_g by_e)
        (opposite d.permit g.permit (not-true _ differ)))

    refused_14 : refused_with r ≡ 14
    refused_14 =
        let m = view l in
        let c = m.register in
        eqb-true (refused_with r) 14
        ((draft_exact l h s r commits passed).fourteen no_conflict
        ∙ (every_request_lem c m.clock).make _ λ q range.
        implies_of (matches c (drafted s) q) _ λ by_d.
        let (e, i, same, by_e) = cover q range by_d in
        (some_list m.active).make _ e i by_e)

-- the effect and the match together
speaks_parts :
    (c : Contents) (b : Bool) (q : Request) (d e f : Directive) → OneForTwo d e f →
    speaks c b q d ≡ speaks c b q e || speaks c b q f
speaks_parts c b q d e f parts =
    ap (beq b d.permit &&◌) (two_parts c d q e f parts)
    ∙ and-or_distrib_left (beq b d.permit) (matches c e q) (matches c f q)
    ∙ sym (ap₂ (λ (x y : Directive). beq b x.permit && matches c e q || beq b y.permit && matches c f q) parts.first parts.second)

drafts_speak :
    (l : Ledger) (s t u : List ℕ) → OneForTwo (drafted s) (drafted t) (drafted u) → (b : Bool) (q : Request) →
    covered_by_drafts (view l) (s ∷ []) b q ≡ covered_by_drafts (view l) (t ∷ u ∷ []) b q
unfolding some_in
drafts_speak l s t u parts b q =
    let c = (view l).register in
    ap (◌|| false) (speaks_parts c b q (drafted s) (drafted t) (drafted u) parts)
    ∙ or_assoc (speaks c b q (drafted t)) (speaks c b q (drafted u)) false

pub folders : Folders
folders l reach =
    let h = meant_sound l reach in
    let c = (view l).register in
    record {
      matched = λ d e f parts q. two_parts c d q e f parts;
      allowed = λ s r commits long.
          ap (λ (a : Answer). eqb (refusal a) 7)
          ((commits h).answer ∙ ap (λ (o : Outcome). o.answer) (committed_bytes meant (view l) s (eq-eqb (length s) draft_size long)))
          ∙ seven (view l) (draft_of s)
          ∙ ap not (ranges (draft_of s));
      judged = λ s t u r v w parts commits_s commits_t commits_u pass_s pass_t pass_u.
          numbered l h s r commits_s pass_s
          ∙ one_by_two (view l) (drafted s) (drafted t) (drafted u) parts
          ∙ sym (ap₂ together (numbered l h t v commits_t pass_t) (numbered l h u w commits_u pass_u));
      decided = λ s t u parts beside other minutes l₁ m₁ l₂ m₂ rs₁ xs₁ rs₂ xs₂ one then two later q a b person by_a by_b.
          told_after h one then q a by_a
          ∙ same_drafts (view l) h.model (s ∷ []) (t ∷ u ∷ []) (drafts_bytes (s ∷ []) one) (drafts_bytes (t ∷ u ∷ []) two) beside other
          (λ v p. drafts_speak l s t u parts v p)
          minutes (advanced_small minutes then) q person
          ∙ sym (told_after h two later q b by_b);
      one_redundant = λ s r e f commits parts i j passed.
          refused_14 l h s r commits passed (λ q range by_d.
          ⊎_elim
          (λ by_e. (e, i, ap (λ (x : Directive). x.permit) parts.first, by_e))
          (λ by_f. (f, j, ap (λ (x : Directive). x.permit) parts.second, by_f))
          (or_cases (matches c e q) _ (sym (two_parts c (drafted s) q e f parts) ∙ by_d)));
      part_redundant = λ s r d commits i one is passed.
          refused_14 l h s r commits passed (λ q range by_d. (
            d,
            i,
            sym (ap (λ (x : Directive). x.permit) is),
            part_matches c d q (drafted s).number (drafted s).reach one (sym (ap (λ x. matches c x q) is) ∙ by_d),
          ));
    }
