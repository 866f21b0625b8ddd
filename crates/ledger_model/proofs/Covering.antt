-- Which requests active directives of each effect cover, and what a list of compatible drafts adds to that.
use Prim.Native.Nat.{ℕ, suc, ◌+◌, ◌<◌, ◌≤◌}
use mathlib.Core.Path.{◌≡◌, refl, sym, ap, ◌∙◌}
use mathlib.Core.Bool.{Bool, true, false, ◌&&◌, ◌||◌, not, beq, or-false, or_assoc}
use mathlib.Core.Logic.{⊎_elim}
use mathlib.Core.List.{List, [], ◌∷◌, ◌++◌, map, Memᴰ}
use native.Mathlib.Omega.{arith}
use borrow.Author.Tests.{not-true, leb-true, le-leb}
use lib.ListN.{length, length-append}
use lib.Dec.{eqb}
use Rattle.sets.specs.Quantifiers.{pick, all_in, some_in, pairwise}
use Rattle.sets.specs.Numbers.{is_bytes}
use Rattle.sets.proofs.Quantifiers.{either_way, beq_true, and_both, and_left, and_right, every_list, some_list}
use Rattle.sets.proofs.Keep.{keep_shorter}
use Rattle.sets.proofs.Lists.{some_snoc}
use Rattle.register.specs.Register.{Contents}
use Rattle.directive.specs.declared.Directive.{Directive}
use Rattle.directive.specs.declared.Request.{Request}
use Rattle.directive.specs.Matching.{matches}
use Rattle.directive.specs.Places.{active_places}
use Rattle.drafts.specs.declared.Draft.{Draft}
use Rattle.drafts.specs.Form.{draft_of, directive_of}
use Rattle.drafts.proofs.FormLaws.{bytes_wide}
use Rattle.validation_meaning.specs.Requests.{InRange}
use Rattle.validation_meaning.specs.Meaning.{same_effect, conflict, redundant}
use Rattle.validation_meaning.specs.Judgement.{meant}
use Rattle.validation_meaning.proofs.ConflictLaws.{conflict_sym}
use Rattle.validation_meaning.proofs.InclusionLaws.{included_read}
use Rattle.ledger_model.specs.Model.{Model, with_active}
use Rattle.ledger_model.specs.Questions.{passes, questions_before, bytes_questions}
use Rattle.ledger_model.specs.Calls.{with_last, committed_draft_by, drafted, after_commit, committed, commit, model_after}
use Rattle.ledger_model.specs.Compatible.{compatible}
use Rattle.ledger_model.specs.Invariant.{ModelInvariant}
use Rattle.ledger_model.proofs.Passed.{Passed, passed_make, passes_draft, before_14_read, before_14_make, committed_bytes}
use Rattle.ledger_model.proofs.Soundness.{sound_passed}

-- d is of the effect b and matches the request
abbrev pub speaks : Contents → Bool → Request → Directive → Bool
speaks c b q d = beq b d.permit && matches c d q

-- one of the active, of the effect b, matches the request
abbrev pub covered_by : Model → Bool → Request → Bool
covered_by m b q = some_in (speaks m.register b q) m.active

-- one of the drafts does
abbrev pub covered_by_drafts : Model → List (List ℕ) → Bool → Request → Bool
covered_by_drafts m ss b q = some_in (λ s. speaks m.register b q (drafted s)) ss

or_absorbs : (a b : Bool) → (b ≡ true → a ≡ true) → a || b ≡ a
or_absorbs true b f = refl
or_absorbs false true f = sym (f refl)
or_absorbs false false f = refl

pub covered_by_read :
    (m : Model) (b : Bool) (q : Request) → covered_by m b q ≡ true →
    (d : Directive) × Memᴰ d m.active × (d.permit ≡ b) × (matches m.register d q ≡ true)
covered_by_read m b q t =
    let (d, i, both) = (some_list m.active).read _ t in
    let (same, matched) = and_both (beq b d.permit) _ both in (d, i, sym (beq_true b d.permit same), matched)

-- what a redundant directive matches is covered
covered_already :
    (m : Model) (d : Directive) → redundant m.register m.clock d m.active ≡ true →
    (b : Bool) (q : Request) → InRange m.register m.clock q → speaks m.register b q d ≡ true →
    covered_by m b q ≡ true
covered_already m d r b q i t =
    let (same, matched) = and_both (beq b d.permit) _ t in
    rw (beq_true b d.permit same) (included_read m.register m.clock (same_effect d) d m.active r q i matched)

-- a draft that passes 7 to 13 passes them with one active directive more, of another number and free of conflict with it
still_passed :
    (m : Model) (d : Directive) (t : Draft) → Passed meant m t → suc (length m.active) < active_places →
    eqb d.number (directive_of t).number ≡ false → conflict m.register m.clock (directive_of t) d ≡ false →
    Passed meant (with_last m d) t
still_passed m d t h room apart clear =
    record {
      ranges = h.ranges;
      there = h.there;
      minutes = h.minutes;
      free = some_snoc (λ d. eqb d.number (directive_of t).number) m.active d ∙ rw (h.free, apart);
      room = rw length-append (omega arith);
      spared = h.spared;
      clear = some_snoc (conflict m.register m.clock (directive_of t)) m.active d ∙ rw (h.clear, clear);
    }

-- a draft that passes them is left with question 14
last_question :
    (m : Model) (s : List ℕ) (b : Bool) → passes (questions_before 14 (bytes_questions meant m s)) ≡ true →
    redundant m.register m.clock (drafted s) m.active ≡ b →
    (committed m s).model ≡ pick (not b) (after_commit m s) m
unfolding committed_draft_by
last_question m s b e r =
    let (size, passed) = before_14_read meant m s e in
    rw (committed_bytes meant m s size, passes_draft meant m (draft_of s), passed_make meant m (draft_of s) passed, r)

-- n is m with other directives. For each effect they cover a request from the clock on where the active of m or one of the
-- drafts does.
pub record Added (m : Model) (ss : List (List ℕ)) (n : Model) : Type 0 where
  pub directives : List Directive
  pub leads : n ≡ with_active m directives
  pub invariant : ModelInvariant (with_active m directives)
  pub coverage :
      (b : Bool) (q : Request) → InRange m.register m.clock q →
      some_in (speaks m.register b q) directives ≡ covered_by m b q || covered_by_drafts m ss b q

-- The first of compatible drafts, and those after it.
module _ (m : Model) (s : List ℕ) (ss : List (List ℕ)) (beside : compatible m (s ∷ ss) ≡ true) where
  places : length m.active + suc (length ss) ≤ active_places
  unfolding compatible
  places = leb-true _ active_places (search and_right)

  first_passes : passes (questions_before 14 (bytes_questions meant m s)) ≡ true
  unfolding compatible all_in
  first_passes = search (and_left, and_right)

  others_pass : (t : List ℕ) → Memᴰ t ss → passes (questions_before 14 (bytes_questions meant m t)) ≡ true
  unfolding compatible all_in
  others_pass = (every_list ss).read _ (search (and_left, and_right))

  -- the others pass with the first among the active
  others_pass_first :
      (t : List ℕ) → Memᴰ t ss → passes (questions_before 14 (bytes_questions meant (after_commit m s) t)) ≡ true
  unfolding compatible pairwise
  others_pass_first t i =
      let differ : all_in (λ t. not (eqb (drafted s).number (drafted t).number)) ss ≡ true = search (and_left, and_right) in
      let clear : all_in (λ t. not (conflict m.register m.clock (drafted s) (drafted t))) ss ≡ true =
      search (and_left, and_right)
      in
      let (size, passed) = before_14_read meant m t (others_pass t i) in
      before_14_make meant (after_commit m s) t size
      (still_passed m (drafted s) (draft_of t) passed
      (omega (arith, places, keep_shorter (λ _. false) ss t i refl))
      (not-true _ ((every_list ss).read _ differ t i))
      (conflict_sym _ _ _ _ ∙ not-true _ ((every_list ss).read _ clear t i)))

  -- they are compatible with directives with which they pass, at most one more than the active
  others_beside :
      (ds : List Directive) → length ds ≤ length m.active + 1 →
      ((t : List ℕ) → Memᴰ t ss → passes (questions_before 14 (bytes_questions meant (with_active m ds) t)) ≡ true) →
      compatible (with_active m ds) ss ≡ true
  unfolding compatible pairwise
  others_beside ds few pass =
      let differ : pairwise (λ s t. not (eqb (drafted s).number (drafted t).number)) ss ≡ true =
      search (and_left, and_right)
      in
      let clear : pairwise (λ s t. not (conflict m.register m.clock (drafted s) (drafted t))) ss ≡ true =
      search (and_left, and_right)
      in
      rw (
        (every_list ss).make _ pass,
        differ,
        clear,
        le-leb (length ds + length ss) active_places (omega (arith, places)),
      )

  -- the first is put last, or its requests are covered already
  first_added :
      ModelInvariant m → is_bytes s ≡ true →
      (added : Added m (s ∷ []) (committed m s).model) × (compatible (with_active m added.directives) ss ≡ true)
  unfolding some_in
  first_added h e =
      let d = drafted s in
      let repeated = redundant m.register m.clock d m.active in
      ⊎_elim
      (λ (r : repeated ≡ true). (
        record {
          directives = m.active;
          leads = last_question m s true first_passes r;
          invariant = h;
          coverage = λ b q i.
              rw (or-false (speaks m.register b q d))
              (sym (or_absorbs (covered_by m b q) (speaks m.register b q d) (covered_already m d r b q i)));
        },
        others_beside m.active (omega arith) others_pass,
      ))
      (λ (r : repeated ≡ false). (
        record {
          directives = m.active ++ (d ∷ []);
          leads = last_question m s false first_passes r;
          invariant = sound_passed m h (draft_of s) (bytes_wide s e) (before_14_read meant m s first_passes).1;
          coverage = λ b q i.
              rw (or-false (speaks m.register b q d)) (some_snoc (speaks m.register b q) m.active d);
        },
        others_beside (m.active ++ (d ∷ [])) (rw length-append (omega arith)) others_pass_first,
      ))
      (either_way repeated)

pub drafts_added :
    (m : Model) → ModelInvariant m → (ss : List (List ℕ)) → all_in is_bytes ss ≡ true → compatible m ss ≡ true →
    Added m ss (model_after m (map commit ss))
unfolding all_in some_in model_after
drafts_added m h [] e beside =
    record { directives = m.active; leads = refl; invariant = h; coverage = λ b q i. sym (or-false (covered_by m b q)) }
drafts_added m h (s ∷ ss) e beside =
    let (bytes, others) = and_both (is_bytes s) _ e in
    let (one, left) = first_added m s ss beside h bytes in
    let rest = drafts_added (with_active m one.directives) one.invariant ss others left in
    record {
      directives = rest.directives;
      leads = ap (λ n. model_after n (map commit ss)) one.leads ∙ rest.leads;
      invariant = rest.invariant;
      coverage = λ b q i.
          let first = speaks m.register b q (drafted s) in
          rest.coverage b q i
          ∙ rw (one.coverage b q i, or-false first, or_assoc (covered_by m b q) first (covered_by_drafts m ss b q));
    }
