-- Compatible drafts, committed in any two orders, leave every decide call the same effect and basis, now and after the same
-- advances.
use Prim.Native.Nat.{ℕ, ◌^◌, ◌<◌}
use mathlib.Core.Path.{◌≡◌, sym, ap, ap₂, ◌∙◌}
use mathlib.Core.Bool.{Bool, true, false, ◌||◌, not, beq, and-true}
use mathlib.Core.Logic.{⊎_elim}
use mathlib.Core.List.{List, [], ◌∷◌, map, Permᴰ}
use native.Mathlib.Omega.{arith}
use borrow.Author.Tests.{ltb-true, leb-true, lt-leb}
use lib.ListN.{take}
use lib.Dec.{leb}
use Rattle.sets.specs.Quantifiers.{pick, one_if, all_in}
use Rattle.sets.specs.Bits.{in_bits}
use Rattle.sets.specs.Numbers.{is_bytes}
use Rattle.sets.proofs.Quantifiers.{either_way, and_both, and_right}
use Rattle.sets.proofs.Keep.{some_keep}
use Rattle.directive.specs.declared.Directive.{Directive}
use Rattle.directive.specs.declared.Request.{Request}
use Rattle.directive.specs.declared.Query.{Query}
use Rattle.directive.proofs.MatchLaws.{matches_read}
use Rattle.validation_meaning.specs.Requests.{persons, InRange}
use Rattle.validation_meaning.proofs.Requests.{in_range_earlier}
use Rattle.ledger_model.specs.Model.{Model, with_active}
use Rattle.ledger_model.specs.Answer.{values}
use Rattle.ledger_model.specs.Decision.{matching, is_patient, is_author, decision}
use Rattle.ledger_model.specs.Xacml.{effect_of}
use Rattle.ledger_model.specs.Questions.{decide_questions}
use Rattle.ledger_model.specs.Calls.{after_advance, advanced, decided, commit, advance, model_after}
use Rattle.ledger_model.specs.Compatible.{compatible}
use Rattle.ledger_model.specs.Invariant.{ModelInvariant}
use Rattle.ledger_model.proofs.Questions.{told_where}
use Rattle.ledger_model.proofs.Soundness.{sound_advance}
use Rattle.ledger_model.proofs.Reordering.{all_reordered, some_reordered, compatible_reordered}
use Rattle.ledger_model.proofs.Covering.{covered_by, covered_by_drafts, drafts_added}
use Rattle.ledger_model.proofs.Saying.{now, in_range_now, said_effect, says, said_by_covered}

-- The directives ds cover the same requests from the clock on as the active of m.
record SameCover (m : Model) (ds : List Directive) : Type 0 where
  invariant : ModelInvariant m
  sound_other : ModelInvariant (with_active m ds)
  covers :
      (b : Bool) (q : Request) → InRange m.register m.clock q → covered_by m b q ≡ covered_by (with_active m ds) b q

same_decided :
    (m : Model) (ds : List Directive) → SameCover m ds → (q : Query) → q.requester.person < persons →
    take 2 (values (decided m q)) ≡ take 2 (values (decided (with_active m ds) q))
unfolding decided decision
same_decided m ds same q person =
    told_where (λ x. take 2 (values x)) (decide_questions m q) _ _ λ asked.
    let i = in_range_now m same.invariant q person asked in
    ⊎_elim
    (λ (patient : is_patient m q ≡ true). rw patient)
    (λ (stranger : is_patient m q ≡ false).
    ⊎_elim
    (λ (author : is_author m q ≡ true). rw (stranger, author))
    (λ (reader : is_author m q ≡ false).
    rw (stranger, reader)
    (said_effect m q (matching m q)
    ∙ ap (λ r. one_if (effect_of m q r).permit ∷ (effect_of m q r).basis ∷ [])
    (said_by_covered m same.invariant q i
    ∙ ap₂ says (same.covers true (now m q) i) (same.covers false (now m q) i)
    ∙ sym (said_by_covered (with_active m ds) same.sound_other q i))
    ∙ sym (said_effect m q (matching (with_active m ds) q))))
    (either_way (is_author m q)))
    (either_way (is_patient m q))

-- an advance keeps what matches a request from the new clock on
advance_covers :
    (m : Model) (t : ℕ) (b : Bool) (q : Request) → InRange m.register t q →
    covered_by (after_advance m t) b q ≡ covered_by m b q
advance_covers m t b q i =
    some_keep _ _
    (λ d s.
    let a = matches_read m.register d q (and_right (beq b d.permit) _ s) in
    ap not (lt-leb d.until t (omega arith)))
    m.active

advanced_is :
    (m : Model) (t : ℕ) (b : Bool) → leb m.clock t ≡ b → (advanced m t).model ≡ pick b (after_advance m t) m
unfolding advanced all_in
advanced_is m t b e = rw (e, and-true b)

same_advanced :
    (m : Model) (ds : List Directive) (t : ℕ) → t < 2 ^ 32 → leb m.clock t ≡ true → SameCover m ds →
    SameCover (after_advance m t) (after_advance (with_active m ds) t).active
same_advanced m ds t small e same =
    record {
      invariant = rw (advanced_is m t true e) at (sound_advance m same.invariant t small);
      sound_other =
          rw (advanced_is (with_active m ds) t true e) at (sound_advance (with_active m ds) same.sound_other t small);
      covers = λ b q i.
          advance_covers m t b q i
          ∙ same.covers b q (in_range_earlier m.register m.clock t q (leb-true m.clock t e) i)
          ∙ sym (advance_covers (with_active m ds) t b q i);
    }

same_after :
    (minutes : List ℕ) → all_in (in_bits 32) minutes ≡ true → (m : Model) (ds : List Directive) → SameCover m ds →
    (q : Query) → q.requester.person < persons →
    take 2 (values (decided (model_after m (map advance minutes)) q))
    ≡ take 2 (values (decided (model_after (with_active m ds) (map advance minutes)) q))
unfolding all_in model_after
same_after [] small m ds same q person = same_decided m ds same q person
same_after (t ∷ ts) small m ds same q person =
    let (small_t, small_ts) = and_both (in_bits 32 t) _ small in
    let after : Model → List ℕ = λ n. take 2 (values (decided (model_after n (map advance ts)) q)) in
    ⊎_elim
    (λ (e : leb m.clock t ≡ true).
    ap after (advanced_is m t true e)
    ∙ same_after ts small_ts (after_advance m t) _
    (same_advanced m ds t (ltb-true t (2 ^ 32) small_t) e same)
    q person
    ∙ ap after (sym (advanced_is (with_active m ds) t true e)))
    (λ (e : leb m.clock t ≡ false).
    ap after (advanced_is m t false e)
    ∙ same_after ts small_ts m ds same q person
    ∙ ap after (sym (advanced_is (with_active m ds) t false e)))
    (either_way (leb m.clock t))

-- Two lists of compatible drafts that cover the same requests leave every decide call the same effect and basis, now and after the same
-- advances.
pub same_drafts :
    (m : Model) → ModelInvariant m → (ss ts : List (List ℕ)) → all_in is_bytes ss ≡ true → all_in is_bytes ts ≡ true →
    compatible m ss ≡ true → compatible m ts ≡ true →
    ((b : Bool) (q : Request) → covered_by_drafts m ss b q ≡ covered_by_drafts m ts b q) →
    (minutes : List ℕ) → all_in (in_bits 32) minutes ≡ true → (q : Query) → q.requester.person < persons →
    take 2 (values (decided (model_after (model_after m (map commit ss)) (map advance minutes)) q))
    ≡ take 2 (values (decided (model_after (model_after m (map commit ts)) (map advance minutes)) q))
same_drafts m h ss ts bytes others beside other same minutes small q person =
    let one = drafts_added m h ss bytes beside in
    let two = drafts_added m h ts others other in
    let after : Model → List ℕ = λ n. take 2 (values (decided (model_after n (map advance minutes)) q)) in
    ap after one.leads
    ∙ same_after minutes small (with_active m one.directives) two.directives
    (record {
      invariant = one.invariant;
      sound_other = two.invariant;
      covers = λ b r i.
          one.coverage b r i ∙ ap (covered_by m b r ||◌) (same b r) ∙ sym (two.coverage b r i);
    })
    q person
    ∙ ap after (sym two.leads)

pub order_model :
    (m : Model) → ModelInvariant m → (ss ts : List (List ℕ)) → all_in is_bytes ss ≡ true → compatible m ss ≡ true →
    Permᴰ ss ts → (minutes : List ℕ) → all_in (in_bits 32) minutes ≡ true → (q : Query) → q.requester.person < persons →
    take 2 (values (decided (model_after (model_after m (map commit ss)) (map advance minutes)) q))
    ≡ take 2 (values (decided (model_after (model_after m (map commit ts)) (map advance minutes)) q))
order_model m h ss ts e beside other minutes small q person =
    same_drafts m h ss ts e
    (sym (all_reordered is_bytes other) ∙ e)
    beside
    (sym (compatible_reordered m other) ∙ beside)
    (λ b r. some_reordered _ other)
    minutes small q person
