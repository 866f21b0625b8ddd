-- Every call leaves a sound model sound, and so does one directive more that passes questions 7 to 13.
use Prim.Native.Nat.{ℕ, ◌+◌, ◌^◌, ◌<◌, ◌≤◌}
use mathlib.Core.Path.{◌≡◌, sym, ◌∙◌}
use mathlib.Core.Bool.{Bool, true, not}
use mathlib.Core.List.{List, []}
use native.Mathlib.Omega.{arith}
use borrow.Author.Tests.{not-true, leb-true, leb-false, ltb-true, lt-ltb}
use lib.ListN.{length, length-append}
use lib.Dec.{eqb, leb, ltb}
use Rattle.sets.specs.Quantifiers.{pick, all_in, some_in}
use Rattle.sets.specs.Bits.{non_empty}
use Rattle.sets.proofs.Quantifiers.{not_less, and_left, and_right, every_list}
use Rattle.sets.proofs.Lists.{all_snoc, apart_snoc, some_alike}
use Rattle.sets.proofs.Keep.{keep_short, keep_all, all_keep, pairwise_keep}
use Rattle.directive.specs.declared.Directive.{Directive}
use Rattle.drafts.specs.declared.Draft.{Draft}
use Rattle.drafts.specs.Form.{directive_of}
use Rattle.drafts.proofs.FormLaws.{Widths, draft_formed}
use Rattle.validation_meaning.specs.Meaning.{conflict}
use Rattle.validation_meaning.specs.Judgement.{meant}
use Rattle.validation_meaning.proofs.ConflictLaws.{conflict_sym, conflict_later}
use Rattle.validation_meaning.proofs.BaselineLaws.{baseline_later}
use Rattle.emergency.specs.declared.Token.{Token}
use Rattle.emergency.specs.Tokens.{token_places}
use Rattle.ledger_model.specs.Model.{Model}
use Rattle.ledger_model.specs.Answer.{done}
use Rattle.ledger_model.specs.Questions.{Question, passes, directive_questions, draft_questions, revoke_questions, advance_questions, live_tokens, last_minute, issue_questions}
use Rattle.ledger_model.specs.Calls.{with_last, admitted_by, admitted, committed_draft_by, committed_draft, after_revoke, revoked, after_advance, advanced, after_issue, issued}
use Rattle.ledger_model.specs.Invariant.{stands, token_stands, ModelInvariant}
use Rattle.ledger_model.proofs.Questions.{outcome_by}
use Rattle.ledger_model.proofs.Passed.{Passed, passed_read, passes_draft}

-- what ends after t ends after an earlier minute too
ends_later : (clock t until : ℕ) → clock ≤ t → not (leb until t) ≡ true → ltb t until ≡ ltb clock until
ends_later clock t until before kept =
    let after = leb-false until t (not-true _ kept) in
    lt-ltb t until after ∙ sym (lt-ltb clock until (omega arith))

module _ (m : Model) (h : ModelInvariant m) where
  -- every token is live
  pub live_all : live_tokens m ≡ m.tokens
  live_all =
      keep_all _ m.tokens
      ((every_list m.tokens).make _ λ t i.
      let sound = (every_list m.tokens).read _ h.tokens_live t i in search (and_left, and_right))

  -- one active directive more, of a draft that passes questions 7 to 13
  pub sound_passed : (s : Draft) → Widths s → Passed meant m s → ModelInvariant (with_last m (directive_of s))
  sound_passed s wide passed =
      let d = directive_of s in
      let clash = conflict m.register m.clock in
      let sym_clash = conflict_sym m.register m.clock in
      let clear_back = some_alike (λ e. clash e d) (clash d) m.active (λ e _. sym_clash e d) ∙ passed.clear in
      record {
        patient_in = h.patient_in;
        clock_in = h.clock_in;
        register = h.register;
        active_few = rw length-append (omega (arith, passed.room));
        active_stand =
            all_snoc (stands m) m.active d h.active_stand
            (rw (draft_formed s wide passed.ranges, passed.there, passed.minutes));
        active_differ = apart_snoc (λ d e. eqb d.number e.number) m.active d h.active_differ passed.free;
        baseline_kept = all_snoc _ m.active d h.baseline_kept (rw passed.spared);
        no_clash = apart_snoc clash m.active d h.no_clash clear_back;
        tokens_few = h.tokens_few;
        tokens_live = h.tokens_live;
        tokens_differ = h.tokens_differ;
      }

  -- a refusal leaves the model as it was
  sound_either :
      (qs : List Question) (after : Model) → (passes qs ≡ true → ModelInvariant after) → ModelInvariant (pick (passes qs) after m)
  sound_either qs after f =
      outcome_by (λ o. ModelInvariant o.model) qs m (record { answer = done []; model = after }) f (λ _ _. h)

  pub sound_admit : (s : Draft) → Widths s → ModelInvariant (admitted m s).model
  unfolding admitted_by
  sound_admit s wide =
      sound_either (directive_questions meant m s) (with_last m (directive_of s)) λ passed.
      sound_passed s wide (passed_read meant m s passed)

  pub sound_commit_draft : (s : Draft) → Widths s → ModelInvariant (committed_draft m s).model
  unfolding committed_draft_by
  sound_commit_draft s wide =
      sound_either (draft_questions meant m s) (with_last m (directive_of s)) λ passed.
      sound_passed s wide (passed_read meant m s (and_left _ _ (rw passes_draft at passed)))

  pub sound_revoke : (n : ℕ) → ModelInvariant (revoked m n).model
  unfolding revoked
  sound_revoke n =
      let others : Directive → Bool = λ d. not (eqb d.number n) in
      sound_either (revoke_questions m n) (after_revoke m n) λ _.
      record {
        patient_in = h.patient_in;
        clock_in = h.clock_in;
        register = h.register;
        active_few = omega (arith, keep_short others m.active, h.active_few);
        active_stand = all_keep others _ _ (λ _ _ e. e) m.active h.active_stand;
        active_differ = pairwise_keep others _ _ (λ _ _ e. e) m.active h.active_differ;
        baseline_kept = all_keep others _ _ (λ _ _ e. e) m.active h.baseline_kept;
        no_clash = pairwise_keep others _ _ (λ _ _ e. e) m.active h.no_clash;
        tokens_few = h.tokens_few;
        tokens_live = h.tokens_live;
        tokens_differ = h.tokens_differ;
      }

  pub sound_advance : (t : ℕ) → t < 2 ^ 32 → ModelInvariant (advanced m t).model
  unfolding advanced all_in
  sound_advance t small =
      sound_either (advance_questions m t) (after_advance m t) λ passed.
      let before = leb-true m.clock t (and_left _ _ passed) in
      let standing : Directive → Bool = λ d. not (leb d.until t) in
      let living : Token → Bool = λ k. not (leb k.until t) in
      record {
        patient_in = h.patient_in;
        clock_in = lt-ltb t (2 ^ 32) small;
        register = h.register;
        active_few = omega (arith, keep_short standing m.active, h.active_few);
        active_stand =
            all_keep standing (stands m) _ (λ d kept e. rw (ends_later m.clock t d.until before kept) e)
            m.active h.active_stand;
        active_differ = pairwise_keep standing _ _ (λ _ _ e. e) m.active h.active_differ;
        baseline_kept =
            all_keep standing _ _
            (λ d _. not_less _ _ (baseline_later m.register m.patient m.clock t d before))
            m.active h.baseline_kept;
        no_clash =
            pairwise_keep standing _ _
            (λ d e. not_less _ _ (conflict_later m.register m.clock t d e before))
            m.active h.no_clash;
        tokens_few = omega (arith, keep_short living m.tokens, h.tokens_few);
        tokens_live =
            all_keep living (token_stands m.clock) _ (λ k kept e. rw (ends_later m.clock t k.until before kept) e)
            m.tokens h.tokens_live;
        tokens_differ = pairwise_keep living _ _ (λ _ _ e. e) m.tokens h.tokens_differ;
      }

  pub sound_issue :
      (n p states minutes : ℕ) → n < 2 ^ 16 → p < 2 ^ 16 → states < 2 ^ 8 → ModelInvariant (issued m n p states minutes).model
  unfolding issued all_in
  sound_issue n p states minutes wide_n wide_p wide_states =
      sound_either (issue_questions m n states minutes) (after_issue m n p states minutes) λ asked.
      let passed = rw live_all at asked in
      let until = m.clock + minutes in
      let some_states : non_empty states ≡ true = search and_left in
      let least = leb-true 1 minutes (search (and_left, and_right)) in
      let most = leb-true until last_minute (search (and_left, and_right)) in
      let room = ltb-true (length m.tokens) token_places (search (and_left, and_right)) in
      let k : Token = record { number = n; person = p; states = states; until = until } in
      record {
        patient_in = h.patient_in;
        clock_in = h.clock_in;
        register = h.register;
        active_few = h.active_few;
        active_stand = h.active_stand;
        active_differ = h.active_differ;
        baseline_kept = h.baseline_kept;
        no_clash = h.no_clash;
        tokens_few = rw length-append (omega arith);
        tokens_live =
            all_snoc (token_stands m.clock) m.tokens k h.tokens_live
            (rw (
              lt-ltb m.clock until (omega arith),
              lt-ltb n (2 ^ 16) wide_n,
              lt-ltb p (2 ^ 16) wide_p,
              some_states,
              lt-ltb states (2 ^ 8) wide_states,
              lt-ltb until (2 ^ 32) (omega arith),
            ));
        tokens_differ =
            apart_snoc (λ t k. eqb t.number k.number) m.tokens k h.tokens_differ
            (not-true (some_in (λ t. eqb t.number n) m.tokens) (search (and_left, and_right)));
      }
