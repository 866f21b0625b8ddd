-- A preview equals a commit on a copy and the decisions before and after it.
use Prim.Native.Nat.{ℕ, ◌≤◌}
use mathlib.Core.Path.{◌≡◌, sym, ap, ap₂, ◌∙◌}
use mathlib.Core.Bool.{Bool, true, false}
use mathlib.Core.Logic.{⊎_elim}
use mathlib.Core.List.{[], ◌∷◌}
use borrow.Author.Tests.{le-ltb}
use lib.ListN.{length}
use Rattle.sets.specs.Quantifiers.{count_below}
use Rattle.sets.specs.RecordSets.{word_of, marked}
use Rattle.sets.proofs.Quantifiers.{either_way}
use Rattle.sets.proofs.Ranges.{count_up_to}
use Rattle.sets.proofs.WordLaws.{marked_count}
use Rattle.register.specs.Records.{has_record}
use Rattle.directive.specs.declared.Requester.{Requester}
use Rattle.ledger_model.specs.Answer.{done, accepted}
use Rattle.ledger_model.specs.Model.{Model}
use Rattle.ledger_model.specs.Questions.{first_no}
use Rattle.ledger_model.specs.Calls.{committed}
use Rattle.ledger_model.specs.Preview.{is_change, decision_changes}
use Rattle.ledger_model.proofs.PreviewLaws.{changed_outside, preview_accepted, preview_refused, committed_last}
use Rattle.ledger.specs.declared.Ledger.{Ledger}
use Rattle.ledger.specs.State.{view}
use Rattle.ledger.specs.Invariant.{Invariant}
use Rattle.ledger.specs.Answer.{DecideAnswer, commit_answer}
use Rattle.ledger.proofs.CallLaws.{records_few}
use Rattle.demands.specs.Foresight.{records_of, DecidesAll, answers_change, Foresight}
use Rattle.demands.proofs.Runs.{meant_sound}

-- where no number from n on passes, the count of set bits is that of the numbers below n that pass
marked_below :
    (p : ℕ → Bool) (n : ℕ) → n ≤ 128 → ((x : ℕ) → n ≤ x → p x ≡ false) →
    marked p ≡ word_of p 0 ∷ word_of p 1 ∷ count_below n p ∷ []
marked_below p n few none =
    ap (λ (k : ℕ). word_of p 0 ∷ word_of p 1 ∷ k ∷ []) (marked_count p ∙ count_up_to p n 128 few none)

module _ (l after : Ledger) (w : Requester) (a b : ℕ → DecideAnswer) (before : Invariant l) (still : Invariant after)
    (same : records_of after ≡ records_of l) (here : DecidesAll l w a) (there : DecidesAll after w b)
  where
    -- what the model's decisions say is what the program's answers say
    as_answered : (x : ℕ) → decision_changes (view l) (view after) w x ≡ answers_change l a b x
    unfolding decision_changes
    as_answered x =
        ⊎_elim
        (λ (e : has_record (records_of l) x ≡ true).
        rw e (ap₂ is_change (sym (here x e before)) (sym (there x (rw same e) still))))
        (λ (e : has_record (records_of l) x ≡ false). changed_outside (view l) (view after) w x e ∙ rw e)
        (either_way (has_record (records_of l) x))

    shown_as_answered :
        marked (decision_changes (view l) (view after) w)
        ≡ word_of (answers_change l a b) 0 ∷ word_of (answers_change l a b) 1 ∷ count_below (length (records_of l)) (answers_change l a b) ∷ []
    shown_as_answered =
        ap marked (λ i x. as_answered x i)
        ∙ marked_below (answers_change l a b) (length (records_of l)) (records_few before.shape)
        (λ x past. rw (le-ltb x (length (records_of l)) past))

pub foresight : Foresight
unfolding first_no
foresight l s w r p reach bytes commits previews =
    let before = meant_sound l reach in
    let given = commits before in
    let answer = previews.answer before in
    let accepts : accepted (commit_answer r.answer) ≡ true → accepted (committed (view l) s).answer ≡ true = λ e. ap accepted (sym given.answer) ∙ e in
    record {
      shown = λ e inside a b here there.
          answer
          ∙ preview_accepted (view l) s w (accepts e)
          ∙ rw (inside, ← given.ledger)
          (ap done
          (shown_as_answered l r.ledger w a b before given.invariant
          (ap (λ (m : Model). m.register.records) (given.ledger ∙ committed_last (view l) s (accepts e)))
          here
          there));
      draft_refused = λ e. answer ∙ sym (preview_refused (view l) s w given.answer e);
      requester_refused = λ e out. answer ∙ preview_accepted (view l) s w (accepts e) ∙ rw out;
      handed_back = previews.ledger;
    }
