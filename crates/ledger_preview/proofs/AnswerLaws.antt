-- A preview's answer by the commit's.
use Prim.Native.Nat.{ℕ}
use mathlib.Core.Path.{◌≡◌, refl, sym, ap, ◌∙◌}
use mathlib.Core.Bool.{Bool, true, false, beq}
use mathlib.Core.List.{List}
use lib.Dec.{eqb}
use Rattle.std.specs.Prelude.{Ok, Err}
use Rattle.std.specs.Result.{IsErrAnd}
use Rattle.std.proofs.lemmas.Result.{err_from_is_err_and}
use Rattle.sets.specs.Quantifiers.{one_if}
use Rattle.directive.specs.declared.Requester.{Requester}
use Rattle.ledger_model.specs.Answer.{accepted}
use Rattle.ledger_model.specs.Model.{Model}
use Rattle.ledger_model.specs.Calls.{drafted, committed}
use Rattle.ledger_model.specs.Preview.{compared_for}
use Rattle.ledger_model.proofs.PreviewLaws.{preview_accepted, committed_last, preview_refused}
use Rattle.ledger.specs.declared.Ledger.{Ledger}
use Rattle.ledger.specs.declared.answer.CommitRefusal.{CommitRefusal}
use Rattle.ledger.specs.State.{view}
use Rattle.ledger.specs.Answer.{CommitAnswer, commit_answer}
use Rattle.ledger.specs.Promises.{after as after_of, Commits}
use Rattle.ledger.proofs.AdmitLaws.{not_committed}
use Rattle.ledger_preview.specs.declared.PreviewRefusal.TheVariants.{Commit}
use Rattle.ledger_preview.specs.Answer.{PreviewAnswer}
use Rattle.ledger_preview.specs.Promises.{Compares, Previews}

-- two effects are the same where their numbers are
pub same_effect_lem : (a b : Bool) → beq a b ≡ eqb (one_if a) (one_if b)
same_effect_lem true true = refl
same_effect_lem true false = refl
same_effect_lem false true = refl
same_effect_lem false false = refl

module _ {l after : Ledger} {s : List ℕ} {w : Requester} {a : CommitAnswer} {b : PreviewAnswer} where
  -- a draft that commit refuses
  pub refused_alike :
      {x : CommitRefusal} → a ≡ Err x → Commits l s (after_of a after) → IsErrAnd b (λ e. e ≡ Commit x) →
      Previews l s w (after_of b l)
  refused_alike {x} is commits given =
      let e = err_from_is_err_and b given in
      record {
        answer = λ invariant.
            rw (e.1, e.2)
            (preview_refused (view l) s w (ap commit_answer (sym is) ∙ (commits invariant).answer) (not_committed x));
        ledger = refl;
      }

  -- a draft that commit accepts
  pub compares : a ≡ Ok tt → Commits l s (after_of a after) → Compares l after w b → Previews l s w (after_of b l)
  compares is commits compared =
      record {
        answer = λ invariant.
            let given = commits invariant in
            let passed : accepted (committed (view l) s).answer ≡ true =
            ap accepted (sym given.answer ∙ ap commit_answer is) in
            compared invariant given.invariant (drafted s) (given.ledger ∙ committed_last (view l) s passed)
            ∙ ap (λ (m : Model). compared_for (view l) m w) given.ledger
            ∙ sym (preview_accepted (view l) s w passed);
        ledger = refl;
      }
