-- Demand 1: a call that meets its questions gets the result of document 01, and any other the first question that it misses.
use Prim.Native.Nat.{ℕ}
use mathlib.Core.Path.{◌≡◌, refl, ap, ◌∙◌}
use mathlib.Core.Bool.{true}
use mathlib.Core.List.{List}
use Rattle.ledger.specs.declared.Ledger.{Ledger}
use Rattle.ledger_model.specs.Model.{Model}
use Rattle.ledger_model.specs.Answer.{Answer, done, refused, accepted}
use Rattle.ledger_model.specs.Questions.{Question, first_no, passes, outcome}
use Rattle.ledger_model.specs.Calls.{committed_by, revoked, advanced, issued, decided, briefed}
use Rattle.ledger_model.specs.Preview.{previewed}
use Rattle.ledger.specs.Promises.{Gives}
use Rattle.ledger_model.proofs.Questions.{first_passed}
use Rattle.card.specs.Writing.{writing, buffered}
use Rattle.demands.specs.Demands.{FirstMissed, Answered, Succeeds, Demand1}
use Rattle.demands.proofs.Passing.{first_missed, missed_fails}
use Rattle.demands.proofs.Runs.{meant_sound}

-- the answer is the one after the questions or their first "no", and a refusal hands back what was handed in
module _ {S : Type 0} {qs : List Question} {met : Answer → S → Type 0} {before after : S} {a : Answer} where
  answered :
      (o : Answer) → a ≡ first_no qs o → (passes qs ≡ true → a ≡ o → met a after) →
      ((q : Question) → FirstMissed qs q → a ≡ refused q.number q.adds → after ≡ before) →
      Answered qs met before a after
  answered o e f g =
      record {
        result = λ passed. f passed (e ∙ first_passed qs o passed);
        missed = λ q first. let refuses = e ∙ first_missed first o in (refuses, g q first refuses);
      }

gives_answered :
    {l after : Ledger} {m : Model} {qs : List Question} {vs : List ℕ} {a : Answer} (kept : Model) →
    Gives l (outcome qs kept (record { answer = done vs; model = m })) a after → Answered qs (Succeeds vs m) l a after
gives_answered {vs} kept h =
    answered (done vs) h.answer
    (λ passed same. (same, h.ledger ∙ rw passed))
    (λ q _ refuses. h.unchanged (ap accepted refuses))

pub demand1 : Demand1
unfolding committed_by revoked advanced issued decided briefed previewed writing buffered
demand1 =
    record {
      read = λ card r e gives. gives_answered _ gives;
      commit = λ l s r k e gives. gives_answered _ (gives (meant_sound l k));
      revoke = λ l n r k gives. gives_answered _ (gives (meant_sound l k));
      advance = λ l t r k gives. gives_answered _ (gives (meant_sound l k));
      issue = λ l n p states minutes r k gives. gives_answered _ (gives (meant_sound l k));
      decide = λ l q a k gives. answered _ (gives (meant_sound l k)) (λ _ same. same) (λ _ _ _. refl);
      brief = λ l n p a k gives. answered _ (gives (meant_sound l k)) (λ _ same. same) (λ _ _ _. refl);
      write = λ l before a after k gives.
          let fills = gives (meant_sound l k) in
          answered _ fills.answer
          (λ passed same. (same, fills.buffer ∙ rw passed))
          (λ q first _. fills.buffer ∙ rw (missed_fails first));
      preview = λ l s w r k e gives.
          answered _ (gives.answer (meant_sound l k)) (λ _ same. (same, gives.ledger)) (λ _ _ _. gives.ledger);
    }
