-- Laws of lists of questions: what the first "no" is, the outcome by it, and two lists that are answered alike.
use Prim.Native.Nat.{ℕ}
use mathlib.Core.Path.{◌≡◌, refl, sym, ap, ◌∙◌}
use mathlib.Core.Bool.{Bool, true, false, ◌&&◌}
use mathlib.Core.Logic.{◌⊎◌, inl, inr, ⊎_elim}
use mathlib.Core.List.{List, [], ◌∷◌, ◌++◌, Memᴰ}
use Rattle.sets.specs.Quantifiers.{pick, all_in}
use Rattle.sets.proofs.Quantifiers.{either_way, both_ways, and_both, and_where}
use Rattle.sets.proofs.Lists.{all_append}
use Rattle.ledger_model.specs.Model.{Model}
use Rattle.ledger_model.specs.Answer.{Answer, done, refused, accepted}
use Rattle.ledger_model.specs.Questions.{Question, first_no, passes, Outcome, outcome}

pub first_append : (qs rs : List Question) (a : Answer) → first_no (qs ++ rs) a ≡ first_no qs (first_no rs a)
unfolding first_no
first_append [] rs a = refl
first_append (q ∷ qs) rs a = rw (first_append qs rs a)

pub passes_append : (qs rs : List Question) → passes (qs ++ rs) ≡ passes qs && passes rs
passes_append qs rs = all_append (λ q. q.holds) qs rs

-- what comes after the questions counts only where they are passed, in all that f tells of an answer
module _ {B : Type 0} (f : Answer → B) where
  pick_where : (b : Bool) (x y z : Answer) → (b ≡ true → f x ≡ f y) → f (pick b x z) ≡ f (pick b y z)
  pick_where true x y z g = g refl
  pick_where false x y z g = refl

  pub told_where :
      (qs : List Question) (a b : Answer) → (passes qs ≡ true → f a ≡ f b) → f (first_no qs a) ≡ f (first_no qs b)
  unfolding first_no all_in
  told_where [] a b g = g refl
  told_where (q ∷ qs) a b g = pick_where q.holds _ _ _ (λ e. told_where qs a b (λ r. g (rw (e, r))))

pub first_where : (qs : List Question) (a b : Answer) → (passes qs ≡ true → a ≡ b) → first_no qs a ≡ first_no qs b
first_where = told_where (λ a. a)

pub first_passed : (qs : List Question) (a : Answer) → passes qs ≡ true → first_no qs a ≡ a
unfolding first_no all_in
first_passed [] a e = refl
first_passed (q ∷ qs) a e = let (now, rest) = and_both q.holds _ e in rw (now, first_passed qs a rest)

-- a success after the questions is the answer where they are passed
pub first_accepted : (qs : List Question) → accepted (first_no qs (done [])) ≡ passes qs
unfolding first_no all_in
first_accepted [] = refl
first_accepted (q ∷ qs) =
    ⊎_elim
    (λ (e : q.holds ≡ true). rw e (first_accepted qs))
    (λ (e : q.holds ≡ false). rw e)
    (either_way q.holds)

-- the answer is the one after the questions, or a refusal by one of them
pub first_of :
    (qs : List Question) (a : Answer) →
    (first_no qs a ≡ a) ⊎ ((q : Question) × Memᴰ q qs × (first_no qs a ≡ refused q.number q.adds))
unfolding first_no
first_of [] a = inl refl
first_of (q ∷ qs) a =
    ⊎_elim
    (λ e.
    ⊎_elim
    (λ same. inl (rw e same))
    (λ by. inr (by.0, Memᴰ.tail by.1, rw e by.2))
    (first_of qs a))
    (λ e. inr (q, Memᴰ.head refl, rw e))
    (either_way q.holds)

-- what holds of the outcome where the questions are passed, and of every refusal with the model as it was, holds of the
-- outcome
pub outcome_by :
    (P : Outcome → Type 0) (qs : List Question) (m : Model) (o : Outcome) →
    (passes qs ≡ true → P o) → ((n : ℕ) (vs : List ℕ) → P (record { answer = refused n vs; model = m })) →
    P (outcome qs m o)
unfolding first_no all_in
outcome_by P [] m o f g = f refl
outcome_by P (q ∷ qs) m o f g =
    ⊎_elim
    (λ (e : q.holds ≡ true). rw e (outcome_by P qs m o (λ r. f (rw (e, r))) g))
    (λ (e : q.holds ≡ false). rw e (g q.number q.adds))
    (either_way q.holds)

-- the outcome of questions that are passed, and of questions that are not
pub outcome_passed : (qs : List Question) (m : Model) (o : Outcome) → passes qs ≡ true → outcome qs m o ≡ o
outcome_passed qs m o e = rw (first_passed qs o.answer e, e)

pub outcome_missed :
    (qs : List Question) (m : Model) (o : Outcome) (a : Answer) → passes qs ≡ false →
    outcome qs m o ≡ record { answer = first_no qs a; model = m }
outcome_missed qs m o a e = rw (first_where qs o.answer a (λ t. both_ways t e), e)

-- the same, told by the answer a that the questions give before a success
module _ (qs : List Question) (m : Model) (o : Outcome) {a : Answer} (e : a ≡ first_no qs (done [])) where
  pub outcome_accepted : accepted a ≡ true → outcome qs m o ≡ o
  outcome_accepted t = outcome_passed qs m o (sym (first_accepted qs) ∙ ap accepted (sym e) ∙ t)

  pub outcome_refused : accepted a ≡ false → outcome qs m o ≡ record { answer = a; model = m }
  outcome_refused f =
      rw e (outcome_missed qs m o (done []) (sym (first_accepted qs) ∙ ap accepted (sym e) ∙ f))

-- the outcome of more questions after the first ones
pub outcome_append :
    (qs rs : List Question) (m : Model) (o : Outcome) → outcome (qs ++ rs) m o ≡ outcome qs m (outcome rs m o)
outcome_append qs rs m o =
    rw (first_append qs rs o.answer, passes_append qs rs, both (passes qs) (passes rs))
  where
    both : (a b : Bool) → pick (a && b) o.model m ≡ pick a (pick b o.model m) m
    both true b = refl
    both false b = refl

-- Whatever comes after them, both lists are answered alike.
pub record Alike (qs rs : List Question) : Type 0 where
  pub answer : (a : Answer) → first_no qs a ≡ first_no rs a
  pub passed : passes qs ≡ passes rs

pub alike_same : {qs rs : List Question} → qs ≡ rs → Alike qs rs
alike_same e = record { answer = λ a. rw e; passed = rw e }

-- later questions count only where the earlier ones are passed
pub alike_append :
    {qs rs us vs : List Question} → Alike qs rs → (passes qs ≡ true → Alike us vs) → Alike (qs ++ us) (rs ++ vs)
alike_append {qs} {rs} {us} {vs} h f =
    record {
      answer = λ a.
          first_append qs us a
          ∙ first_where qs _ _ (λ e. (f e).answer a)
          ∙ h.answer (first_no vs a)
          ∙ sym (first_append rs vs a);
      passed =
          passes_append qs us
          ∙ and_where (passes qs) _ _ (λ e. (f e).passed)
          ∙ ap (◌&& passes vs) h.passed
          ∙ sym (passes_append rs vs);
    }

pub alike_outcome :
    {qs rs : List Question} → Alike qs rs → (m : Model) (o : Outcome) → outcome qs m o ≡ outcome rs m o
alike_outcome h m o = rw (h.answer o.answer, h.passed)
