-- One step of reading a card. Any fuel that is enough gives the same, a field's questions come before those of the rest, and a
-- field that passes leaves the outcome to the rest.
use Prim.Native.Nat.{ℕ, zero, suc, ◌+◌, ◌<◌, ◌≤◌}
use mathlib.Core.Path.{◌≡◌, refl, sym, ap, ◌∙◌}
use mathlib.Core.Bool.{true, false}
use mathlib.Core.List.{List, [], ◌∷◌, ◌++◌}
use native.Mathlib.Omega.{arith}
use lib.ListN.{length, length-drop}
use lib.Dec.{eqb-suc-zero}
use Rattle.sets.specs.Quantifiers.{pick}
use Rattle.validation_meaning.specs.Judgement.{Judgement}
use Rattle.ledger_model.specs.Model.{empty_model}
use Rattle.ledger_model.specs.Answer.{done}
use Rattle.ledger_model.specs.Questions.{first_no, passes, Outcome, outcome}
use Rattle.ledger_model.proofs.Questions.{outcome_passed, outcome_missed, outcome_append}
use Rattle.card.specs.Grammar.{field_tag, value_size, field_value, after_field}
use Rattle.card.specs.Reading.{Progress, is_empty, field_questions, with_field, end_questions, questions_from, read_from}

-- what was read with the field at the start of s
abbrev pub next : Progress → List ℕ → Progress
next p s = with_field p (field_tag s) (field_value s)

-- What goes through a card field by field, with one step of fuel a field: `finish` at the end, `more` at a field.
record Walks {R : Type 0} (walk : ℕ → Progress → List ℕ → R) (finish : Progress → R) (more : Progress → List ℕ → R → R) :
    Type 0 where
  enough : (n : ℕ) (p : Progress) (s : List ℕ) → length s ≤ n → walk n p s ≡ walk (length s) p s
  at_end : (p : Progress) (s : List ℕ) → length s ≡ 0 → walk (length s) p s ≡ finish p
  at_field :
      (p : Progress) (s : List ℕ) → 0 < length s →
      walk (length s) p s ≡ more p s (walk (length (after_field s)) (next p s) (after_field s))

-- a field has three bytes or more
pub shorter : (x : ℕ) (s : List ℕ) → length (after_field (x ∷ s)) ≤ length s
shorter x s = rw (length-drop (3 + value_size (x ∷ s)) (x ∷ s)) (omega arith)

module _ {R : Type 0} (walk : ℕ → Progress → List ℕ → R) (finish : Progress → R) (more : Progress → List ℕ → R → R)
    (first : (p : Progress) (s : List ℕ) → walk zero p s ≡ finish p)
    (then : (n : ℕ) (p : Progress) (s : List ℕ) →
    walk (suc n) p s ≡ pick (is_empty s) (finish p) (more p s (walk n (next p s) (after_field s)))) where
  none : (n : ℕ) (p : Progress) → walk n p [] ≡ finish p
  none zero p = first p []
  none (suc n) p = then n p []

  some :
      (n x : ℕ) (p : Progress) (s : List ℕ) →
      walk (suc n) p (x ∷ s) ≡ more p (x ∷ s) (walk n (next p (x ∷ s)) (after_field (x ∷ s)))
  some n x p s = then n p (x ∷ s) ∙ rw (eqb-suc-zero (length s))

  same : (n k : ℕ) (p : Progress) (s : List ℕ) → length s ≤ n → length s ≤ k → walk n p s ≡ walk k p s
  same zero k p [] h l = none zero p ∙ sym (none k p)
  same zero k p (x ∷ s) h l = absurd (omega arith)
  same (suc n) k p [] h l = none (suc n) p ∙ sym (none k p)
  same (suc n) zero p (x ∷ s) h l = absurd (omega arith)
  same (suc n) (suc k) p (x ∷ s) h l =
      let short = shorter x s in
      some n x p s
      ∙ ap (more p (x ∷ s)) (same n k (next p (x ∷ s)) (after_field (x ∷ s)) (omega arith) (omega arith))
      ∙ sym (some k x p s)

  field :
      (p : Progress) (s : List ℕ) → 0 < length s →
      walk (length s) p s ≡ more p s (walk (length (after_field s)) (next p s) (after_field s))
  field p [] h = absurd (omega arith)
  field p (x ∷ s) h =
      some (length s) x p s
      ∙ ap (more p (x ∷ s)) (same _ _ (next p (x ∷ s)) (after_field (x ∷ s)) (shorter x s) (omega arith))

  walks : Walks walk finish more
  walks =
      record {
        enough = λ n p s h. same n (length s) p s h (omega arith);
        at_end = λ p s e. rw e (first p s);
        at_field = field;
      }

module _ (j : Judgement) where
  asking : Walks (questions_from j) end_questions (λ p s rest. field_questions j p s ++ rest)
  unfolding questions_from
  asking = walks _ _ _ (λ p s. refl) (λ n p s. refl)

  pub questions_enough :
      (n : ℕ) (p : Progress) (s : List ℕ) → length s ≤ n → questions_from j n p s ≡ questions_from j (length s) p s
  questions_enough = asking.enough

  pub questions_end : (p : Progress) (s : List ℕ) → length s ≡ 0 → questions_from j (length s) p s ≡ end_questions p
  questions_end = asking.at_end

  pub questions_field :
      (p : Progress) (s : List ℕ) → 0 < length s →
      questions_from j (length s) p s
      ≡ field_questions j p s ++ questions_from j (length (after_field s)) (next p s) (after_field s)
  questions_field = asking.at_field

reads : Walks read_from (λ p. p) (λ p s rest. rest)
unfolding read_from
reads = walks _ _ _ (λ p s. refl) (λ n p s. refl)

pub read_enough : (n : ℕ) (p : Progress) (s : List ℕ) → length s ≤ n → read_from n p s ≡ read_from (length s) p s
read_enough = reads.enough

pub read_end : (p : Progress) (s : List ℕ) → length s ≡ 0 → read_from (length s) p s ≡ p
read_end = reads.at_end

pub read_field :
    (p : Progress) (s : List ℕ) → 0 < length s →
    read_from (length s) p s ≡ read_from (length (after_field s)) (next p s) (after_field s)
read_field = reads.at_field

-- the outcome of what is left, after p was read
abbrev pub outcome_from : Judgement → Progress → List ℕ → Outcome
outcome_from j p s =
    outcome (questions_from j (length s) p s) empty_model
    (record { answer = done []; model = (read_from (length s) p s).model })

module _ (j : Judgement) (p : Progress) (s : List ℕ) where
  pub outcome_end :
      length s ≡ 0 →
      outcome_from j p s ≡ outcome (end_questions p) empty_model (record { answer = done []; model = p.model })
  outcome_end e = rw (questions_end j p s e, read_end p s e)

  outcome_field :
      0 < length s →
      outcome_from j p s ≡ outcome (field_questions j p s) empty_model (outcome_from j (next p s) (after_field s))
  outcome_field h = rw (questions_field j p s h, read_field p s h) (outcome_append (field_questions j p s) _ empty_model _)

  -- where the field's questions are passed, the outcome is that of the rest; where not, it is their first "no" and nothing read
  pub field_passed :
      0 < length s → passes (field_questions j p s) ≡ true → outcome_from j p s ≡ outcome_from j (next p s) (after_field s)
  field_passed h e = outcome_field h ∙ outcome_passed (field_questions j p s) empty_model _ e

  pub field_missed :
      0 < length s → passes (field_questions j p s) ≡ false →
      outcome_from j p s ≡ record { answer = first_no (field_questions j p s) (done []); model = empty_model }
  field_missed h e = outcome_field h ∙ outcome_missed (field_questions j p s) empty_model _ (done []) e
