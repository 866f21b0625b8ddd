-- "Reading never puts question 14": every question of a card has a number up to 13, and a refusal has a question's number.
use Prim.Native.Nat.{ℕ, zero, suc}
use mathlib.Core.Path.{◌≡◌, refl, ap₂, ◌∙◌}
use mathlib.Core.Bool.{Bool, true, false, ◌&&◌}
use mathlib.Core.Logic.{⊎_elim}
use mathlib.Core.List.{List, [], ◌++◌}
use native.Mathlib.Omega.{arith}
use borrow.Author.Tests.{leb-true}
use lib.ListN.{length}
use lib.Dec.{leb}
use Rattle.sets.specs.Quantifiers.{pick, all_in}
use Rattle.sets.proofs.Quantifiers.{every_list}
use Rattle.sets.proofs.Lists.{all_append}
use Rattle.validation_meaning.specs.Judgement.{Judgement, meant}
use Rattle.ledger_model.specs.Answer.{done, refusal}
use Rattle.ledger_model.specs.Questions.{Question, directive_questions}
use Rattle.ledger_model.proofs.Questions.{first_of}
use Rattle.card.specs.Grammar.{Tag, head, roles, item, directive, other, field_tag, field_value, after_field}
use Rattle.card.specs.Reading.{Progress, nothing_read, is_empty, value_questions, field_questions, with_field, end_questions, questions_from, card_questions, reading}

abbrev up_to13 : Question → Bool
up_to13 q = leb q.number 13

value_up_to_13 : (j : Judgement) (p : Progress) (t : Tag) (v : List ℕ) → all_in up_to13 (value_questions j p t v) ≡ true
unfolding all_in directive_questions
value_up_to_13 j p head v = refl
value_up_to_13 j p roles v = refl
value_up_to_13 j p item v = refl
value_up_to_13 j p directive v = refl
value_up_to_13 j p other v = refl

field_up_to_13 : (j : Judgement) (p : Progress) (s : List ℕ) → all_in up_to13 (field_questions j p s) ≡ true
unfolding all_in field_questions
field_up_to_13 j p s = value_up_to_13 j p (field_tag s) (field_value s)

pub questions_up_to_13 : (j : Judgement) (n : ℕ) (p : Progress) (s : List ℕ) → all_in up_to13 (questions_from j n p s) ≡ true
unfolding all_in questions_from
questions_up_to_13 j zero p s = refl
questions_up_to_13 j (suc n) p s =
    let rest = questions_from j n (with_field p (field_tag s) (field_value s)) (after_field s) in
    elim (is_empty s) as (λ b. all_in up_to13 (pick b (end_questions p) (field_questions j p s ++ rest)) ≡ true) [
      | true ↦ refl
      | false ↦
          all_append up_to13 (field_questions j p s) rest
          ∙ ap₂ ◌&&◌ (field_up_to_13 j p s) (questions_up_to_13 j n _ (after_field s))
    ]

pub never_fourteen : (s : List ℕ) → refusal (reading s).answer ≡ 14 → ⊥
never_fourteen s e =
    ⊎_elim
    (λ same. omega (arith, rw same at e))
    (λ by.
    let (q, i, refuses) = by in
    let all_low = questions_up_to_13 meant (length s) nothing_read s in
    let low = leb-true q.number 13 ((every_list (card_questions s)).read up_to13 all_low q i) in
    omega (arith, rw refuses at e))
    (first_of (card_questions s) (done []))
