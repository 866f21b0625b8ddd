-- A card that is accepted, field by field: each field passes its questions after those before it, and the end passes too.
use Prim.Native.Nat.{ℕ, zero, suc, ◌<◌, ◌≤◌}
use mathlib.Core.Path.{◌≡◌, refl, sym, ap, ◌∙◌}
use mathlib.Core.Bool.{true}
use mathlib.Core.List.{List, [], ◌∷◌}
use native.Mathlib.Omega.{arith}
use lib.ListN.{length}
use Rattle.sets.specs.Quantifiers.{all_in}
use Rattle.sets.proofs.Quantifiers.{and_both}
use Rattle.validation_meaning.specs.Judgement.{meant}
use Rattle.ledger_model.specs.Questions.{passes}
use Rattle.ledger_model.proofs.Questions.{passes_append}
use Rattle.card.specs.Grammar.{field_tag, field_value, after_field, stands_whole}
use Rattle.card.specs.Reading.{Progress, has_place, value_questions, field_questions, end_questions, questions_from, read_from}
use Rattle.card.proofs.Step.{next, shorter, questions_field, read_field}
use Rattle.card.proofs.Fields.{three_bytes}

-- After p was read, the rest s of the card passes its questions, and with it q is read.
pub data Accepted : Progress → List ℕ → Progress → Type 0 where
  ended : {p : Progress} → passes (end_questions p) ≡ true → Accepted p [] p
  one_more :
      {q : Progress} (p : Progress) (s : List ℕ) → passes (field_questions meant p s) ≡ true →
      Accepted (next p s) (after_field s) q → Accepted p s q

-- A field that passes stands whole, its value has place and length, and the value's questions are passed.
pub record FieldPassed (p : Progress) (s : List ℕ) : Type 0 where
  pub whole : stands_whole s ≡ true
  pub placed : has_place p (field_tag s) (length (field_value s)) ≡ true
  pub answered : passes (value_questions meant p (field_tag s) (field_value s)) ≡ true

pub passed_of : (p : Progress) (s : List ℕ) → passes (field_questions meant p s) ≡ true → FieldPassed p s
unfolding field_questions all_in
passed_of p s e =
    let (whole, rest) = and_both (stands_whole s) _ e in
    let (placed, answered) = and_both (has_place p (field_tag s) (length (field_value s))) _ rest in
    record { whole = whole; placed = placed; answered = answered }

there : (p : Progress) (s : List ℕ) → passes (field_questions meant p s) ≡ true → 0 < length s
there p s e = omega (arith, three_bytes s (passed_of p s e).whole)

pub accepted_passes :
    {p q : Progress} {s : List ℕ} → Accepted p s q → passes (questions_from meant (length s) p s) ≡ true
unfolding questions_from
accepted_passes (ended e) = e
accepted_passes (one_more p s e rest) =
    rw (questions_field meant p s (there p s e), passes_append, e) (accepted_passes rest)

pub accepted_read : {p q : Progress} {s : List ℕ} → Accepted p s q → read_from (length s) p s ≡ q
unfolding read_from
accepted_read (ended e) = refl
accepted_read (one_more p s e rest) = read_field p s (there p s e) ∙ accepted_read rest

pub accepted_end : {p q : Progress} {s : List ℕ} → Accepted p s q → passes (end_questions q) ≡ true
accepted_end (ended e) = e
accepted_end (one_more p s e rest) = accepted_end rest

pub accepted_of :
    (p : Progress) (s : List ℕ) → passes (questions_from meant (length s) p s) ≡ true →
    Accepted p s (read_from (length s) p s)
unfolding questions_from read_from
accepted_of p s e = by (length s) p s (omega arith) e
  where
    by :
        (n : ℕ) (p : Progress) (s : List ℕ) → length s ≤ n → passes (questions_from meant (length s) p s) ≡ true →
        Accepted p s (read_from (length s) p s)
    by zero p [] h e = ended e
    by zero p (x ∷ s) h e = absurd (omega arith)
    by (suc n) p [] h e = ended e
    by (suc n) p (x ∷ s) h e =
        let left = x ∷ s in
        let more : 0 < length left = omega arith in
        let asked = sym (passes_append (field_questions meant p left) _) ∙ sym (ap passes (questions_field meant p left more)) in
        let (here, rest) = and_both (passes (field_questions meant p left)) _ (asked ∙ e) in
        rw (read_field p left more)
        (one_more p left here (by n (next p left) (after_field left) (omega (arith, shorter x s)) rest))
