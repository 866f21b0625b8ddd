-- What reading one field promises, a step of `Reads`. No promise of a call rests on these definitions.
use Rattle.std.specs.Prelude.{ℕ, ◌≡◌, true, List, [], Option, Some, None}
use Rattle.validation_meaning.specs.Judgement.{meant}
use Rattle.ledger.specs.State.{view}
use Rattle.ledger_model.specs.Answer.{done, accepted}
use Rattle.ledger_model.specs.Questions.{first_no}
use Rattle.ledger.specs.Invariant.{Invariant}
use Rattle.card.specs.declared.form.Edition.{Edition}
use Rattle.card.specs.Form.{edition_number}
use Rattle.card.specs.Answer.{ReadAnswer, read_answer}
use Rattle.card.specs.Grammar.{Tag}
use Rattle.card.specs.Reading.{Progress, placed_questions, with_field}
use Rattle.card_reading.specs.declared.read.Reader.{Reader}

-- the number of the edition that was read, 0 before the head
abbrev pub edition_read : Option Edition → ℕ
edition_read None = 0
edition_read (Some e) = edition_number e

-- what a reader has read so far
abbrev pub progress : Reader → Progress
progress r = record { edition = edition_read r.edition; model = view r.ledger }

-- The answer is that of the field's questions; where they are passed, the reader has read the field too. The ledger keeps the
-- invariant; after a refusal nothing else is said of the reader.
pub record Took (p : Progress) (t : Tag) (v : List ℕ) (a : ReadAnswer) (after : Reader) : Type 0 where
  pub answer : read_answer a ≡ first_no (placed_questions meant p t v) (done [])
  pub reader : accepted (read_answer a) ≡ true → progress after ≡ with_field p t v
  pub invariant : Invariant after.ledger

abbrev pub Takes : Reader → Tag → List ℕ → ReadAnswer → Reader → Type 0
Takes r t v a after = Invariant r.ledger → Took (progress r) t v a after
