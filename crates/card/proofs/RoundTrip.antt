-- The round trips of a card: what was written is read, and what was read of an edition 2 card is written as that card.
use Prim.Native.Nat.{ℕ, ◌<◌}
use mathlib.Core.Path.{◌≡◌, sym, ap, ◌∙◌}
use mathlib.Core.Bool.{true}
use mathlib.Core.List.{List, []}
use lib.ListN.{length}
use Rattle.sets.specs.Quantifiers.{all_in}
use Rattle.sets.specs.Numbers.{is_bytes}
use Rattle.sets.proofs.Quantifiers.{and_left, and_right}
use Rattle.ledger_model.specs.Model.{Model, with_tokens, empty_model}
use Rattle.ledger_model.specs.Answer.{done}
use Rattle.ledger_model.specs.Questions.{passes}
use Rattle.ledger_model.specs.Invariant.{ModelInvariant}
use Rattle.ledger_model.proofs.Questions.{outcome_passed}
use Rattle.card.specs.Reading.{nothing_read, written_edition, card_questions, content_of, reading}
use Rattle.card.specs.Writing.{card_bytes}
use Rattle.card.proofs.Accepted.{accepted_passes, accepted_read, accepted_end, accepted_of}
use Rattle.card.proofs.ReadSound.{some_in_lem, content_sound, reading_sound}
use Rattle.card.proofs.ReadBack.{accept_card}
use Rattle.card.proofs.WriteBack.{accepted_written}

-- "Reading a written card restores its patient, register, clock and directives"
pub read_back :
    (m : Model) → ModelInvariant m → 0 < length m.register.records →
    reading (card_bytes m) ≡ record { answer = done []; model = with_tokens m [] }
read_back m h a_record =
    let accepted = accept_card m h a_record in
    outcome_passed (card_questions (card_bytes m)) empty_model _ (accepted_passes accepted) ∙ rw (accepted_read accepted)

module _ (s : List ℕ) (b : is_bytes s ≡ true) (e : passes (card_questions s) ≡ true) where
  content_read : (reading s).model ≡ (content_of s).model
  content_read = rw e

  pub a_record_read : 0 < length (reading s).model.register.records
  unfolding all_in
  a_record_read =
      let end = accepted_end (accepted_of nothing_read s e) in
      rw content_read (some_in_lem (content_of s).model.register.records (search (and_left, and_right)))

  -- "writing an accepted edition 2 card restores its bytes"
  pub write_back : (content_of s).edition ≡ written_edition → card_bytes (reading s).model ≡ s
  write_back edition = ap card_bytes content_read ∙ accepted_written (accepted_of nothing_read s e) b edition

  -- a card of either edition is written as what it means
  pub first_edition_written : (reading (card_bytes (reading s).model)).model ≡ (reading s).model
  first_edition_written =
      let m = (reading s).model in
      let no_tokens : m.tokens ≡ [] = rw content_read (content_sound s b e).no_tokens in
      ap (λ o. o.model) (read_back m (reading_sound s b) a_record_read) ∙ ap (with_tokens m) (sym no_tokens)
