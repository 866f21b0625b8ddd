-- The round trips of cards, of the promises of reading and writing.
use Prim.Native.Nat.{ℕ, ◌<◌, ◌≤◌}
use mathlib.Core.Path.{◌≡◌, sym, ap, ◌∙◌}
use mathlib.Core.Bool.{true}
use mathlib.Core.List.{List, [], ◌∷◌}
use native.Mathlib.Omega.{arith}
use borrow.Author.Tests.{le-leb}
use lib.ListN.{length, take, drop}
use lib.Seq.{take-append_seam}
use Rattle.sets.specs.Quantifiers.{all_in}
use Rattle.sets.specs.Numbers.{is_bytes}
use Rattle.sets.proofs.Quantifiers.{and_left}
use Rattle.ledger.specs.declared.Ledger.{Ledger}
use Rattle.ledger_model.specs.Model.{Model, with_tokens}
use Rattle.ledger.specs.State.{view}
use Rattle.ledger_model.specs.Answer.{done}
use Rattle.ledger_model.specs.Questions.{passes}
use Rattle.ledger_model.proofs.Questions.{first_passed}
use Rattle.card.specs.Answer.{WriteAnswer, read_answer, write_answer}
use Rattle.card.specs.Reading.{card_questions, content_of, reading, written_edition}
use Rattle.card.specs.Writing.{write_questions, card_bytes, writing, buffered}
use Rattle.card.specs.Promises.{ReadResult, Reads, Writes}
use Rattle.card.proofs.ReadSound.{some_in_lem, filled}
use Rattle.card.proofs.RoundTrip.{a_record_read, read_back, write_back}
use Rattle.demands.specs.Runs.{Reachable}
use Rattle.demands.proofs.Runs.{meant_sound}

-- a write that passes its questions puts the card at the start of the buffer
card_in_front :
    (m : Model) (before after : List ℕ) → after ≡ buffered m before → passes (write_questions m before) ≡ true →
    take (length (card_bytes m)) after ≡ card_bytes m
unfolding buffered
card_in_front m before after e passed =
    rw (e, passed) (take-append_seam (card_bytes m) (drop (length (card_bytes m)) before))

pub read_written :
    (l : Ledger) (before : List ℕ) (a : WriteAnswer) (after : List ℕ) (r : ReadResult) →
    Reachable l → Writes l before a after → passes (write_questions (view l) before) ≡ true →
    Reads (take (length (card_bytes (view l))) after) r →
    (read_answer r.answer ≡ done []) × (view r.ledger ≡ with_tokens (view l) [])
unfolding all_in
read_written l before a after r k writes passed reads =
    let m = view l in
    let invariant = meant_sound l k in
    let a_record = some_in_lem m.register.records (and_left _ _ passed) in
    let same = card_in_front m before after (writes invariant).buffer passed in
    let back = ap reading same ∙ read_back m invariant.model a_record in
    (reads.answer ∙ ap (λ o. o.answer) back, reads.ledger ∙ ap (λ o. o.model) back)

pub written_read :
    (card : List ℕ) (r : ReadResult) (before : List ℕ) (a : WriteAnswer) (after : List ℕ) →
    is_bytes card ≡ true → Reads card r → passes (card_questions card) ≡ true →
    (content_of card).edition ≡ written_edition → length card ≤ length before → Writes r.ledger before a after →
    (write_answer a ≡ done (length card ∷ [])) × (take (length card) after ≡ card)
unfolding all_in writing
written_read card r before a after b reads e edition long writes =
    let m = view r.ledger in
    let fills = writes reads.invariant in
    let same = ap card_bytes reads.ledger ∙ write_back card b e edition in
    let as_long = ap length same in
    let as_many = ap (λ n. length n.register.records) reads.ledger in
    let a_record : 0 < length m.register.records = omega (arith, a_record_read card b e) in
    let passed : passes (write_questions m before) ≡ true =
    rw (filled m.register.records a_record, le-leb (length (card_bytes m)) (length before) (omega arith))
    in (
      fills.answer ∙ first_passed (write_questions m before) _ passed ∙ ap (λ s. done (length s ∷ [])) same,
      ap (λ s. take (length s) after) (sym same) ∙ card_in_front m before after fills.buffer passed ∙ same,
    )
