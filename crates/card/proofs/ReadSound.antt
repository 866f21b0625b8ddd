-- What a card of bytes gives is sound, and so is what was read at any field of it.
use Prim.Native.Nat.{ℕ, ◌<◌, ◌≤◌}
use mathlib.Core.Path.{◌≡◌, refl, ap}
use mathlib.Core.Bool.{Bool, true, false, not}
use mathlib.Core.List.{List, [], ◌∷◌}
use native.Mathlib.Omega.{arith}
use borrow.Author.Tests.{leb-true, ltb-true, eqb-true, ne_eqb}
use lib.ListN.{length}
use lib.Dec.{eqb}
use Rattle.sets.specs.Quantifiers.{pick, all_in, pairwise}
use Rattle.sets.specs.Numbers.{number_at, is_bytes}
use Rattle.sets.proofs.Quantifiers.{both_ways, and_left, and_right}
use Rattle.sets.proofs.Lists.{none_in, all_append, all_take, all_drop}
use Rattle.sets.proofs.Numbers.{number_at_bound, bytes_are_bytes}
use Rattle.register.specs.Register.{role_places, record_places}
use Rattle.register.specs.Form.{record_of}
use Rattle.register.proofs.FormLaws.{record_widths_lem}
use Rattle.drafts.specs.Form.{every_purpose, with_purposes}
use Rattle.drafts.proofs.FormLaws.{bytes_wide}
use Rattle.validation_meaning.specs.Judgement.{meant}
use Rattle.ledger_model.specs.Model.{Model, empty_model}
use Rattle.ledger_model.specs.Answer.{done}
use Rattle.ledger_model.specs.Questions.{passes}
use Rattle.ledger_model.specs.Invariant.{ModelInvariant}
use Rattle.ledger_model.proofs.Questions.{outcome_by}
use Rattle.ledger_model.proofs.Enrolled.{beginning_sound, empty_model_sound, sound_with, sound_roles, sound_record, no_directives}
use Rattle.ledger_model.proofs.Passed.{passed_read}
use Rattle.ledger_model.proofs.Soundness.{sound_passed}
use Rattle.card.specs.Grammar.{Tag, head, roles, item, directive, other, field_tag, field_value}
use Rattle.card.specs.Reading.{Progress, nothing_read, is_empty, last_edition, has_place, directive_draft, value_questions, field_questions, with_field, card_questions, content_of, reading}
use Rattle.card.proofs.Step.{next}
use Rattle.card.proofs.Fields.{value_bytes, after_bytes}
use Rattle.card.proofs.Accepted.{Accepted, ended, one_more, passed_of, accepted_of}

-- What was read so far is sound and has no tokens. Before the head nothing was read, and the edition is at most 2.
pub record SoundSoFar (p : Progress) : Type 0 where
  pub model : ModelInvariant p.model
  pub no_tokens : p.model.tokens ≡ []
  pub before_head : p.edition ≡ 0 → p.model ≡ empty_model
  pub edition_most : p.edition ≤ last_edition

pub nothing_sound : SoundSoFar nothing_read
nothing_sound =
    record { model = empty_model_sound; no_tokens = refl; before_head = λ _. refl; edition_most = omega arith }

-- a list that is not empty
pub some_in_lem : {A : Type 0} (l : List A) → not (is_empty l) ≡ true → 0 < length l
some_in_lem [] e = both_ways e refl
some_in_lem (x ∷ l) e = omega arith

pub filled : {A : Type 0} (l : List A) → 0 < length l → is_empty l ≡ false
filled l h = ne_eqb (length l) 0 (λ z. omega arith)

-- the 25 bytes that a directive's value stands for are bytes
draft_bytes : (v : List ℕ) → is_bytes v ≡ true → (first : Bool) → is_bytes (pick first (with_purposes v) v) ≡ true
unfolding with_purposes
draft_bytes v e true = simp (all_append, all_take _ 15 v e, bytes_are_bytes 2 every_purpose, all_drop _ 15 v e)
draft_bytes v e false = e

module _ (p : Progress) (h : SoundSoFar p) where
  -- what is there was read after the head
  begun : (f : Model → ℕ) → f empty_model ≡ 0 → 0 < f p.model → 0 < p.edition
  begun f none there = after p.edition (λ z. omega (arith, ap f (h.before_head z)))
    where
      after : (n : ℕ) → (n ≡ 0 → ⊥) → 0 < n
      after n unread = omega arith

  pub edition_read :
      (t : Tag) (v : List ℕ) → has_place p t (length v) ≡ true → passes (value_questions meant p t v) ≡ true →
      0 < (with_field p t v).edition
  unfolding all_in
  edition_read head v placed passed = leb-true 1 (number_at 0 1 v) (search (and_left, and_right))
  edition_read roles v placed passed = ltb-true 0 p.edition (search (and_left, and_right))
  edition_read item v placed passed =
      begun (λ m. length m.register.roles) refl (some_in_lem p.model.register.roles (search (and_left, and_right)))
  edition_read directive v placed passed =
      begun (λ m. length m.register.records) refl (some_in_lem p.model.register.records (search and_left))
  edition_read other v placed passed = both_ways placed refl

  -- the model with one field more
  sound_model :
      (t : Tag) (v : List ℕ) → is_bytes v ≡ true → has_place p t (length v) ≡ true →
      passes (value_questions meant p t v) ≡ true → ModelInvariant (with_field p t v).model
  unfolding all_in pairwise
  sound_model head v e placed passed = beginning_sound _ _ (number_at_bound 1 2 v e) (number_at_bound 3 4 v e)
  sound_model roles v e placed passed =
      let empty : is_empty p.model.register.roles ≡ true = search (and_left, and_right) in
      let least = leb-true 1 (length v) (search (and_left, and_right)) in
      sound_with p.model _ h.model
      (no_directives p.model h.model (eqb-true _ 0 empty))
      (sound_roles p.model.register h.model.register v
      (leb-true (length v) role_places (search (and_left, and_right)))
      (and_left _ _ passed)
      (λ _. least))
  sound_model item v e placed passed =
      let c = p.model.register in
      let none : is_empty p.model.active ≡ true = search (and_left, and_right) in
      sound_with p.model _ h.model
      (none_in p.model.active (eqb-true _ 0 none))
      (sound_record c h.model.register (record_of v)
      (some_in_lem c.roles (search and_left))
      (ltb-true (length c.records) record_places (search and_left))
      (search (and_left, and_right))
      (record_widths_lem v e))
  sound_model directive v e placed passed =
      let s = directive_draft p.edition v in
      sound_passed p.model h.model s (bytes_wide _ (draft_bytes v e (eqb p.edition 1))) (passed_read meant p.model s passed)
  sound_model other v e placed passed = both_ways placed refl

  no_token_lem :
      (t : Tag) (v : List ℕ) → (with_field p t v).model.tokens ≡ []
  no_token_lem head v = refl
  no_token_lem roles v = h.no_tokens
  no_token_lem item v = h.no_tokens
  no_token_lem directive v = h.no_tokens
  no_token_lem other v = h.no_tokens

  most :
      (t : Tag) (v : List ℕ) → passes (value_questions meant p t v) ≡ true → (with_field p t v).edition ≤ last_edition
  unfolding all_in
  most head v passed = leb-true (number_at 0 1 v) last_edition (search (and_left, and_right))
  most roles v passed = h.edition_most
  most item v passed = h.edition_most
  most directive v passed = h.edition_most
  most other v passed = h.edition_most

  pub sound_field :
      (s : List ℕ) → is_bytes s ≡ true → passes (field_questions meant p s) ≡ true → SoundSoFar (next p s)
  sound_field s e passed =
      let t = field_tag s in
      let v = field_value s in
      let now = passed_of p s passed in
      let read = edition_read t v now.placed now.answered in
      record {
        model = sound_model t v (value_bytes s e) now.placed now.answered;
        no_tokens = no_token_lem t v;
        before_head = λ z. absurd (omega arith);
        edition_most = most t v now.answered;
      }

sound_rest : {p q : Progress} {s : List ℕ} → Accepted p s q → SoundSoFar p → is_bytes s ≡ true → SoundSoFar q
sound_rest (ended e) h b = h
sound_rest (one_more p s e rest) h b = sound_rest rest (sound_field p h s b e) (after_bytes s b)

pub content_sound : (s : List ℕ) → is_bytes s ≡ true → passes (card_questions s) ≡ true → SoundSoFar (content_of s)
content_sound s b e = sound_rest (accepted_of nothing_read s e) nothing_sound b

pub reading_sound : (s : List ℕ) → is_bytes s ≡ true → ModelInvariant (reading s).model
reading_sound s b =
    outcome_by (λ o. ModelInvariant o.model) (card_questions s) empty_model
    (record { answer = done []; model = (content_of s).model })
    (λ e. (content_sound s b e).model)
    (λ _ _. empty_model_sound)
