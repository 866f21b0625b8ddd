-- Reading a card: questions 1 to 5, and 7 to 13 for each directive; never 14.
use Rattle.std.specs.Prelude.{ℕ, zero, suc, Bool, false, ◌&&◌, not, List, [], ◌∷◌, ◌++◌, length, nat_eq, nat_le, nat_lt}
use Rattle.sets.specs.Quantifiers.{pick}
use Rattle.register.specs.Register.{role_places, record_places}
use Rattle.register.specs.Tree.{is_tree}
use Rattle.register.specs.Form.{record_size, record_of, record_fits}
use Rattle.drafts.specs.declared.Draft.{Draft}
use Rattle.drafts.specs.Form.{draft_size, first_edition_size, draft_of, with_purposes, directive_of}
use Rattle.validation_meaning.specs.Judgement.{Judgement, meant}
use Rattle.ledger_model.specs.Model.{Model, beginning, empty_model, with_register}
use Rattle.ledger_model.specs.Answer.{done, refusal}
use Rattle.ledger_model.specs.Questions.{Question, ask, Outcome, outcome, directive_questions}
use Rattle.ledger_model.specs.Calls.{with_last}
use Rattle.card.specs.Form.{head_size, head_of}
use Rattle.card.specs.Grammar.{Tag, head, roles, item, directive, other, field_tag, field_value, after_field, stands_whole}

-- What was read so far: the edition (0 before the head), and patient, clock, register and directives.
pub record Progress : Type 0 where
  pub edition : ℕ
  pub model : Model

abbrev pub nothing_read : Progress
nothing_read = record { edition = 0; model = empty_model }

abbrev pub is_empty : {A : Type 0} → List A → Bool
is_empty l = nat_eq (length l) 0

-- "edition (1 or 2)"; "The writer gives edition 2"
abbrev pub last_edition : ℕ
last_edition = 2

abbrev pub written_edition : ℕ
written_edition = 2

-- "Edition 1 leaves out purposes (23 bytes)"
abbrev pub directive_size : ℕ → ℕ
directive_size edition = pick (nat_eq edition 1) first_edition_size draft_size

-- Question 2: "Has it its place and length?" 0x01 first, once; 0x02 second, once, "Length 1..16"; 0x03 "after 0x02 and before
-- any 0x04"; 0x04 "after the records (at least one)". "Any other tag has no place."
abbrev pub has_place : Progress → Tag → ℕ → Bool
has_place p head n = nat_eq p.edition 0 && nat_eq n head_size
has_place p roles n = nat_lt 0 p.edition && is_empty p.model.register.roles && nat_le 1 n && nat_le n role_places
has_place p item n = not (is_empty p.model.register.roles) && is_empty p.model.active && nat_eq n record_size
has_place p directive n = not (is_empty p.model.register.records) && nat_eq n (directive_size p.edition)
has_place p other n = false

-- the numbers of a 0x04 field
abbrev pub directive_draft : ℕ → List ℕ → Draft
directive_draft edition v = draft_of (pick (nat_eq edition 1) (with_purposes v) v)

-- Questions 3 and 4, or 7 to 13, of a field's value: "Is it at most the 128th record? 3. Do edition, roles or record keep the
-- ranges above? 4. A 0x04 field goes on with 7 to 13."
abbrev pub value_questions : Judgement → Progress → Tag → List ℕ → List Question
value_questions j p head v = ask 4 (nat_le 1 (head_of v).edition && nat_le (head_of v).edition last_edition) ∷ []
value_questions j p roles v = ask 4 (is_tree v) ∷ []
value_questions j p item v =
    ask 3 (nat_lt (length p.model.register.records) record_places)
    ∷ ask 4 (record_fits p.model.register.records (record_of v))
    ∷ []
value_questions j p directive v = directive_questions j p.model (directive_draft p.edition v)
value_questions j p other v = []

-- the questions of a field that stands whole, of its tag and its value: "Has it its place and length? 2." and so on
abbrev pub placed_questions : Judgement → Progress → Tag → List ℕ → List Question
placed_questions j p t v = ask 2 (has_place p t (length v)) ∷ value_questions j p t v

-- "Each card field: does it stand whole in the card? 1." and then the others
unfoldable pub field_questions : Judgement → Progress → List ℕ → List Question
field_questions j p s = ask 1 (stands_whole s) ∷ placed_questions j p (field_tag s) (field_value s)

-- what was read with one field more
abbrev pub with_head : List ℕ → Progress
with_head v = record { edition = (head_of v).edition; model = beginning (head_of v).patient (head_of v).clock }

abbrev pub with_model : Progress → Model → Progress
with_model p m = record { edition = p.edition; model = m }

abbrev pub with_directive : Progress → List ℕ → Progress
with_directive p v = with_model p (with_last p.model (directive_of (directive_draft p.edition v)))

abbrev pub with_field : Progress → Tag → List ℕ → Progress
with_field p head v = with_head v
with_field p roles v = with_model p (with_register p.model (record { roles = v; records = p.model.register.records }))
with_field p item v =
    with_model p
    (with_register p.model
    (record { roles = p.model.register.roles; records = p.model.register.records ++ (record_of v ∷ []) }))
with_field p directive v = with_directive p v
with_field p other v = p

-- "At the card's end: were head, roles and a record read? 5."
abbrev pub end_questions : Progress → List Question
end_questions p =
    ask 5
    (nat_lt 0 p.edition
    && not (is_empty p.model.register.roles)
    && not (is_empty p.model.register.records))
    ∷ []

-- The questions of what is left of a card, field by field, with what was read so far. A field has three bytes or more, so the
-- length of what is left is enough fuel, and nothing is left where it ends.
unfoldable pub questions_from : Judgement → ℕ → Progress → List ℕ → List Question
questions_from j zero p s = end_questions p
questions_from j (suc n) p s =
    pick (is_empty s) (end_questions p)
    (field_questions j p s ++ questions_from j n (with_field p (field_tag s) (field_value s)) (after_field s))

-- what was read with all that is left
unfoldable pub read_from : ℕ → Progress → List ℕ → Progress
read_from zero p s = p
read_from (suc n) p s = pick (is_empty s) p (read_from n (with_field p (field_tag s) (field_value s)) (after_field s))

-- the questions of a card
abbrev pub card_questions_by : Judgement → List ℕ → List Question
card_questions_by j s = questions_from j (length s) nothing_read s

abbrev pub card_questions : List ℕ → List Question
card_questions s = card_questions_by meant s

-- the edition, patient, clock, register and directives that a card gives
abbrev pub content_of : List ℕ → Progress
content_of s = read_from (length s) nothing_read s

-- Reading a card: the answer, and the model that the reference model starts with, "the empty one after a refused card".
abbrev pub reading_by : Judgement → List ℕ → Outcome
reading_by j s =
    outcome (card_questions_by j s) empty_model (record { answer = done []; model = (content_of s).model })

abbrev pub reading : List ℕ → Outcome
reading s = reading_by meant s

-- `cardcheck`'s line: "refusal (0 for none), records, active directives"
abbrev pub card_line : List ℕ → List ℕ
card_line s =
    refusal (reading s).answer
    ∷ length (reading s).model.register.records
    ∷ length (reading s).model.active
    ∷ []
