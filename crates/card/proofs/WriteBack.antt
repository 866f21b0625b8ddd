-- What is written of an edition 2 card that is accepted is that card.
use Prim.Native.Nat.{ℕ, ◌<◌}
use mathlib.Core.Path.{◌≡◌, refl, sym, ap, ◌∙◌}
use mathlib.Core.Bool.{Bool, true, false, not}
use mathlib.Core.List.{List, [], ◌++◌, append_assoc, append-nil}
use native.Mathlib.Omega.{arith}
use borrow.Author.Tests.{not-true, leb-true, eqb-true}
use lib.ListN.{length, get_or}
use lib.Dec.{eqb}
use Rattle.sets.specs.Quantifiers.{pick, all_in}
use Rattle.sets.specs.Numbers.{number_at, is_bytes}
use Rattle.sets.proofs.Quantifiers.{both_ways, and_left, and_right}
use Rattle.sets.proofs.Lists.{none_in}
use Rattle.sets.proofs.PutLaws.{fields_snoc}
use Rattle.register.specs.Form.{record_size, record_of}
use Rattle.register.proofs.FormLaws.{record_encode_decode}
use Rattle.drafts.specs.Form.{draft_size, draft_of, directive_of}
use Rattle.drafts.proofs.FormLaws.{encode_decode}
use Rattle.validation_meaning.specs.Judgement.{meant}
use Rattle.ledger_model.specs.Questions.{passes}
use Rattle.ledger_model.proofs.Enrolled.{no_records, no_directives}
use Rattle.ledger_model.proofs.Passed.{passed_read}
use Rattle.card.specs.Grammar.{Tag, head, roles, item, directive, other, tag_of, field, field_tag, field_value, after_field}
use Rattle.card.specs.Form.{head_size, head_bytes}
use Rattle.card.specs.Reading.{Progress, nothing_read, is_empty, written_edition, has_place, value_questions, with_head, with_field}
use Rattle.card.specs.Writing.{written_head, record_fields, directive_fields, card_bytes}
use Rattle.card.proofs.FormLaws.{head_encode_decode}
use Rattle.card.proofs.Fields.{value_bytes, after_bytes, field_parts}
use Rattle.card.proofs.Accepted.{Accepted, ended, one_more, passed_of, accepted_end}
use Rattle.card.proofs.ReadSound.{SoundSoFar, nothing_sound, filled, edition_read, sound_field}
use Rattle.card.proofs.Written.{one_a_record, one_a_directive}

-- the tag byte b, known by its tag
tag_byte : ℕ → Tag → ℕ
tag_byte b head = 0x01
tag_byte b roles = 0x02
tag_byte b item = 0x03
tag_byte b directive = 0x04
tag_byte b other = b

tag_byte_lem : (b : ℕ) → tag_byte b (tag_of b) ≡ b
unfolding tag_byte
tag_byte_lem b =
    by (eqb b 0x01) (eqb b 0x02) (eqb b 0x03) (eqb b 0x04)
    (eqb-true b 0x01) (eqb-true b 0x02) (eqb-true b 0x03) (eqb-true b 0x04)
  where
    by :
        (i j k l : Bool) → (i ≡ true → b ≡ 0x01) → (j ≡ true → b ≡ 0x02) → (k ≡ true → b ≡ 0x03) → (l ≡ true → b ≡ 0x04) →
        tag_byte b (pick i head (pick j roles (pick k item (pick l directive other)))) ≡ b
    by true j k l e f g h = sym (e refl)
    by false true k l e f g h = sym (f refl)
    by false false true l e f g h = sym (g refl)
    by false false false true e f g h = sym (h refl)
    by false false false false e f g h = refl

-- the bytes that were read, as they are written
abbrev roles_field : List ℕ → List ℕ
roles_field ps = pick (is_empty ps) [] (field 0x02 ps)

abbrev so_far : Progress → List ℕ
so_far p =
    pick (eqb p.edition 0) []
    (field 0x01 (head_bytes (written_head p.model))
    ++ roles_field p.model.register.roles
    ++ record_fields p.model.register.records
    ++ directive_fields p.model.active)

head_written :
    (v : List ℕ) → is_bytes v ≡ true → length v ≡ head_size → number_at 0 1 v ≡ written_edition →
    head_bytes (written_head (with_head v).model) ≡ v
head_written v b size edition = rw edition at (head_encode_decode v size b)

-- one part more: the first, the second, the third
first_part : (x : List ℕ) → x ++ [] ++ [] ++ [] ≡ x
first_part x = simp append-nil

second_part : (x y : List ℕ) → x ++ y ++ [] ++ [] ≡ x ++ [] ++ [] ++ [] ++ y
second_part x y = simp append-nil

third_part : (x y z a : List ℕ) → x ++ y ++ (z ++ a) ++ [] ≡ x ++ y ++ z ++ [] ++ a
third_part x y z a = simp (append-nil, append_assoc)

-- a field that passes adds its bytes
module _ (p : Progress) (h : SoundSoFar p) where
  so_far_value :
      (b : ℕ) (t : Tag) (v : List ℕ) → is_bytes v ≡ true → has_place p t (length v) ≡ true →
      passes (value_questions meant p t v) ≡ true → (with_field p t v).edition ≡ written_edition →
      so_far (with_field p t v) ≡ so_far p ++ field (tag_byte b t) v
  unfolding tag_byte all_in record_fields directive_fields
  so_far_value b head v e placed passed edition =
      let first : eqb p.edition 0 ≡ true = search and_left in
      let size = eqb-true (length v) head_size (search and_right) in
      rw (first, edition, head_written v e size edition) (first_part (field 0x01 v))
  so_far_value b roles v e placed passed edition =
      let empty : is_empty p.model.register.roles ≡ true = search (and_left, and_right) in
      let none : length p.model.register.roles ≡ 0 = eqb-true _ 0 empty in
      let least = leb-true 1 (length v) (search (and_left, and_right)) in
      rw (
        edition,
        empty,
        filled v least,
        no_records p.model.register h.model.register none,
        no_directives p.model h.model none,
      )
      (second_part (field 0x01 (head_bytes (written_head p.model))) (field 0x02 v))
  so_far_value b item v e placed passed edition =
      let c = p.model.register in
      let empty : is_empty p.model.active ≡ true = search (and_left, and_right) in
      let size = eqb-true (length v) record_size (search and_right) in
      rw (
        edition,
        none_in p.model.active (eqb-true _ 0 empty),
        fields_snoc one_a_record c.records (record_of v),
        record_encode_decode v size e,
      )
      (third_part (field 0x01 (head_bytes (written_head p.model))) (roles_field c.roles) (record_fields c.records) (field 0x03 v))
  so_far_value b directive v e placed passed edition =
      let c = p.model.register in
      let long : eqb (length v) draft_size ≡ true = and_right (not (is_empty c.records)) _ (rw edition at placed) in
      let ranges = (passed_read meant p.model (draft_of v) (rw edition at passed)).ranges in
      rw (
        edition,
        fields_snoc one_a_directive p.model.active (directive_of (draft_of v)),
        encode_decode v (eqb-true (length v) draft_size long) e ranges,
      )
      (sym
      (append_assoc (field 0x01 (head_bytes (written_head p.model)) ++ roles_field c.roles ++ record_fields c.records)
      (directive_fields p.model.active)
      (field 0x04 v)))
  so_far_value b other v e placed passed edition = both_ways placed refl

-- the edition stays after the head
edition_stays :
    (p : Progress) (t : Tag) (v : List ℕ) → has_place p t (length v) ≡ true → 0 < p.edition →
    (with_field p t v).edition ≡ p.edition
edition_stays p head v placed read = absurd (omega (arith, eqb-true p.edition 0 (search and_left)))
edition_stays p roles v placed read = refl
edition_stays p item v placed read = refl
edition_stays p directive v placed read = refl
edition_stays p other v placed read = refl

edition_kept : {p q : Progress} {s : List ℕ} → Accepted p s q → 0 < p.edition → q.edition ≡ p.edition
edition_kept (ended e) read = refl
edition_kept (one_more p s e rest) read =
    let stays = edition_stays p (field_tag s) (field_value s) (passed_of p s e).placed read in
    edition_kept rest (rw stays read) ∙ stays

so_far_rest :
    {p q : Progress} {s : List ℕ} → Accepted p s q → SoundSoFar p → is_bytes s ≡ true → q.edition ≡ written_edition →
    so_far q ≡ so_far p ++ s
so_far_rest (ended {p} e) h b w = sym (append-nil (so_far p))
so_far_rest (one_more p s e rest) h b w =
    let tag = get_or s 0 0 in
    let t = field_tag s in
    let v = field_value s in
    let now = passed_of p s e in
    let edition = sym (edition_kept rest (edition_read p h t v now.placed now.answered)) ∙ w in
    let here = so_far_value p h tag t v (value_bytes s b) now.placed now.answered edition in
    so_far_rest rest (sound_field p h s b e) (after_bytes s b) w
    ∙ rw (here, tag_byte_lem tag)
    (append_assoc (so_far p) (field tag v) (after_field s) ∙ ap (λ x. so_far p ++ x) (field_parts s now.whole b))

pub accepted_written :
    {q : Progress} {s : List ℕ} → Accepted nothing_read s q → is_bytes s ≡ true → q.edition ≡ written_edition →
    card_bytes q.model ≡ s
unfolding all_in card_bytes
accepted_written {q} accepted b w =
    let end = accepted_end accepted in
    let a_role = not-true (is_empty q.model.register.roles) (search (and_left, and_right)) in
    rw (w, a_role) at (so_far_rest accepted nothing_sound b w)
