-- The bytes of a written card: how many there are, and that they are bytes.
use Prim.Native.Nat.{ℕ, zero, suc, ◌+◌, ◌*◌, ◌<◌, ◌≤◌}
use mathlib.Core.Path.{◌≡◌, refl, ◌∙◌}
use mathlib.Core.Bool.{true}
use mathlib.Core.List.{List, ◌++◌}
use native.Mathlib.Omega.{arith}
use borrow.Author.Tests.{ltb-true, lt-ltb, eqb-true}
use lib.ListN.{length, length-append}
use lib.Dec.{ltb}
use Rattle.sets.specs.Quantifiers.{all_in}
use Rattle.sets.specs.Numbers.{is_bytes}
use Rattle.sets.proofs.Quantifiers.{every_below}
use Rattle.sets.proofs.Lists.{all_append, all_places}
use Rattle.sets.proofs.Numbers.{bytes_are_bytes}
use Rattle.sets.proofs.PutLaws.{OneEach, fields_length, fields_bytes}
use Rattle.register.specs.Tree.{parent_of, parent_fits, is_tree}
use Rattle.register.specs.declared.Record.{Record}
use Rattle.register.specs.Form.{record_bytes}
use Rattle.register.proofs.FormLaws.{length_record, record_are_bytes}
use Rattle.directive.specs.declared.Directive.{Directive}
use Rattle.drafts.specs.Form.{directive_bytes}
use Rattle.drafts.proofs.FormLaws.{length_directive, directive_are_bytes}
use Rattle.ledger_model.specs.Model.{Model}
use Rattle.ledger_model.specs.Invariant.{ModelInvariant}
use Rattle.card.specs.Grammar.{field}
use Rattle.card.specs.Form.{head_bytes}
use Rattle.card.specs.Writing.{written_head, record_fields, directive_fields, card_bytes}
use Rattle.card.proofs.Fields.{length_field}
use Rattle.card.proofs.FormLaws.{length_head, head_are_bytes}

field_bytes : (tag : ℕ) (v : List ℕ) → tag < 256 → is_bytes v ≡ true → is_bytes (field tag v) ≡ true
unfolding all_in
field_bytes tag v small e = rw (lt-ltb tag 256 small, all_append (λ b. ltb b 256), bytes_are_bytes, e)

-- one field for each of a list
pub one_a_record : OneEach record_fields (λ r. field 0x03 (record_bytes r))
unfolding record_fields
one_a_record = record { none = refl; more = λ r rs. refl }

pub one_a_directive : OneEach directive_fields (λ d. field 0x04 (directive_bytes d))
unfolding directive_fields
one_a_directive = record { none = refl; more = λ d ds. refl }

-- a role's parent is a byte
parent_byte : (q p : ℕ) → parent_fits q p ≡ true → q < 256 → p < 256
parent_byte zero p e h = omega (arith, eqb-true p 0 e)
parent_byte (suc q) p e h = omega (arith, ltb-true p (suc q) e)

roles_bytes : (ps : List ℕ) → is_tree ps ≡ true → length ps ≤ 256 → is_bytes ps ≡ true
unfolding is_tree
roles_bytes ps tree few =
    all_places (λ b. ltb b 256) 0 ps λ q h.
    lt-ltb (parent_of ps q) 256
    (parent_byte q (parent_of ps q) ((every_below (length ps)).read _ tree q h) (omega arith))

pub record_field_size : (r : Record) → length (field 0x03 (record_bytes r)) ≡ 13
record_field_size r = length_field 0x03 (record_bytes r) ∙ rw (length_record r)

pub directive_field_size : (d : Directive) → length (field 0x04 (directive_bytes d)) ≡ 28
directive_field_size d = length_field 0x04 (directive_bytes d) ∙ rw (length_directive d)

module _ (m : Model) where
  pub length_card :
      length (card_bytes m)
      ≡ 10 + (3 + length m.register.roles) + 13 * length m.register.records + 28 * length m.active
  unfolding card_bytes
  length_card =
      let start = field 0x01 (head_bytes (written_head m)) in
      let ps = field 0x02 m.register.roles in
      let items = record_fields m.register.records in
      omega (
        arith,
        length-append (start ++ ps ++ items) (directive_fields m.active),
        length-append (start ++ ps) items,
        length-append start ps,
        length_field 0x01 (head_bytes (written_head m)),
        length_head (written_head m),
        length_field 0x02 m.register.roles,
        fields_length one_a_record 13 record_field_size m.register.records,
        fields_length one_a_directive 28 directive_field_size m.active,
      )

  module _ (h : ModelInvariant m) where
    pub longest_card : length (card_bytes m) ≤ 2589
    longest_card = omega (arith, length_card)

    pub card_are_bytes : is_bytes (card_bytes m) ≡ true
    unfolding card_bytes
    card_are_bytes =
        let start = field 0x01 (head_bytes (written_head m)) in
        let ps = field 0x02 m.register.roles in
        let items = record_fields m.register.records in
        let few = h.register.roles_few in
        rw (
          all_append _ (start ++ ps ++ items) (directive_fields m.active),
          all_append _ (start ++ ps) items,
          all_append _ start ps,
          field_bytes 0x01 (head_bytes (written_head m)) (omega arith) (head_are_bytes (written_head m)),
          field_bytes 0x02 m.register.roles (omega arith)
              (roles_bytes m.register.roles h.register.roles_tree (omega arith)),
          fields_bytes one_a_record (λ r. field_bytes 0x03 (record_bytes r) (omega arith) (record_are_bytes r))
              m.register.records,
          fields_bytes one_a_directive (λ d. field_bytes 0x04 (directive_bytes d) (omega arith) (directive_are_bytes d))
              m.active,
        )
