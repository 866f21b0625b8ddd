-- Laws of writing a card field by field: what is written after what stands before it.
use Prim.Native.Nat.{ℕ, ◌+◌, ◌*◌, ◌<◌, ◌≤◌}
use mathlib.Core.Path.{◌≡◌, ◌∙◌}
use mathlib.Core.Bool.{true}
use mathlib.Core.List.{List, ◌∷◌, map}
use native.Mathlib.Nat.{zero-add}
use native.Mathlib.Omega.{arith}
use borrow.Author.Tests.{eq-eqb, ne_eqb, le-leb, lt-leb}
use lib.Dec.{leb}
use lib.ListN.{length}
use lib.Seq.{sets, sets-eq}
use Rattle.std.specs.Prelude.{Ok, Err}
use Rattle.sets.specs.Quantifiers.{all_in}
use Rattle.sets.specs.Numbers.{bytes}
use Rattle.sets.proofs.Numbers.{length_bytes}
use Rattle.sets.proofs.PutLaws.{OneEach, Put, put_more, fields_length}
use Rattle.ledger.specs.declared.Ledger.{Ledger}
use Rattle.ledger_model.specs.Model.{Model}
use Rattle.ledger.specs.State.{view}
use Rattle.ledger_model.specs.Questions.{first_no}
use Rattle.card.specs.Form.{head_bytes}
use Rattle.card.specs.Grammar.{field}
use Rattle.card.specs.Writing.{written_head, record_fields, directive_fields, card_bytes, writing, buffered}
use Rattle.card.specs.declared.WriteRefusal.TheVariants.{NoRecord, BufferTooShort}
use Rattle.card.specs.Promises.{Fills}
use Rattle.card.proofs.Fields.{length_field}
use Rattle.card.proofs.FormLaws.{length_head}
use Rattle.card.proofs.Written.{one_a_record, record_field_size, length_card}

-- a field is its tag and the length of its value, and then the value
pub put_field :
    {t u : List ℕ} (s : List ℕ) (i tag n : ℕ) (v : List ℕ) → length v ≡ n →
    t ≡ sets s i (tag ∷ bytes 2 n) → u ≡ sets t (i + 3) v → u ≡ sets s i (field tag v)
put_field {t} s i tag n v long e f =
    let front : Put s i (tag ∷ bytes 2 (length v)) 3 t = record { stored = rw long e; long = rw length_bytes } in
    (put_more v front f).stored

-- head, roles, records and directives, one after another, are the card
module _ (m : Model) where
  abbrev at_records : ℕ
  at_records = 13 + length m.register.roles

  abbrev at_directives : ℕ
  at_directives = at_records + 13 * length m.register.records

  pub card_size : length (card_bytes m) ≡ at_directives + 28 * length m.active
  card_size = omega (arith, length_card m)

  pub put_card :
      {t u v w : List ℕ} (s : List ℕ) →
      t ≡ sets s 0 (field 0x01 (head_bytes (written_head m))) →
      u ≡ sets t 10 (field 0x02 m.register.roles) →
      v ≡ sets u at_records (record_fields m.register.records) →
      w ≡ sets v at_directives (directive_fields m.active) →
      w ≡ sets s 0 (card_bytes m)
  unfolding card_bytes
  put_card {t} {v} {w} s e f g h =
      let start = head_bytes (written_head m) in
      let ps = m.register.roles in
      let rs = m.register.records in
      let to_head : Put s 0 (field 0x01 start) 10 t =
      record { stored = e; long = length_field 0x01 start ∙ rw (length_head (written_head m)) } in
      let to_roles = put_more (field 0x02 ps) to_head f in
      let at_records : 0 + (10 + length (field 0x02 ps)) ≡ at_records = omega (arith, length_field 0x02 ps) in
      let to_records = put_more {u = v} (record_fields rs) to_roles (rw at_records g) in
      let at_directives : 0 + (10 + length (field 0x02 ps) + length (record_fields rs)) ≡ at_directives =
      omega (arith, length_field 0x02 ps, fields_length one_a_record 13 record_field_size rs) in
      (put_more {u = w} (directive_fields m.active) to_records (rw at_directives h)).stored

-- What writing answers, and the buffer after it: where there is no record, where the card does not fit, and where it does.
module _ {l : Ledger} {before : List ℕ} where
  pub fills_none : length (view l).register.records ≡ 0 → Fills l before (Err NoRecord) before
  unfolding writing first_no buffered all_in
  fills_none e =
      let empty = eq-eqb (length (view l).register.records) 0 e in
      record { answer = rw empty; buffer = rw empty }

  module _ (some : length (view l).register.records ≡ 0 → ⊥) where
    pub fills_short : length before < length (card_bytes (view l)) → Fills l before (Err BufferTooShort) before
    unfolding writing first_no buffered all_in
    fills_short h =
        let full = ne_eqb (length (view l).register.records) 0 some in
        let short = lt-leb (length (card_bytes (view l))) (length before) h in
        record { answer = rw (full, short); buffer = rw (full, short) }

    pub fills_written :
        {after : List ℕ} (n : ℕ) → n ≡ length (card_bytes (view l)) → n ≤ length before →
        after ≡ sets before 0 (card_bytes (view l)) → Fills l before (Ok n) after
    unfolding writing first_no buffered all_in
    fills_written n e h stored =
        let card = card_bytes (view l) in
        let full = ne_eqb (length (view l).register.records) 0 some in
        let fits : leb (length card) (length before) ≡ true = le-leb _ _ (rw e at h) in
        record {
          answer = rw (full, fits, e);
          buffer = rw (full, fits) (stored ∙ sets-eq card before 0 (omega arith) ∙ rw (zero-add (length card)));
        }

-- one field each, of the elements' images
pub each_mapped :
    {A B : Type 0} {fields : List A → List ℕ} {one : A → List ℕ} (f : B → A) → OneEach fields one →
    OneEach (λ l. fields (map f l)) (λ b. one (f b))
each_mapped f each = record { none = each.none; more = λ b l. each.more (f b) (map f l) }
