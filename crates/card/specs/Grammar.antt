-- The fields of a card: "a tag byte, a two-byte length and the value; high byte first throughout".
use Rattle.std.specs.Prelude.{ℕ, ◌+◌, Bool, ◌&&◌, List, ◌∷◌, ◌++◌, length, take, drop, slice_index_or, nat_eq, nat_le, Result, Ok, Err}
use Rattle.sets.specs.Quantifiers.{pick}
use Rattle.sets.specs.Numbers.{number_at, bytes}
use Rattle.card.specs.declared.form.Tag.{Tag as FieldTag}
use Rattle.card.specs.declared.form.Tag.TheVariants as Field
use Rattle.card.specs.declared.form.NoTag.{NoTag}

-- The tags that have a place, and any other.
pub data Tag : Type 0 where
  head : Tag
  roles : Tag
  item : Tag
  directive : Tag
  other : Tag

abbrev pub tag_of : ℕ → Tag
tag_of b =
    pick (nat_eq b 0x01) head
    (pick (nat_eq b 0x02) roles (pick (nat_eq b 0x03) item (pick (nat_eq b 0x04) directive other)))

-- the place of a tag, and of a byte that is one or none
abbrev pub place : FieldTag → Tag
place Field.Head = head
place Field.Roles = roles
place Field.Record = item
place Field.Directive = directive

abbrev pub place_of : Result FieldTag NoTag → Tag
place_of (Ok t) = place t
place_of (Err e) = other

-- a field's bytes
abbrev pub field : ℕ → List ℕ → List ℕ
field tag v = tag ∷ (bytes 2 (length v) ++ v)

-- The parts of the field at the start of s.
abbrev pub field_tag : List ℕ → Tag
field_tag s = tag_of (slice_index_or s 0 0)

abbrev pub value_size : List ℕ → ℕ
value_size s = number_at 1 2 s

abbrev pub field_value : List ℕ → List ℕ
field_value s = take (value_size s) (drop 3 s)

abbrev pub after_field : List ℕ → List ℕ
after_field s = drop (3 + value_size s) s

-- Question 1: "does it stand whole in the card?"
abbrev pub stands_whole : List ℕ → Bool
stands_whole s = nat_le 3 (length s) && nat_le (3 + value_size s) (length s)
