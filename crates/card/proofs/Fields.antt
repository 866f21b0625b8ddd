-- A field's bytes and its parts: what is written as a field is read as that field, and a field that stands whole is its tag,
-- the length and the value.
use Prim.Native.Nat.{ℕ, ◌+◌, ◌<◌, ◌≤◌}
use mathlib.Core.Path.{◌≡◌, sym, ap, ap₂, ◌∙◌}
use mathlib.Core.Bool.{true}
use mathlib.Core.List.{List, [], ◌∷◌, ◌++◌, append_assoc}
use native.Mathlib.Omega.{arith}
use borrow.Author.Tests.{leb-true, le-leb}
use lib.ListN.{length, take, drop, get_or, length-append, length-drop, take-append-drop}
use lib.Seq.{take-suc, take_at, drop_at, take-append_seam, drop-append_seam, drop-drop, length-take-le}
use lib.Dec.{leb}
use Rattle.sets.specs.Numbers.{bytes, is_bytes}
use Rattle.sets.proofs.Quantifiers.{and_left, and_right}
use Rattle.sets.proofs.Lists.{all_take, all_drop}
use Rattle.sets.proofs.Numbers.{length_bytes, number_of_bytes, bytes_next}
use Rattle.card.specs.Grammar.{field, value_size, field_value, after_field, stands_whole}

pub length_field : (tag : ℕ) (v : List ℕ) → length (field tag v) ≡ 3 + length v
length_field tag v = simp (length-append, length_bytes) (omega arith)

after_value : (s : List ℕ) → after_field s ≡ drop (value_size s) (drop 3 s)
after_value s = sym (drop-drop (value_size s) 3 s)

-- the value and what follows are bytes where all are
pub value_bytes : (s : List ℕ) → is_bytes s ≡ true → is_bytes (field_value s) ≡ true
value_bytes s b = all_take _ (value_size s) (drop 3 s) (all_drop _ 3 s b)

pub after_bytes : (s : List ℕ) → is_bytes s ≡ true → is_bytes (after_field s) ≡ true
after_bytes s b = all_drop _ (3 + value_size s) s b

-- a field that is written, before whatever follows
module _ (tag : ℕ) (v rest : List ℕ) (short : length v < 65536) where
  size : length (bytes 2 (length v)) ≡ 2
  size = length_bytes 2 (length v)

  pub size_written : value_size (field tag v ++ rest) ≡ length v
  size_written =
      rw (append_assoc (bytes 2 (length v)) v rest, take_at (bytes 2 (length v)) (v ++ rest) 2 size)
      (number_of_bytes 2 (length v) short)

  from_value : drop 3 (field tag v ++ rest) ≡ v ++ rest
  from_value = rw (append_assoc (bytes 2 (length v)) v rest) (drop_at (bytes 2 (length v)) (v ++ rest) 2 size)

  pub value_written : field_value (field tag v ++ rest) ≡ v
  value_written = rw (size_written, from_value) (take-append_seam v rest)

  pub after_written : after_field (field tag v ++ rest) ≡ rest
  after_written = after_value (field tag v ++ rest) ∙ rw (size_written, from_value) (drop-append_seam v rest)

  pub whole_written : stands_whole (field tag v ++ rest) ≡ true
  whole_written =
      let whole = field tag v ++ rest in
      let long : length whole ≡ 3 + length v + length rest = length-append (field tag v) rest ∙ rw (length_field tag v) in
      rw (size_written, le-leb 3 (length whole) (omega arith)) (le-leb _ (length whole) (omega arith))

-- a field that stands whole
module _ (s : List ℕ) (whole : stands_whole s ≡ true) where
  pub three_bytes : 3 ≤ length s
  three_bytes = leb-true 3 (length s) (and_left (leb 3 (length s)) _ whole)

  pub value_length : length (field_value s) ≡ value_size s
  value_length =
      let fits = leb-true _ (length s) (and_right (leb 3 (length s)) _ whole) in
      length-take-le (value_size s) (drop 3 s) (rw length-drop (omega arith))

  pub field_parts : is_bytes s ≡ true → field (get_or s 0 0) (field_value s) ++ after_field s ≡ s
  field_parts b =
      let tag = get_or s 0 0 in
      let long = three_bytes in
      let front : tag ∷ bytes 2 (length (field_value s)) ≡ take 3 s =
      ap (λ (n : ℕ). tag ∷ bytes 2 n) value_length
      ∙ bytes_next s 1 2 (tag ∷ []) b long (sym (take-suc s 0 0 (omega arith)))
      in
      let back : field_value s ++ after_field s ≡ drop 3 s =
      rw (after_value s) (take-append-drop (value_size s) (drop 3 s))
      in
      append_assoc (tag ∷ bytes 2 (length (field_value s))) (field_value s) (after_field s)
      ∙ ap₂ ◌++◌ front back
      ∙ take-append-drop 3 s
