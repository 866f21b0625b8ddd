-- Laws of the ten bytes of a record: what is written is read, and what is read is written.
use Prim.Native.Nat.{ℕ}
use mathlib.Core.Path.{◌≡◌, refl, ◌∙◌}
use mathlib.Core.Bool.{true}
use mathlib.Core.List.{List, []}
use native.Mathlib.Omega.{arith}
use borrow.Author.Tests.{lt-ltb, ltb-true}
use lib.ListN.{length, length-append}
use lib.Seq.{take_all}
use Rattle.sets.specs.Bits.{in_bits}
use Rattle.sets.specs.Numbers.{number_from, bytes, is_bytes}
use Rattle.sets.proofs.Quantifiers.{and_both}
use Rattle.sets.proofs.Lists.{all_append}
use Rattle.sets.proofs.Numbers.{length_bytes, bytes_are_bytes, number_of_bytes, number_at_bound, bytes_next}
use Rattle.register.specs.declared.Record.{Record}
use Rattle.register.specs.Form.{record_size, record_of, record_bytes, record_widths}

pub length_record : (r : Record) → length (record_bytes r) ≡ record_size
unfolding record_bytes
length_record r = simp (length-append, length_bytes)

pub record_are_bytes : (r : Record) → is_bytes (record_bytes r) ≡ true
unfolding record_bytes
record_are_bytes r = simp (all_append, bytes_are_bytes)

pub record_decode_encode : (r : Record) → record_widths r ≡ true → record_of (record_bytes r) ≡ r
unfolding record_widths record_of record_bytes bytes number_from
record_decode_encode r e =
    let (to_kind, labels) = and_both _ (in_bits 16 r.labels) e in
    let (to_sensitivities, kind) = and_both _ (in_bits 8 r.kind) to_kind in
    let (to_origins, sensitivities) = and_both _ (in_bits 16 r.sensitivities) to_sensitivities in
    let (to_author, origins) = and_both _ (in_bits 16 r.origins) to_origins in
    let (parent, author) = and_both _ (in_bits 16 r.author) to_author in
    rw (
      number_of_bytes 1 r.parent (ltb-true _ _ parent),
      number_of_bytes 2 r.author (ltb-true _ _ author),
      number_of_bytes 2 r.origins (ltb-true _ _ origins),
      number_of_bytes 2 r.sensitivities (ltb-true _ _ sensitivities),
      number_of_bytes 1 r.kind (ltb-true _ _ kind),
      number_of_bytes 2 r.labels (ltb-true _ _ labels),
    )

pub record_widths_lem : (s : List ℕ) → is_bytes s ≡ true → record_widths (record_of s) ≡ true
unfolding record_widths record_of
record_widths_lem s e =
    rw (
      lt-ltb _ _ (number_at_bound 0 1 s e),
      lt-ltb _ _ (number_at_bound 1 2 s e),
      lt-ltb _ _ (number_at_bound 3 2 s e),
      lt-ltb _ _ (number_at_bound 5 2 s e),
      lt-ltb _ _ (number_at_bound 7 1 s e),
      lt-ltb _ _ (number_at_bound 8 2 s e),
    )

pub record_encode_decode :
    (s : List ℕ) → length s ≡ record_size → is_bytes s ≡ true → record_bytes (record_of s) ≡ s
unfolding record_bytes record_of
record_encode_decode s l e =
    let to_parent = bytes_next s 0 1 [] e (omega arith) refl in
    let to_author = bytes_next s 1 2 _ e (omega arith) to_parent in
    let to_origins = bytes_next s 3 2 _ e (omega arith) to_author in
    let to_sensitivities = bytes_next s 5 2 _ e (omega arith) to_origins in
    let to_kind = bytes_next s 7 1 _ e (omega arith) to_sensitivities in
    bytes_next s 8 2 _ e (omega arith) to_kind ∙ take_all 10 s (omega arith)
