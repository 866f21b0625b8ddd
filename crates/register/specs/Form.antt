-- The ten bytes of a record.
use Rattle.std.specs.Prelude.{ℕ, Bool, ◌&&◌, List, ◌++◌, length, nat_le}
use Rattle.sets.specs.Bits.{non_empty, in_bits}
use Rattle.sets.specs.Numbers.{number_at, bytes}
use Rattle.register.specs.declared.Record.{Record}
use Rattle.register.specs.Tree.{parent_fits}

-- "parent 1 (record 0 has 0), author 2, origins 2, sensitivities 2, type 1, labels 2"
abbrev pub record_size : ℕ
record_size = 10

unfoldable pub record_of : List ℕ → Record
record_of s =
    record {
      parent = number_at 0 1 s;
      author = number_at 1 2 s;
      origins = number_at 3 2 s;
      sensitivities = number_at 5 2 s;
      kind = number_at 7 1 s;
      labels = number_at 8 2 s;
    }

unfoldable pub record_bytes : Record → List ℕ
record_bytes r =
    bytes 1 r.parent
    ++ bytes 2 r.author
    ++ bytes 2 r.origins
    ++ bytes 2 r.sensitivities
    ++ bytes 1 r.kind
    ++ bytes 2 r.labels

-- "a type 0..7"
abbrev pub last_kind : ℕ
last_kind = 7

-- the ranges of the record that comes after those of `earlier`: "every other record has a parent of lower number", "origins (16-bit
-- set, not empty), sensitivities (16-bit set, not empty), a type 0..7"
unfoldable pub record_fits : List Record → Record → Bool
record_fits earlier r =
    parent_fits (length earlier) r.parent && non_empty r.origins && non_empty r.sensitivities && nat_le r.kind last_kind

-- its numbers are of the widths that they have in ten bytes
unfoldable pub record_widths : Record → Bool
record_widths r =
    in_bits 8 r.parent
    && in_bits 16 r.author
    && in_bits 16 r.origins
    && in_bits 16 r.sensitivities
    && in_bits 8 r.kind
    && in_bits 16 r.labels
