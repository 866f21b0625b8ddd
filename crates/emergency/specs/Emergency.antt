-- Emergency tokens: the scope of one, and the brief.
use Rattle.std.specs.Prelude.{ℕ, Bool, ◌&&◌, List, [], ◌∷◌, slice_index_or}
use Rattle.sets.specs.Quantifiers.{some_below}
use Rattle.sets.specs.Bits.{bit, shares, set_of}
use Rattle.sets.specs.RecordSets.{record_set_of, set_bits, marked}
use Rattle.register.specs.declared.Record.{Record}
use Rattle.emergency.specs.declared.Brief.{Brief}
use Rattle.register.specs.Records.{record_at, has_record}

-- "cardiac arrest 0x000F, respiratory failure 0x000B, stroke signs 0x0017, low blood sugar 0x0023, haemorrhage 0x00C3,
-- major injury 0x01C3, sepsis 0x0603, anaphylaxis 0x000B (states 0..7)"
abbrev pub label_masks : List ℕ
label_masks = 0x000F ∷ 0x000B ∷ 0x0017 ∷ 0x0023 ∷ 0x00C3 ∷ 0x01C3 ∷ 0x0603 ∷ 0x000B ∷ []

-- "The token's scope is the union over its states of this table": label k is in it where some state of the set has it.
unfoldable pub scope : ℕ → ℕ
scope states = set_of 16 (λ k. some_below 8 (λ s. bit s states && bit k (slice_index_or label_masks s 0)))

-- record x is in the brief: "set when labels and scope share a bit"
unfoldable pub disclosed : List Record → ℕ → ℕ → Bool
disclosed rs states x = has_record rs x && shares 16 (record_at rs x).labels (scope states)

-- "The brief is two 64-bit words, .. and the count of set bits."
abbrev pub brief_of : List Record → ℕ → List ℕ
brief_of rs states = marked (disclosed rs states)

-- the same as the struct that a brief is
abbrev pub brief_struct : List Record → ℕ → Brief
brief_struct rs states =
    let shown = record_set_of (disclosed rs states) in
    record { records = shown; count = set_bits shown }
