-- The bytes of a directive: 25 in edition 2 and in a draft, 23 in edition 1.
use Rattle.std.specs.Prelude.{ℕ, ◌+◌, Bool, ◌&&◌, List, ◌++◌, take, drop, nat_eq, nat_le, Result, Ok, Err}
use Rattle.sets.specs.Quantifiers.{pick, one_if}
use Rattle.sets.specs.Bits.{subset, non_empty, in_bits, non_empty_set}
use Rattle.sets.specs.Numbers.{number_at, bytes}
use Rattle.register.specs.Records.{last_reach, reach_of, reach_number}
use Rattle.directive.specs.declared.Directive.{Directive}
use Rattle.directive.specs.Matching.{subject_named, is_role, number_of}
use Rattle.drafts.specs.declared.Draft.{Draft}
use Rattle.drafts.specs.declared.OutOfRange.{OutOfRange}

-- "number 2, effect 1 (0 deny, 1 permit), subject kind 1 (0 person, 1 role), subject 2, subject origins 2, record 1,
-- reach 1, po 2, ps 2, pt 1, purposes 2, from 4, until 4"
abbrev pub draft_size : ℕ
draft_size = 25

-- the numbers of these bytes, with these purposes, and with from and until at the place `minutes`
unfoldable pub numbers_of : ℕ → ℕ → List ℕ → Draft
numbers_of purposes minutes s =
    record {
      number = number_at 0 2 s;
      effect = number_at 2 1 s;
      subject_kind = number_at 3 1 s;
      subject = number_at 4 2 s;
      subject_origins = number_at 6 2 s;
      «record» = number_at 8 1 s;
      reach = number_at 9 1 s;
      origins = number_at 10 2 s;
      sensitivities = number_at 12 2 s;
      kinds = number_at 14 1 s;
      purposes = purposes;
      from = number_at minutes 4 s;
      until = number_at (minutes + 4) 4 s;
    }

-- the numbers that 25 bytes write, whatever they are
unfoldable pub draft_of : List ℕ → Draft
draft_of s = numbers_of (number_at 15 2 s) 17 s

-- bits 0..10
abbrev pub every_purpose : ℕ
every_purpose = 0x07FF

-- "Edition 1 leaves out purposes (23 bytes) and means 0x07FF": the 25 bytes that 23 stand for
abbrev pub first_edition_size : ℕ
first_edition_size = 23

unfoldable pub with_purposes : List ℕ → List ℕ
with_purposes s = take 15 s ++ bytes 2 every_purpose ++ drop 15 s

-- Question 7: "Effect and kind 0 or 1, reach 0..2, every set non-empty, purposes within 0x07FF?"; document 02, #102: "Question 7 now
-- allows 0..3."
unfoldable pub keeps_ranges : Draft → Bool
keeps_ranges d =
    nat_le d.effect 1
    && nat_le d.subject_kind 1
    && nat_le d.reach last_reach
    && non_empty d.subject_origins
    && non_empty d.origins
    && non_empty d.sensitivities
    && non_empty d.kinds
    && non_empty d.purposes
    && subset 16 d.purposes every_purpose

-- the directive that a draft within these ranges means
unfoldable pub directive_of : Draft → Directive
directive_of d =
    record {
      number = d.number;
      permit = nat_eq d.effect 1;
      subject = subject_named (nat_eq d.subject_kind 1) d.subject;
      subject_origins = d.subject_origins;
      «record» = d.«record»;
      reach = reach_of d.reach;
      origins = d.origins;
      sensitivities = d.sensitivities;
      kinds = d.kinds;
      purposes = d.purposes;
      from = d.from;
      until = d.until;
    }

-- what a draft means: that directive, or none where it does not keep the ranges
abbrev pub meaning_of : Draft → Result Directive OutOfRange
meaning_of d = pick (keeps_ranges d) (Ok (directive_of d)) (Err (record {}))

-- the 25 bytes of a directive
unfoldable pub directive_bytes : Directive → List ℕ
directive_bytes d =
    bytes 2 d.number
    ++ bytes 1 (one_if d.permit)
    ++ bytes 1 (one_if (is_role d.subject))
    ++ bytes 2 (number_of d.subject)
    ++ bytes 2 d.subject_origins
    ++ bytes 1 d.«record»
    ++ bytes 1 (reach_number d.reach)
    ++ bytes 2 d.origins
    ++ bytes 2 d.sensitivities
    ++ bytes 1 d.kinds
    ++ bytes 2 d.purposes
    ++ bytes 4 d.from
    ++ bytes 4 d.until

-- The directives that drafts within the ranges of question 7 mean.
unfoldable pub well_formed : Directive → Bool
well_formed d =
    in_bits 16 d.number
    && in_bits 16 (number_of d.subject)
    && non_empty_set 16 d.subject_origins
    && in_bits 8 d.«record»
    && nat_le (reach_number d.reach) last_reach
    && non_empty_set 16 d.origins
    && non_empty_set 16 d.sensitivities
    && non_empty_set 8 d.kinds
    && non_empty_set 11 d.purposes
    && in_bits 32 d.from
    && in_bits 32 d.until
