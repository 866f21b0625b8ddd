-- Laws of the 25 bytes of a directive: what is written is read, what is read is written, and the drafts within the ranges mean the
-- well-formed directives.
use Prim.Native.Nat.{ℕ, zero, suc, ◌^◌, ◌<◌, ◌≤◌}
use mathlib.Core.Path.{◌≡◌, refl, sym, ap, ◌∙◌}
use mathlib.Core.Bool.{Bool, true, false}
use mathlib.Core.Logic.{⊎_elim}
use mathlib.Core.List.{List, []}
use native.Mathlib.Nat.{mod-eq_of_lt}
use native.Mathlib.Omega.{arith}
use borrow.Author.Tests.{eqb-true, eq-eqb, leb-true, le-leb, ltb-true, lt-ltb}
use lib.ListN.{length, length-append}
use lib.Seq.{take_all}
use lib.Dec.{eqb, leb}
use lib.Bits.{bit_and, and_mask, mask_lt}
use Rattle.std.specs.Prelude.{Ok, Err}
use Rattle.sets.specs.Quantifiers.{one_if}
use Rattle.sets.specs.Bits.{subset, non_empty, in_bits, non_empty_set}
use Rattle.sets.specs.Numbers.{number_from, number_at, bytes, is_bytes}
use Rattle.sets.proofs.Quantifiers.{same_test, either_way, and_both}
use Rattle.sets.proofs.Lists.{all_append}
use Rattle.sets.proofs.BitLaws.{subset_and}
use Rattle.sets.proofs.Numbers.{length_bytes, bytes_are_bytes, number_of_bytes, number_at_bound, bytes_next}
use Rattle.register.specs.Records.{last_reach, reach_of, reach_number}
use Rattle.register.proofs.ReachLaws.{reach_read}
use Rattle.directive.specs.declared.Subject.{Subject}
use Rattle.directive.specs.declared.Subject.TheVariants.{Person, Role}
use Rattle.directive.specs.declared.Directive.{Directive}
use Rattle.drafts.specs.declared.Draft.{Draft}
use Rattle.drafts.specs.declared.OutOfRange.{OutOfRange}
use Rattle.drafts.specs.Form.{draft_size, numbers_of, draft_of, every_purpose, keeps_ranges, directive_of, meaning_of, directive_bytes, well_formed}
use Rattle.directive.specs.Matching.{subject_named, is_role, number_of}

pub length_directive : (d : Directive) → length (directive_bytes d) ≡ draft_size
unfolding directive_bytes
length_directive d = simp (length-append, length_bytes)

pub directive_are_bytes : (d : Directive) → is_bytes (directive_bytes d) ≡ true
unfolding directive_bytes
directive_are_bytes d = simp (all_append, bytes_are_bytes)

-- a set of 16 bits within every purpose is a set of 11 bits
purposes_within : (a : ℕ) → a < 2 ^ 16 → subset 16 a every_purpose ≡ in_bits 11 a
purposes_within a h =
    sym (subset_and 16 a every_purpose h)
    ∙ same_test (eqb (bit_and a every_purpose) a) (in_bits 11 a)
    (λ t. lt-ltb a (2 ^ 11) (omega (arith, eqb-true (bit_and a every_purpose) a t, mask_lt a 11)))
    (λ t. eq-eqb (bit_and a every_purpose) a (and_mask a 11 ∙ mod-eq_of_lt (ltb-true a (2 ^ 11) t)))

-- a bit and its byte
bit_read : (b : Bool) → eqb (one_if b) 1 ≡ b
bit_read true = refl
bit_read false = refl

bit_written : (v : ℕ) → v ≤ 1 → one_if (eqb v 1) ≡ v
bit_written zero h = refl
bit_written (suc zero) h = refl
bit_written (suc (suc v)) h = absurd (omega arith)

bit_small : (b : Bool) → one_if b ≤ 1
bit_small true = omega arith
bit_small false = omega arith

-- a subject and its two numbers
subject_read : (s : Subject) → subject_named (is_role s) (number_of s) ≡ s
subject_read (Person n) = refl
subject_read (Role n) = refl

is_role_named : (b : Bool) (n : ℕ) → is_role (subject_named b n) ≡ b
is_role_named true n = refl
is_role_named false n = refl

pub number_of_named : (b : Bool) (n : ℕ) → number_of (subject_named b n) ≡ n
number_of_named true n = refl
number_of_named false n = refl

-- a reach and its number
reach_written : (v : ℕ) → v ≤ last_reach → reach_number (reach_of v) ≡ v
reach_written zero h = refl
reach_written (suc zero) h = refl
reach_written (suc (suc zero)) h = refl
reach_written (suc (suc (suc zero))) h = refl
reach_written (suc (suc (suc (suc v)))) h = absurd (omega arith)

-- a set of n bits that is not empty
pub record Filled (n a : ℕ) : Type 0 where
  pub non_empty_lem : non_empty a ≡ true
  pub small : a < 2 ^ n

filled : (n a : ℕ) → non_empty_set n a ≡ true → Filled n a
filled n a e =
    let (non_empty_lem, small) = and_both (non_empty a) (in_bits n a) e in record { non_empty_lem = non_empty_lem; small = ltb-true a (2 ^ n) small }

-- what a well-formed directive is
pub record Formed (d : Directive) : Type 0 where
  pub number : d.number < 2 ^ 16
  pub subject : number_of d.subject < 2 ^ 16
  pub subject_origins : Filled 16 d.subject_origins
  pub root : d.«record» < 2 ^ 8
  pub reach : reach_number d.reach ≤ last_reach
  pub origins : Filled 16 d.origins
  pub sensitivities : Filled 16 d.sensitivities
  pub kinds : Filled 8 d.kinds
  pub purposes : Filled 11 d.purposes
  pub from : d.from < 2 ^ 32
  pub until : d.until < 2 ^ 32

pub formed : (d : Directive) → well_formed d ≡ true → Formed d
unfolding well_formed
formed d e =
    let (to_from, until) = and_both _ (in_bits 32 d.until) e in
    let (to_purposes, from) = and_both _ (in_bits 32 d.from) to_from in
    let (to_kinds, purposes) = and_both _ (non_empty_set 11 d.purposes) to_purposes in
    let (to_sensitivities, kinds) = and_both _ (non_empty_set 8 d.kinds) to_kinds in
    let (to_origins, sensitivities) = and_both _ (non_empty_set 16 d.sensitivities) to_sensitivities in
    let (to_reach, origins) = and_both _ (non_empty_set 16 d.origins) to_origins in
    let (to_root, reach) = and_both _ (leb (reach_number d.reach) last_reach) to_reach in
    let (to_subject_origins, root) = and_both _ (in_bits 8 d.«record») to_root in
    let (to_subject, subject_origins) = and_both _ (non_empty_set 16 d.subject_origins) to_subject_origins in
    let (number, subject) = and_both _ (in_bits 16 (number_of d.subject)) to_subject in
    record {
      number = ltb-true _ _ number;
      subject = ltb-true _ _ subject;
      subject_origins = filled _ _ subject_origins;
      root = ltb-true _ _ root;
      reach = leb-true _ _ reach;
      origins = filled _ _ origins;
      sensitivities = filled _ _ sensitivities;
      kinds = filled _ _ kinds;
      purposes = filled _ _ purposes;
      from = ltb-true _ _ from;
      until = ltb-true _ _ until;
    }

-- the draft that a directive writes
abbrev pub draft_for : Directive → Draft
draft_for d =
    record {
      number = d.number;
      effect = one_if d.permit;
      subject_kind = one_if (is_role d.subject);
      subject = number_of d.subject;
      subject_origins = d.subject_origins;
      «record» = d.«record»;
      reach = reach_number d.reach;
      origins = d.origins;
      sensitivities = d.sensitivities;
      kinds = d.kinds;
      purposes = d.purposes;
      from = d.from;
      until = d.until;
    }

module _ (d : Directive) (e : well_formed d ≡ true) where
  pub draft_written : draft_of (directive_bytes d) ≡ draft_for d
  unfolding numbers_of draft_of directive_bytes bytes number_from
  draft_written =
      let f = formed d e in
      rw (
        number_of_bytes 2 d.number f.number,
        number_of_bytes 1 (one_if d.permit) (omega (arith, bit_small d.permit)),
        number_of_bytes 1 (one_if (is_role d.subject)) (omega (arith, bit_small (is_role d.subject))),
        number_of_bytes 2 (number_of d.subject) f.subject,
        number_of_bytes 2 d.subject_origins f.subject_origins.small,
        number_of_bytes 1 d.«record» f.root,
        number_of_bytes 1 (reach_number d.reach) (omega (arith, f.reach)),
        number_of_bytes 2 d.origins f.origins.small,
        number_of_bytes 2 d.sensitivities f.sensitivities.small,
        number_of_bytes 1 d.kinds f.kinds.small,
        number_of_bytes 2 d.purposes (omega arith),
        number_of_bytes 4 d.from f.from,
        number_of_bytes 4 d.until f.until,
      )

  pub decode_encode : directive_of (draft_of (directive_bytes d)) ≡ d
  unfolding directive_of
  decode_encode = ap directive_of draft_written ∙ rw (bit_read d.permit, bit_read (is_role d.subject), subject_read d.subject, reach_read d.reach)

  pub ranges_kept : keeps_ranges (draft_of (directive_bytes d)) ≡ true
  unfolding keeps_ranges
  ranges_kept =
      let f = formed d e in
      let within : subset 16 d.purposes every_purpose ≡ true =
      purposes_within d.purposes (omega arith) ∙ lt-ltb _ _ f.purposes.small in
      ap keeps_ranges draft_written
      ∙ rw (
        le-leb _ _ (bit_small d.permit),
        le-leb _ _ (bit_small (is_role d.subject)),
        le-leb _ _ f.reach,
        f.subject_origins.non_empty_lem,
        f.origins.non_empty_lem,
        f.sensitivities.non_empty_lem,
        f.kinds.non_empty_lem,
        f.purposes.non_empty_lem,
        within,
      )

-- what question 7 says of a draft
record Kept (d : Draft) : Type 0 where
  effect : d.effect ≤ 1
  kind : d.subject_kind ≤ 1
  reach : d.reach ≤ last_reach
  subject_origins : non_empty d.subject_origins ≡ true
  origins : non_empty d.origins ≡ true
  sensitivities : non_empty d.sensitivities ≡ true
  kinds : non_empty d.kinds ≡ true
  purposes : non_empty d.purposes ≡ true
  within : subset 16 d.purposes every_purpose ≡ true

kept : (d : Draft) → keeps_ranges d ≡ true → Kept d
unfolding keeps_ranges
kept d e =
    let (to_purposes, within) = and_both _ (subset 16 d.purposes every_purpose) e in
    let (to_kinds, purposes) = and_both _ (non_empty d.purposes) to_purposes in
    let (to_sensitivities, kinds) = and_both _ (non_empty d.kinds) to_kinds in
    let (to_origins, sensitivities) = and_both _ (non_empty d.sensitivities) to_sensitivities in
    let (to_subject_origins, origins) = and_both _ (non_empty d.origins) to_origins in
    let (to_reach, subject_origins) = and_both _ (non_empty d.subject_origins) to_subject_origins in
    let (to_kind, reach) = and_both _ (leb d.reach last_reach) to_reach in
    let (effect, kind) = and_both _ (leb d.subject_kind 1) to_kind in
    record {
      effect = leb-true _ _ effect;
      kind = leb-true _ _ kind;
      reach = leb-true _ _ reach;
      subject_origins = subject_origins;
      origins = origins;
      sensitivities = sensitivities;
      kinds = kinds;
      purposes = purposes;
      within = within;
    }

-- a draft means a directive where it keeps the ranges, and none elsewhere
pub meant_in_ranges : (s : Draft) (d : Directive) → Ok d ≡ meaning_of s → (keeps_ranges s ≡ true) × (d ≡ directive_of s)
meant_in_ranges s d e =
    ⊎_elim
    (λ (k : keeps_ranges s ≡ true). let f = rw k at e in (k, cc))
    (λ (k : keeps_ranges s ≡ false). let f = rw k at e in absurd (cc))
    (either_way (keeps_ranges s))

pub meant_out_of_ranges : (s : Draft) (r : OutOfRange) → Err r ≡ meaning_of s → keeps_ranges s ≡ false
meant_out_of_ranges s r e =
    ⊎_elim
    (λ (k : keeps_ranges s ≡ true). let f = rw k at e in absurd (cc))
    (λ (k : keeps_ranges s ≡ false). k)
    (either_way (keeps_ranges s))

-- the widths of a draft's numbers
pub record Widths (d : Draft) : Type 0 where
  pub number : d.number < 2 ^ 16
  pub subject : d.subject < 2 ^ 16
  pub subject_origins : d.subject_origins < 2 ^ 16
  pub root : d.«record» < 2 ^ 8
  pub origins : d.origins < 2 ^ 16
  pub sensitivities : d.sensitivities < 2 ^ 16
  pub kinds : d.kinds < 2 ^ 8
  pub purposes : d.purposes < 2 ^ 16
  pub from : d.from < 2 ^ 32
  pub until : d.until < 2 ^ 32

pub bytes_wide : (s : List ℕ) → is_bytes s ≡ true → Widths (draft_of s)
unfolding numbers_of draft_of
bytes_wide s e =
    record {
      number = number_at_bound 0 2 s e;
      subject = number_at_bound 4 2 s e;
      subject_origins = number_at_bound 6 2 s e;
      root = number_at_bound 8 1 s e;
      origins = number_at_bound 10 2 s e;
      sensitivities = number_at_bound 12 2 s e;
      kinds = number_at_bound 14 1 s e;
      purposes = number_at_bound 15 2 s e;
      from = number_at_bound 17 4 s e;
      until = number_at_bound 21 4 s e;
    }

pub draft_formed : (d : Draft) → Widths d → keeps_ranges d ≡ true → well_formed (directive_of d) ≡ true
unfolding well_formed directive_of
draft_formed d w r =
    let k = kept d r in
    rw (
      lt-ltb _ _ w.number,
      number_of_named (eqb d.subject_kind 1) d.subject,
      lt-ltb _ _ w.subject,
      k.subject_origins,
      lt-ltb _ _ w.subject_origins,
      lt-ltb _ _ w.root,
      reach_written d.reach k.reach,
      le-leb _ _ k.reach,
      k.origins,
      lt-ltb _ _ w.origins,
      k.sensitivities,
      lt-ltb _ _ w.sensitivities,
      k.kinds,
      lt-ltb _ _ w.kinds,
      k.purposes,
      sym (purposes_within d.purposes w.purposes) ∙ k.within,
      lt-ltb _ _ w.from,
      lt-ltb _ _ w.until,
    )

pub encode_decode :
    (s : List ℕ) → length s ≡ draft_size → is_bytes s ≡ true → keeps_ranges (draft_of s) ≡ true →
    directive_bytes (directive_of (draft_of s)) ≡ s
unfolding directive_bytes directive_of numbers_of draft_of
encode_decode s l e r =
    let k = kept (draft_of s) r in
    let to_number = bytes_next s 0 2 [] e (omega arith) refl in
    let to_effect = bytes_next s 2 1 _ e (omega arith) to_number in
    let to_kind = bytes_next s 3 1 _ e (omega arith) to_effect in
    let to_subject = bytes_next s 4 2 _ e (omega arith) to_kind in
    let to_subject_origins = bytes_next s 6 2 _ e (omega arith) to_subject in
    let to_record = bytes_next s 8 1 _ e (omega arith) to_subject_origins in
    let to_reach = bytes_next s 9 1 _ e (omega arith) to_record in
    let to_origins = bytes_next s 10 2 _ e (omega arith) to_reach in
    let to_sensitivities = bytes_next s 12 2 _ e (omega arith) to_origins in
    let to_kinds = bytes_next s 14 1 _ e (omega arith) to_sensitivities in
    let to_purposes = bytes_next s 15 2 _ e (omega arith) to_kinds in
    let to_from = bytes_next s 17 4 _ e (omega arith) to_purposes in
    let to_until = bytes_next s 21 4 _ e (omega arith) to_from in
    rw (
      bit_written (number_at 2 1 s) k.effect,
      is_role_named (eqb (number_at 3 1 s) 1) (number_at 4 2 s),
      bit_written (number_at 3 1 s) k.kind,
      number_of_named (eqb (number_at 3 1 s) 1) (number_at 4 2 s),
      reach_written (number_at 9 1 s) k.reach,
    )
    (to_until ∙ take_all 25 s (omega arith))
