-- Laws of the disclosed records: they are those of the places that hold a record, a brief's two words are those of the first 64 records and of the rest, and it counts the records that
-- are disclosed.
use Prim.Native.Nat.{ℕ, ◌-◌, ◌^◌, ◌<◌, ◌≤◌, min}
use mathlib.Core.Path.{◌≡◌, sym, ap, ◌∙◌}
use mathlib.Core.Bool.{◌&&◌}
use mathlib.Core.List.{List}
use native.Mathlib.Nat.{lt_of_lt_of_le}
use native.Mathlib.Decide.{dec_lt}
use native.Mathlib.Omega.{arith}
use borrow.Author.Tests.{lt-ltb, le-ltb}
use lib.ListN.{length, take, drop, length-take, length-drop}
use lib.Seq.{get_or-take}
use lib.Dec.{ltb}
use lib.Pow.{pow_mono}
use Rattle.std.proofs.lemmas.List.{get_or-drop}
use Rattle.sets.specs.Quantifiers.{count_below}
use Rattle.sets.specs.Bits.{bit, shares, set_of}
use Rattle.sets.specs.RecordSets.{record_set_of, set_bits}
use Rattle.sets.proofs.Ranges.{count_up_to}
use Rattle.sets.proofs.BitLaws.{set_bit, set_bound}
use Rattle.sets.proofs.WordLaws.{marked_count, contains_low, contains_high, words_ext}
use Rattle.register.specs.declared.Record.{Record}
use Rattle.register.specs.Register.{no_record}
use Rattle.register.specs.Records.{record_at}
use Rattle.emergency.specs.Emergency.{scope, disclosed}

-- the first n of these places hold the records
pub disclosed_of :
    (places : List Record) (n states x : ℕ) → x < length places →
    ltb x n && shares 16 (record_at places x).labels (scope states) ≡ disclosed (take n places) states x
unfolding disclosed
disclosed_of places n states x h =
    elim (dec_lt x n) [
      | yes l ↦ rw (lt-ltb x n l, get_or-take n places x no_record l, length-take, lt-ltb x (min n (length places)) (omega arith))
      | no l ↦ rw (le-ltb x n (omega arith), length-take, le-ltb x (min n (length places)) (omega arith))
    ]

-- a word of the records whose labels share a bit with the scope
abbrev pub labelled : List Record → ℕ → ℕ
labelled rs scope = set_of (length rs) (λ x. shares 16 (record_at rs x).labels scope)

module _ (rs : List Record) (states : ℕ) where
  bit_labelled : (k : ℕ) → bit k (labelled rs (scope states)) ≡ disclosed rs states k
  unfolding disclosed
  bit_labelled k = set_bit (length rs) k _

  first_disclosed : (k : ℕ) → k < 64 → disclosed (take (min (length rs) 64) rs) states k ≡ disclosed rs states k
  unfolding disclosed
  first_disclosed k h =
      elim (dec_lt k (length rs)) [
        | yes l ↦
            sym (disclosed_of rs (min (length rs) 64) states k l)
            ∙ rw (lt-ltb k (min (length rs) 64) (omega arith), lt-ltb k (length rs) l)
        | no l ↦
            rw (length-take, le-ltb k (min (min (length rs) 64) (length rs)) (omega arith), le-ltb k (length rs) (omega arith))
      ]

  rest_disclosed :
      (k : ℕ) → 64 ≤ k → disclosed (drop (min (length rs) 64) rs) states (k - 64) ≡ disclosed rs states k
  unfolding disclosed
  rest_disclosed k h =
      elim (dec_lt k (length rs)) [
        | yes l ↦
            rw (
              length-drop,
              lt-ltb (k - 64) (length rs - min (length rs) 64) (omega arith),
              lt-ltb k (length rs) l,
              get_or-drop (min (length rs) 64) rs (k - 64) no_record,
            )
            (ap (λ (x : ℕ). shares 16 (record_at rs x).labels (scope states)) (omega arith))
        | no l ↦
            rw (length-drop, le-ltb (k - 64) (length rs - min (length rs) 64) (omega arith), le-ltb k (length rs) (omega arith))
      ]

word_bound : (rs : List Record) (scope : ℕ) → length rs ≤ 64 → labelled rs scope < 2 ^ 64
word_bound rs scope h = lt_of_lt_of_le (set_bound (length rs) _) (pow_mono h)

-- the words of the first 64 records and of the rest
pub disclosed_words :
    (rs : List Record) (states : ℕ) → length rs ≤ 128 →
    record { low = labelled (take (min (length rs) 64) rs) (scope states); high = labelled (drop (min (length rs) 64) rs) (scope states) }
    ≡ record_set_of (disclosed rs states)
disclosed_words rs states h =
    let n = min (length rs) 64 in
    let first = take n rs in
    let rest = drop n rs in
    words_ext _ (disclosed rs states)
    (word_bound first (scope states) (rw length-take (omega arith)))
    (word_bound rest (scope states) (rw length-drop (omega arith)))
    (λ k l.
    elim (dec_lt k 64) [
      | yes b ↦ contains_low _ k b ∙ bit_labelled first states k ∙ first_disclosed rs states k b
      | no b ↦
          contains_high _ k (omega arith) l ∙ bit_labelled rest states (k - 64) ∙ rest_disclosed rs states k (omega arith)
    ])

-- the count of a brief is the number of disclosed records
pub brief_count :
    (rs : List Record) (states : ℕ) → length rs ≤ 128 →
    set_bits (record_set_of (disclosed rs states)) ≡ count_below (length rs) (disclosed rs states)
unfolding disclosed
brief_count rs states h =
    marked_count (disclosed rs states)
    ∙ count_up_to (disclosed rs states) (length rs) 128 h (λ x l. rw (le-ltb x (length rs) l))
