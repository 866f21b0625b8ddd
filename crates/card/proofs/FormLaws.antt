-- Laws of the seven bytes of a head: what is written is read, and what is read is written; of the editions and their numbers.
use Prim.Native.Nat.{ℕ, zero, suc}
use mathlib.Core.Path.{◌≡◌, refl, ◌∙◌}
use mathlib.Core.Bool.{true, false, ◌&&◌}
use mathlib.Core.List.{List, []}
use native.Mathlib.Omega.{arith}
use borrow.Author.Tests.{ltb-true, ne_eqb, le-leb, lt-leb}
use lib.ListN.{length, length-append}
use lib.Seq.{take_all}
use lib.Dec.{leb}
use Rattle.std.specs.Prelude.{Ok, Err}
use Rattle.sets.specs.Bits.{in_bits}
use Rattle.sets.specs.Numbers.{number_from, bytes, is_bytes}
use Rattle.sets.proofs.Lists.{all_append}
use Rattle.sets.proofs.Numbers.{length_bytes, bytes_are_bytes, number_of_bytes, bytes_next}
use Rattle.ledger.specs.declared.enrolment.OutOfRange.{OutOfRange}
use Rattle.card.specs.declared.form.Head.{Head}
use Rattle.card.specs.declared.form.Edition.{Edition}
use Rattle.card.specs.declared.form.Edition.TheVariants.{First, Second}
use Rattle.card.specs.Form.{head_size, head_of, head_bytes, edition_number, edition_of}

pub length_head : (h : Head) → length (head_bytes h) ≡ head_size
length_head h = simp (length-append, length_bytes)

pub head_are_bytes : (h : Head) → is_bytes (head_bytes h) ≡ true
head_are_bytes h = simp (all_append, bytes_are_bytes)

pub head_decode_encode :
    (h : Head) → in_bits 8 h.edition ≡ true → in_bits 16 h.patient ≡ true → in_bits 32 h.clock ≡ true →
    head_of (head_bytes h) ≡ h
unfolding bytes number_from
head_decode_encode h edition patient clock =
    rw (
      number_of_bytes 1 h.edition (ltb-true _ _ edition),
      number_of_bytes 2 h.patient (ltb-true _ _ patient),
      number_of_bytes 4 h.clock (ltb-true _ _ clock),
    )

pub head_encode_decode :
    (s : List ℕ) → length s ≡ head_size → is_bytes s ≡ true → head_bytes (head_of s) ≡ s
head_encode_decode s l e =
    let to_edition = bytes_next s 0 1 [] e (omega arith) refl in
    let to_patient = bytes_next s 1 2 _ e (omega arith) to_edition in
    bytes_next s 3 4 _ e (omega arith) to_patient ∙ take_all 7 s (omega arith)

-- the edition of a number is 1 or 2, and has that number
pub record IsEdition (n : ℕ) (e : Edition) : Type 0 where
  pub there : leb 1 n && leb n 2 ≡ true
  pub number : edition_number e ≡ n

pub edition_there : (n : ℕ) (e : Edition) → Ok e ≡ edition_of n → IsEdition n e
edition_there zero e h = cc
edition_there (suc zero) e h = let same : e ≡ First = cc in rw same (record { there = refl; number = refl })
edition_there (suc (suc zero)) e h = let same : e ≡ Second = cc in rw same (record { there = refl; number = refl })
edition_there (suc (suc (suc n))) e h =
    let m = suc (suc (suc n)) in
    let none = rw (ne_eqb m 1 (λ z. omega arith), ne_eqb m 2 (λ z. omega arith)) at h in
    cc

pub edition_missing : (n : ℕ) (o : OutOfRange) → Err o ≡ edition_of n → (leb 1 n && leb n 2) ≡ false
edition_missing zero o h = refl
edition_missing (suc zero) o h = cc
edition_missing (suc (suc zero)) o h = cc
edition_missing (suc (suc (suc n))) o h =
    let m = suc (suc (suc n)) in rw (le-leb 1 m (omega arith), lt-leb m 2 (omega arith))
