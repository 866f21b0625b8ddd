-- Laws of the text of numbers and bytes: one more of them, and none.
use Prim.Native.Nat.{ℕ, ◌+◌, ◌<◌, ◌≤◌}
use mathlib.Core.Path.{◌≡◌, refl}
use mathlib.Core.List.{List, [], ◌∷◌, ◌++◌}
use native.Mathlib.Numerals.{add-one}
use native.Mathlib.Omega.{arith}
use lib.ListN.{length, take, get_or}
use lib.Seq.{take-suc}
use Rattle.io.specs.Digits.{last_digits}
use Rattle.std.specs.List.{between}
use Rattle.std.proofs.lemmas.Slice.{between_to_end}
use Rattle.sets.proofs.PutLaws.{OneEach, fields_snoc}
use Rattle.text.specs.Text.{decimal, blank, next_text, numbers_text, hex_text, bytes_text, malformed_word, line_body}

-- a number that follows one, and the two digits of a byte
pub one_a_number : OneEach next_text (λ n. blank ∷ decimal n)
unfolding next_text
one_a_number = record { none = refl; more = λ n ns. refl }

pub two_a_byte : OneEach hex_text (last_digits 16 2)
unfolding hex_text
two_a_byte = record { none = refl; more = λ b bs. refl }

-- one element more
pub fields_next :
    {A : Type 0} {fields : List A → List ℕ} {one : A → List ℕ} → OneEach fields one → (l : List A) (i : ℕ) (d : A) →
    i < length l → fields (take (i + 1) l) ≡ fields (take i l) ++ one (get_or l i d)
fields_next each l i d h = rw (add-one i, take-suc l i d h, fields_snoc each)

pub numbers_none : (l : List ℕ) → length l < 1 → numbers_text l ≡ []
unfolding numbers_text
numbers_none [] h = refl
numbers_none (n ∷ l) h = absurd (omega arith)

pub numbers_some :
    (l : List ℕ) → 1 ≤ length l → numbers_text l ≡ decimal (get_or l 0 0) ++ next_text (between 1 (length l) l)
unfolding numbers_text
numbers_some [] h = absurd (omega arith)
numbers_some (n ∷ l) h = rw (between_to_end (n ∷ l) 1 (length (n ∷ l)) (omega arith))

-- where there are no bytes, and where there are some
pub bytes_none : (bs : List ℕ) → length bs ≡ 0 → bytes_text bs ≡ []
unfolding bytes_text
bytes_none [] e = refl
bytes_none (b ∷ bs) e = absurd (omega arith)

pub bytes_some : (bs : List ℕ) → (length bs ≡ 0 → ⊥) → bytes_text bs ≡ blank ∷ hex_text bs
unfolding bytes_text
bytes_some [] f = absurd (f refl)
bytes_some (b ∷ bs) f = refl

-- a line without numbers, and one with numbers
pub body_none : (ns bs : List ℕ) → length ns ≡ 0 → line_body ns bs ≡ malformed_word
unfolding line_body
body_none [] bs e = refl
body_none (n ∷ ns) bs e = absurd (omega arith)

pub body_some : (ns bs : List ℕ) → (length ns ≡ 0 → ⊥) → line_body ns bs ≡ numbers_text ns ++ bytes_text bs
unfolding line_body
body_some [] bs f = absurd (f refl)
body_some (n ∷ ns) bs f = refl
