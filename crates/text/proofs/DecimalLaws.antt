-- The fewest digits that hold a number are its decimal text, which is the text that std gives for it.
use Prim.Native.Nat.{ℕ, zero, suc, ◌+◌, ◌-◌, ◌/◌, ◌%◌, ◌^◌, ◌≤◌, ◌<◌}
use mathlib.Core.Path.{◌≡◌, refl, sym, ap, ◌∙◌}
use mathlib.Core.List.{List, [], ◌∷◌, ◌++◌, append_assoc}
use native.Mathlib.Nat.{pow-suc, one-le-pow}
use native.Mathlib.Numerals.{add-one, unary_clauses}
use native.Mathlib.Omega.{arith}
use borrow.Author.Tests.{le-leb, lt-leb}
use lib.Dec.{lit<}
use lib.ListN.{length, take, drop, length-append}
use borrow.Author.Rules.{rules}
use Rattle.std.proofs.lemmas.List.{take-append-drop, length-take-le}
use Rattle.std.proofs.Math.Seq.{take-append_seam}
use Rattle.io.specs.Digits.{last_digits, hex_digit_ascii, IsDigitCount}
use Rattle.std.specs.Fmt.{decimal as std_decimal}
use Rattle.std.proofs.lemmas.Fmt.{AppendsLastDigit, decimal_from_appends, length-decimal-le_succ}
use Rattle.text.specs.Text.{decimal_by, decimal}

by_fuel :
    (k f n : ℕ) → n < 10 ^ suc k → (0 < k → 10 ^ k ≤ n) → n < f → last_digits 10 (suc k) n ≡ decimal_by f n
unfolding decimal_by
by_fuel k zero n small high h = absurd (omega arith)
by_fuel zero (suc f) n small high h = rw (lt-leb 10 n (omega (arith, small)))
by_fuel (suc k) (suc f) n small high h =
    let some : 10 ^ suc k ≤ n = high (omega arith) in
    let one : 1 ≤ 10 ^ k = one-le-pow k 10 (lit< tt) in
    let rest : last_digits 10 (suc k) (n / 10) ≡ decimal_by f (n / 10) =
    by_fuel k f (n / 10) (omega (arith, pow-suc 10 (suc k))) (λ _. omega (arith, pow-suc 10 k)) (omega (arith, pow-suc 10 k)) in
    rw (le-leb 10 n (omega (arith, pow-suc 10 k))) (ap (λ (s : List ℕ). s ++ (hex_digit_ascii (n % 10) ∷ [])) rest)

one_less : (k : ℕ) → suc k - 1 ≡ k
one_less k = simp unary_clauses

pub decimal_of : (n k : ℕ) → IsDigitCount 10 1 n k → last_digits 10 k n ≡ decimal n
decimal_of n zero (least, small, high) = absurd (omega arith)
decimal_of n (suc k) (least, small, high) =
    by_fuel k (suc n) n small (λ h. rw one_less at (high (omega (arith, h)))) (omega arith)

pub digits_long : (b k n : ℕ) → length (last_digits b k n) ≡ k
digits_long b zero n = refl
digits_long b (suc k) n = rw (length-append, digits_long b k (n / b), add-one)

-- std's text of a number is the same, and as long
appends : AppendsLastDigit decimal_by
unfolding decimal_by
appends = record {
  one = λ k n h. rw (lt-leb 10 n (omega (arith, h))) (ap (λ (d : ℕ). d ∷ []) (search rules));
  more = λ k n h. rw (le-leb 10 n h) (search rules);
}

pub std_text : (n : ℕ) → n < 2 ^ 64 → decimal n ≡ std_decimal n
std_text n h = decimal_from_appends decimal_by appends (suc n) n h (omega (arith, length-decimal-le_succ n h))

pub std_long : (n k : ℕ) → n < 2 ^ 64 → IsDigitCount 10 1 n k → length (std_decimal n) ≡ k
std_long n k h e = rw (← std_text n h, ← decimal_of n k e) (digits_long 10 k n)

-- digits that were written to end at k + length d
pub ends_with :
    (s t d b : List ℕ) (k : ℕ) → take k t ≡ take k s → drop k t ≡ d ++ b → k ≤ length t →
    take (k + length d) t ≡ take k s ++ d
ends_with s t d b k front back h =
    let u = take k s in
    let whole : t ≡ (u ++ d) ++ b =
    sym (take-append-drop k t) ∙ rw (front, back, append_assoc) refl in
    let long : length (u ++ d) ≡ k + length d =
    length-append u d ∙ ap (λ (n : ℕ). n + length d) (sym (ap length front) ∙ length-take-le k t h) in
    rw (← long, whole) (take-append_seam (u ++ d) b)
