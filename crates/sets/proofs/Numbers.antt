-- Laws of numbers as bytes, high byte first: the bound of a number of n bytes, the two round trips, and numbers read from a part.
use Prim.Native.Nat.{ℕ, zero, suc, ◌+◌, ◌-◌, ◌*◌, ◌/◌, ◌%◌, ◌^◌, ◌<◌, ◌≤◌}
use mathlib.Core.Path.{◌≡◌, refl, sym, ap, ◌∙◌}
use mathlib.Core.Bool.{true}
use mathlib.Core.List.{List, [], ◌∷◌, ◌++◌, append-nil}
use native.Mathlib.Nat.{add-zero, add-suc, suc-add, zero-add, mul_assoc, pow-suc, pow-succ', div-add-mod', mul-le-mul_right, lt_of_lt_of_le, min-le_left, pow-le-pow_right, add-sub_of_le, div-div-eq-div-mul}
use native.Mathlib.Numerals.{add-one, add-two}
use native.Mathlib.Omega.{arith}
use borrow.Author.Tests.{ltb-true, lt-ltb}
use lib.Dec.{ltb, lit<}
use lib.Arith.{digits_div, digits_mod}
use lib.ListN.{length, get_or, take, drop, length-append, length-take, length-drop}
use lib.Seq.{drop-cons, append_snoc, take-append-le, drop-append-le, drop-append-add, length-take-le, take-add}
use Rattle.std.specs.Int.{byte_at, bytes_high_first}
use Rattle.sets.specs.Quantifiers.{all_in}
use Rattle.sets.specs.Numbers.{number_from, number, number_at, bytes, is_bytes}
use Rattle.sets.proofs.Quantifiers.{and_both}
use Rattle.sets.proofs.Lists.{all_append, all_take, all_drop}

-- a number of n bytes is below 256 ^ n
pub number_from_bound : (a : ℕ) (s : List ℕ) → is_bytes s ≡ true → number_from a s < (a + 1) * 256 ^ length s
unfolding number_from all_in
number_from_bound a [] e = omega arith
number_from_bound a (b ∷ s) e =
    let (byte, rest) = and_both (ltb b 256) (is_bytes s) e in
    let le : a * 256 + b + 1 ≤ (a + 1) * 256 = omega (arith, ltb-true b 256 byte) in
    lt_of_lt_of_le (number_from_bound (a * 256 + b) s rest)
    (rw (pow-succ', ← (mul_assoc (a + 1) 256 (256 ^ length s))) (mul-le-mul_right (256 ^ length s) le))

pub number_at_bound : (i n : ℕ) (s : List ℕ) → is_bytes s ≡ true → number_at i n s < 256 ^ n
number_at_bound i n s e =
    let part = take n (drop i s) in
    let short : length part ≤ n = rw length-take (min-le_left n (length (drop i s))) in
    let below = number_from_bound 0 part (all_take _ n (drop i s) (all_drop _ i s e)) in
    omega (arith, below, pow-le-pow_right {n = 256} (lit< tt) short)

-- bytes after bytes
pub number_append : (a : ℕ) (s t : List ℕ) → number_from a (s ++ t) ≡ number_from (number_from a s) t
unfolding number_from
number_append a [] t = refl
number_append a (b ∷ s) t = number_append (a * 256 + b) s t

pub length_bytes : (n v : ℕ) → length (bytes n v) ≡ n
unfolding bytes
length_bytes zero v = refl
length_bytes (suc n) v = rw (length-append, length_bytes n (v / 256)) (add-one n)

pub bytes_are_bytes : (n v : ℕ) → is_bytes (bytes n v) ≡ true
unfolding bytes all_in
bytes_are_bytes zero v = refl
bytes_are_bytes (suc n) v =
    rw (all_append, bytes_are_bytes n (v / 256), lt-ltb (v % 256) 256 (omega arith))

-- what is written is read, and what is read is written
pub number_of_bytes : (n v : ℕ) → v < 256 ^ n → number (bytes n v) ≡ v
unfolding number_from bytes
number_of_bytes zero v h = omega arith
number_of_bytes (suc n) v h =
    rw (number_append, number_of_bytes n (v / 256) (omega (arith, pow-suc 256 n))) (div-add-mod' v 256)

bytes_after :
    (n a : ℕ) (s : List ℕ) → is_bytes s ≡ true → bytes (n + length s) (number_from a s) ≡ bytes n a ++ s
unfolding number_from bytes all_in
bytes_after n a [] e = rw (add-zero, append-nil)
bytes_after n a (b ∷ s) e =
    let (byte, rest) = and_both (ltb b 256) (is_bytes s) e in
    let small = ltb-true b 256 byte in
    ap (λ (m : ℕ). bytes m (number_from (a * 256 + b) s)) (add-suc n (length s) ∙ sym (suc-add n (length s)))
    ∙ bytes_after (suc n) (a * 256 + b) s rest
    ∙ rw (digits_div a small, digits_mod a small) (append_snoc (bytes n a) b s)

pub bytes_of_number : (s : List ℕ) → is_bytes s ≡ true → bytes (length s) (number s) ≡ s
unfolding bytes
bytes_of_number s e = ap (λ (n : ℕ). bytes n (number s)) (sym (zero-add (length s))) ∙ bytes_after 0 0 s e

-- a number that is read from one of two parts
pub number_at_left :
    (i n : ℕ) (s t : List ℕ) → i + n ≤ length s → number_at i n (s ++ t) ≡ number_at i n s
number_at_left i n s t h =
    rw (drop-append-le i s t (omega arith), take-append-le n (drop i s) t (rw length-drop (omega arith)))

pub number_at_right :
    (i n : ℕ) (s t : List ℕ) → length s ≤ i → number_at i n (s ++ t) ≡ number_at (i - length s) n t
number_at_right i n s t h =
    ap (λ (k : ℕ). number_at k n (s ++ t)) (sym (add-sub_of_le h)) ∙ rw (drop-append-add s t (i - length s))

-- a number of n + 1 bytes is read from its first byte on
pub number_next :
    (a i j n : ℕ) (s : List ℕ) → i < length s → j ≡ suc i →
    number_from a (take (suc n) (drop i s)) ≡ number_from (a * 256 + get_or s i 0) (take n (drop j s))
unfolding number_from
number_next a i j n s h e = rw (drop-cons s i 0 h, e)

pub number_first :
    (i j n : ℕ) (s : List ℕ) → i < length s → j ≡ suc i →
    number_at i (suc n) s ≡ number_from (get_or s i 0) (take n (drop j s))
number_first i j n s h e = number_next 0 i j n s h e ∙ ap (λ (a : ℕ). number_from a (take n (drop j s))) (zero-add (get_or s i 0))

-- the bytes that std's `to_be_bytes` gives
byte_down : (i v : ℕ) → byte_at (suc i) v ≡ byte_at i (v / 256)
byte_down zero v = refl
byte_down (suc i) v = rw (div-div-eq-div-mul v 256 (256 ^ suc i), ← (pow-succ' 256 (suc i)))

low_last : (n v : ℕ) → bytes_high_first (suc n) v ≡ bytes_high_first n (v / 256) ++ (v % 256 ∷ [])
low_last zero v = refl
low_last (suc n) v = rw (byte_down n v) (ap (λ (s : List ℕ). byte_at n (v / 256) ∷ s) (low_last n v))

pub bytes_of_std : (n v : ℕ) → bytes_high_first n v ≡ bytes n v
unfolding bytes
bytes_of_std zero v = refl
bytes_of_std (suc n) v = low_last n v ∙ rw (bytes_of_std n (v / 256))

-- four bytes are two and two, read and written
pub number_halves :
    (i : ℕ) (s : List ℕ) → i + 4 ≤ length s → number_at i 4 s ≡ number_at i 2 s * 65536 + number_at (i + 2) 2 s
unfolding number_from
number_halves i s h =
    rw (
      add-two,
      drop-cons s i 0 (omega arith),
      drop-cons s (suc i) 0 (omega arith),
      drop-cons s (suc (suc i)) 0 (omega arith),
      drop-cons s (suc (suc (suc i))) 0 (omega arith),
    )
    (omega arith)

pub bytes_halves : (v : ℕ) → bytes 4 v ≡ bytes 2 (v / 65536) ++ bytes 2 (v % 65536)
unfolding bytes
bytes_halves v =
    let high : v % 65536 / 256 % 256 ≡ v / 256 % 256 = omega arith in
    let low : v % 65536 % 256 ≡ v % 256 = omega arith in
    rw (div-div-eq-div-mul v 256 256, high, low)

-- b is the first n bytes of s: the number of the k bytes after them writes these
pub bytes_next :
    (s : List ℕ) (n k : ℕ) (b : List ℕ) → is_bytes s ≡ true → n + k ≤ length s →
    b ≡ take n s → b ++ bytes k (number_at n k s) ≡ take (n + k) s
bytes_next s n k b e h f =
    let part = take k (drop n s) in
    let long : length part ≡ k = length-take-le k (drop n s) (simp length-drop (omega arith)) in
    let same : bytes k (number part) ≡ part =
    ap (λ (m : ℕ). bytes m (number part)) (sym long) ∙ bytes_of_number part (all_take _ k (drop n s) (all_drop _ n s e)) in
    rw (f, same) (sym (take-add n k s))
