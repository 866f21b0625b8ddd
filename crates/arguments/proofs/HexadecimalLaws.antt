-- Laws of the bytes that hexadecimal digits write.
use Rattle.std.proofs.Common.{◌≡◌, ℕ, zero, suc, ◌+◌, ◌*◌, ◌/◌, ◌<◌, ◌≤◌, List, [], ◌∷◌, ◌++◌, refl, ap, arith, length, get_or, set, take, drop}
use Rattle.std.specs.Char.{digit_value}
use Rattle.arguments.specs.Hexadecimal.{bytes_of}

pub bytes_length : (s : List ℕ) → length (bytes_of s) ≡ length s / 2
unfolding bytes_of
bytes_length [] = refl
bytes_length (a ∷ []) = refl
bytes_length (a ∷ b ∷ s) = rw (bytes_length s) (omega arith)

-- byte k is written by digits 2 k and 2 k + 1
pub byte_here :
    (s : List ℕ) (k : ℕ) → 2 * k + 2 ≤ length s →
    digit_value (get_or s (2 * k) 0) * 16 + digit_value (get_or s (2 * k + 1) 0) ≡ get_or (bytes_of s) k 0
unfolding bytes_of
byte_here [] k h = absurd (omega arith)
byte_here (a ∷ []) k h = absurd (omega arith)
byte_here (a ∷ b ∷ s) zero h = refl
byte_here (a ∷ b ∷ s) (suc k) h =
    let high : 2 * suc k ≡ suc (suc (2 * k)) = omega arith in
    let low : 2 * suc k + 1 ≡ suc (suc (2 * k + 1)) = omega arith in
    rw (low, high) (byte_here s k (omega arith))

-- a byte more, after the first k of them at the start of the buffer
pub put_next :
    (bytes out : List ℕ) (k : ℕ) → k < length bytes → k < length out →
    set (take k bytes ++ drop k out) k (get_or bytes k 0) ≡ take (suc k) bytes ++ drop (suc k) out
put_next [] out k here room = absurd (omega arith)
put_next (b ∷ bytes) [] k here room = absurd (omega arith)
put_next (b ∷ bytes) (a ∷ out) zero here room = refl
put_next (b ∷ bytes) (a ∷ out) (suc k) here room = ap (λ s. b ∷ s) (put_next bytes out k (omega arith) (omega arith))
