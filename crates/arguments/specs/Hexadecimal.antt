-- The bytes that a text writes in hexadecimal.
use Rattle.std.specs.Prelude.{ℕ, ◌+◌, ◌*◌, ◌/◌, ◌%◌, ◌≤◌, ◌≡◌, Bool, ◌&&◌, List, [], ◌∷◌, ◌++◌, Option, Some, None, IfSome, nat_eq, nat_le, length, drop, if◌then◌else◌}
use Rattle.std.specs.Char.{is_ascii_hexdigit, digit_value}
use Rattle.std.specs.List.{list_all}

-- two digits a byte, the high one first
unfoldable pub bytes_of : List ℕ → List ℕ
bytes_of [] = []
bytes_of (a ∷ []) = []
bytes_of (a ∷ b ∷ s) = (digit_value a * 16 + digit_value b) ∷ bytes_of s

-- every byte is a digit, and they are even in number; the empty text writes no bytes
abbrev pub is_hexadecimal : List ℕ → Bool
is_hexadecimal s = list_all is_ascii_hexdigit s && nat_eq (length s % 2) 0

-- the text writes bytes, and these fit a buffer of n
abbrev pub is_decoded : List ℕ → ℕ → Bool
is_decoded s n = is_hexadecimal s && nat_le (length s / 2) n

-- How many bytes a text is decoded to, and the buffer after it: the bytes at its start where they fit it, and otherwise the buffer as it
-- was.
pub record Decodes (s before : List ℕ) (r : Option ℕ) (after : List ℕ) : Type 0 where
  pub answer : r ≡ (if is_decoded s (length before) then Some (length s / 2) else None)
  pub buffer : after ≡ (if is_decoded s (length before) then bytes_of s ++ drop (length s / 2) before else before)

-- what is decoded, where it is bytes, has at most so many
abbrev pub AtMost : ℕ → Option ℕ → Type 0
AtMost most r = IfSome r (λ n. n ≤ most)
