-- Texts, and what they are read as.
use Rattle.std.proofs.Common.{◌≡◌, true, false, [], ◌∷◌, Some, None, refl}
use Rattle.arguments.specs.Decimal.{number_up_to}
use Rattle.arguments.specs.Hexadecimal.{bytes_of, is_hexadecimal}

-- `0`
pub zero_taken : number_up_to 65535 (48 ∷ []) ≡ Some 0
zero_taken = refl

-- `65535`, at the bound
pub bound_taken : number_up_to 65535 (54 ∷ 53 ∷ 53 ∷ 51 ∷ 53 ∷ []) ≡ Some 65535
bound_taken = refl

-- `65536`, above it
pub above_bound : number_up_to 65535 (54 ∷ 53 ∷ 53 ∷ 51 ∷ 54 ∷ []) ≡ None
above_bound = refl

-- `00042`, with zeros in front
pub zeros_in_front : number_up_to 65535 (48 ∷ 48 ∷ 48 ∷ 52 ∷ 50 ∷ []) ≡ Some 42
zeros_in_front = refl

-- `000042`, which has six digits
pub six_digits : number_up_to 65535 (48 ∷ 48 ∷ 48 ∷ 48 ∷ 52 ∷ 50 ∷ []) ≡ None
six_digits = refl

pub empty_text : number_up_to 65535 [] ≡ None
empty_text = refl

-- `+1`
pub with_a_sign : number_up_to 65535 (43 ∷ 49 ∷ []) ≡ None
with_a_sign = refl

-- `1` and a blank
pub with_a_blank : number_up_to 65535 (49 ∷ 32 ∷ []) ≡ None
with_a_blank = refl

-- `00fFA0`, in small letters and capitals
pub bytes_written : bytes_of (48 ∷ 48 ∷ 102 ∷ 70 ∷ 65 ∷ 48 ∷ []) ≡ 0 ∷ 255 ∷ 160 ∷ []
unfolding bytes_of
bytes_written = refl

pub both_cases : is_hexadecimal (48 ∷ 48 ∷ 102 ∷ 70 ∷ 65 ∷ 48 ∷ []) ≡ true
both_cases = refl

pub no_digits : is_hexadecimal [] ≡ true
no_digits = refl

-- `00f`
pub odd_digits : is_hexadecimal (48 ∷ 48 ∷ 102 ∷ []) ≡ false
odd_digits = refl

-- `0g`
pub no_digit : is_hexadecimal (48 ∷ 103 ∷ []) ≡ false
no_digit = refl

-- `00 1`
pub with_a_blank_between : is_hexadecimal (48 ∷ 48 ∷ 32 ∷ 49 ∷ []) ≡ false
with_a_blank_between = refl
