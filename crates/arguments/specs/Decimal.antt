-- The number that a text writes in decimal.
use Rattle.std.specs.Prelude.{ℕ, ◌+◌, ◌-◌, ◌*◌, ◌≤◌, Bool, ◌&&◌, List, Option, Some, None, IfSome, nat_le, nat_lt, length, fold, if◌then◌else◌}
use Rattle.std.specs.Char.{is_ascii_digit}
use Rattle.std.specs.List.{list_all}

-- what the digit counts
abbrev pub digit_of : ℕ → ℕ
digit_of b = b - 48

-- the number that these digits write
abbrev pub value : List ℕ → ℕ
value s = fold (λ n b. n * 10 + digit_of b) 0 s

-- not empty, and every byte is a digit
abbrev pub is_decimal : List ℕ → Bool
is_decimal s = nat_lt 0 (length s) && list_all is_ascii_digit s

abbrev pub most_digits : ℕ
most_digits = 5

-- The number that the text writes, where that is at most the bound. Zeros may stand in front, within the five digits.
-- Refused: the empty text, a sign, a blank or any other byte that is no digit, more than five digits, a number above the bound.
abbrev pub number_up_to : ℕ → List ℕ → Option ℕ
number_up_to most s =
    if is_decimal s && nat_le (length s) most_digits && nat_le (value s) most then Some (value s) else None

-- what is parsed, where it is a number, is at most the bound
abbrev pub Bounded : ℕ → Option ℕ → Type 0
Bounded most r = IfSome r (λ n. n ≤ most)
