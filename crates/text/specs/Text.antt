-- The text of the lines that the programs print, in ASCII. Of a card: "prints one line: refusal (0 for none), records, active
-- directives, each decimal, one blank between." A replay prints such lines too, and the word `malformed`.
use Rattle.std.specs.Prelude.{ℕ, zero, suc, ◌/◌, ◌%◌, List, [], ◌∷◌, ◌++◌, nat_le}
use Rattle.io.specs.Digits.{hex_digit_ascii, last_digits}
use Rattle.sets.specs.Quantifiers.{pick}

-- at most k decimal digits of n, the highest first and no zero in front
unfoldable pub decimal_by : ℕ → ℕ → List ℕ
decimal_by zero n = []
decimal_by (suc k) n = pick (nat_le 10 n) (decimal_by k (n / 10)) [] ++ (hex_digit_ascii (n % 10) ∷ [])

-- "each decimal": all of n's digits, of which there are at most n + 1
abbrev pub decimal : ℕ → List ℕ
decimal n = decimal_by (suc n) n

abbrev pub blank : ℕ
blank = 32

abbrev pub line_end : ℕ
line_end = 10

-- numbers that follow one: a blank before each
unfoldable pub next_text : List ℕ → List ℕ
next_text [] = []
next_text (n ∷ ns) = blank ∷ decimal n ++ next_text ns

-- "each decimal, one blank between"
unfoldable pub numbers_text : List ℕ → List ℕ
numbers_text [] = []
numbers_text (n ∷ ns) = decimal n ++ next_text ns

-- "the L bytes in lowercase hexadecimal": two digits a byte
unfoldable pub hex_text : List ℕ → List ℕ
hex_text [] = []
hex_text (b ∷ bs) = last_digits 16 2 b ++ hex_text bs

-- bytes after numbers: a blank and the bytes, where there are any
unfoldable pub bytes_text : List ℕ → List ℕ
bytes_text [] = []
bytes_text (b ∷ bs) = blank ∷ hex_text (b ∷ bs)

-- the word `malformed`
unfoldable pub malformed_word : List ℕ
malformed_word = 109 ∷ 97 ∷ 108 ∷ 102 ∷ 111 ∷ 114 ∷ 109 ∷ 101 ∷ 100 ∷ []

-- what stands in a line: the word `malformed` where there are no numbers, or the numbers and then the bytes
unfoldable pub line_body : List ℕ → List ℕ → List ℕ
line_body [] bytes = malformed_word
line_body (n ∷ ns) bytes = numbers_text (n ∷ ns) ++ bytes_text bytes

-- "prints one line"
abbrev pub line_text : List ℕ → List ℕ → List ℕ
line_text numbers bytes = line_body numbers bytes ++ (line_end ∷ [])
