-- Lines as they are printed: `0 1 0`, the sample card's; `0 1 3 1024`; `0 2 01af`, as a write's; `malformed`.
use mathlib.Core.Path.{◌≡◌, refl}
use mathlib.Core.List.{[], ◌∷◌}
use Rattle.text.specs.Text.{decimal_by, next_text, numbers_text, hex_text, bytes_text, malformed_word, line_body, line_text}

pub sample_card : line_text (0 ∷ 1 ∷ 0 ∷ []) [] ≡ 48 ∷ 32 ∷ 49 ∷ 32 ∷ 48 ∷ 10 ∷ []
unfolding decimal_by next_text numbers_text bytes_text line_body
sample_card = refl

pub four_numbers :
    line_text (0 ∷ 1 ∷ 3 ∷ 1024 ∷ []) []
    ≡ 48 ∷ 32 ∷ 49 ∷ 32 ∷ 51 ∷ 32 ∷ 49 ∷ 48 ∷ 50 ∷ 52 ∷ 10 ∷ []
unfolding decimal_by next_text numbers_text bytes_text line_body
four_numbers = refl

pub two_bytes :
    line_text (0 ∷ 2 ∷ []) (0x01 ∷ 0xaf ∷ []) ≡ 48 ∷ 32 ∷ 50 ∷ 32 ∷ 48 ∷ 49 ∷ 97 ∷ 102 ∷ 10 ∷ []
unfolding decimal_by next_text numbers_text hex_text bytes_text line_body
two_bytes = refl

pub no_numbers : line_text [] [] ≡ 109 ∷ 97 ∷ 108 ∷ 102 ∷ 111 ∷ 114 ∷ 109 ∷ 101 ∷ 100 ∷ 10 ∷ []
unfolding malformed_word line_body
no_numbers = refl
