-- The words of the table that `access` prints, in ASCII.
use Rattle.std.specs.Prelude.{ℕ, List, [], ◌∷◌}

-- `record `
unfoldable pub record_word : List ℕ
record_word = 114 ∷ 101 ∷ 99 ∷ 111 ∷ 114 ∷ 100 ∷ 32 ∷ []

-- `: `
unfoldable pub colon_word : List ℕ
colon_word = 58 ∷ 32 ∷ []

-- `permit`
unfoldable pub permit_word : List ℕ
permit_word = 112 ∷ 101 ∷ 114 ∷ 109 ∷ 105 ∷ 116 ∷ []

-- `deny`
unfoldable pub deny_word : List ℕ
deny_word = 100 ∷ 101 ∷ 110 ∷ 121 ∷ []

-- `, basis `
unfoldable pub basis_word : List ℕ
basis_word = 44 ∷ 32 ∷ 98 ∷ 97 ∷ 115 ∷ 105 ∷ 115 ∷ 32 ∷ []

-- ` (`
unfoldable pub open_word : List ℕ
open_word = 32 ∷ 40 ∷ []

-- `patient`
unfoldable pub patient_word : List ℕ
patient_word = 112 ∷ 97 ∷ 116 ∷ 105 ∷ 101 ∷ 110 ∷ 116 ∷ []

-- `author`
unfoldable pub author_word : List ℕ
author_word = 97 ∷ 117 ∷ 116 ∷ 104 ∷ 111 ∷ 114 ∷ []

-- `directive `
unfoldable pub directive_word : List ℕ
directive_word = 100 ∷ 105 ∷ 114 ∷ 101 ∷ 99 ∷ 116 ∷ 105 ∷ 118 ∷ 101 ∷ 32 ∷ []

-- `default`
unfoldable pub default_word : List ℕ
default_word = 100 ∷ 101 ∷ 102 ∷ 97 ∷ 117 ∷ 108 ∷ 116 ∷ []

-- `)`
unfoldable pub close_word : List ℕ
close_word = 41 ∷ []

-- `refused, question `
unfoldable pub refused_word : List ℕ
refused_word = 114 ∷ 101 ∷ 102 ∷ 117 ∷ 115 ∷ 101 ∷ 100 ∷ 44 ∷ 32 ∷ 113 ∷ 117 ∷ 101 ∷ 115 ∷ 116 ∷ 105 ∷ 111 ∷ 110 ∷ 32 ∷ []

-- `, changes to `
unfoldable pub changes_word : List ℕ
changes_word = 44 ∷ 32 ∷ 99 ∷ 104 ∷ 97 ∷ 110 ∷ 103 ∷ 101 ∷ 115 ∷ 32 ∷ 116 ∷ 111 ∷ 32 ∷ []

-- `records that change: `
unfoldable pub count_word : List ℕ
count_word = 114 ∷ 101 ∷ 99 ∷ 111 ∷ 114 ∷ 100 ∷ 115 ∷ 32 ∷ 116 ∷ 104 ∷ 97 ∷ 116 ∷ 32 ∷ 99 ∷ 104 ∷ 97 ∷ 110 ∷ 103 ∷ 101 ∷ 58 ∷ 32 ∷ []

-- `card refused: question `
unfoldable pub card_refused_word : List ℕ
card_refused_word = 99 ∷ 97 ∷ 114 ∷ 100 ∷ 32 ∷ 114 ∷ 101 ∷ 102 ∷ 117 ∷ 115 ∷ 101 ∷ 100 ∷ 58 ∷ 32 ∷ 113 ∷ 117 ∷ 101 ∷ 115 ∷ 116 ∷ 105 ∷ 111 ∷ 110 ∷ 32 ∷ []

-- `draft refused: question `
unfoldable pub draft_refused_word : List ℕ
draft_refused_word = 100 ∷ 114 ∷ 97 ∷ 102 ∷ 116 ∷ 32 ∷ 114 ∷ 101 ∷ 102 ∷ 117 ∷ 115 ∷ 101 ∷ 100 ∷ 58 ∷ 32 ∷ 113 ∷ 117 ∷ 101 ∷ 115 ∷ 116 ∷ 105 ∷ 111 ∷ 110 ∷ 32 ∷ []

-- `, directive `
unfoldable pub named_word : List ℕ
named_word = 44 ∷ 32 ∷ 100 ∷ 105 ∷ 114 ∷ 101 ∷ 99 ∷ 116 ∷ 105 ∷ 118 ∷ 101 ∷ 32 ∷ []

-- `requester refused: question `
unfoldable pub requester_refused_word : List ℕ
requester_refused_word = 114 ∷ 101 ∷ 113 ∷ 117 ∷ 101 ∷ 115 ∷ 116 ∷ 101 ∷ 114 ∷ 32 ∷ 114 ∷ 101 ∷ 102 ∷ 117 ∷ 115 ∷ 101 ∷ 100 ∷ 58 ∷ 32 ∷ 113 ∷ 117 ∷ 101 ∷ 115 ∷ 116 ∷ 105 ∷ 111 ∷ 110 ∷ 32 ∷ []
