-- Answers in document 01's numbers and values.
use Rattle.std.specs.Prelude.{ℕ, Bool, true, false, List, [], ◌∷◌}

-- Success with its values, or the number of the first question missed with what it adds.
pub data Answer : Type 0 where
  done : List ℕ → Answer
  refused : ℕ → List ℕ → Answer

-- the call succeeded
abbrev pub accepted : Answer → Bool
accepted (done vs) = true
accepted (refused n vs) = false

-- the number of the question missed, 0 for none
abbrev pub refusal : Answer → ℕ
refusal (done vs) = 0
refusal (refused n vs) = n

-- what a success reports
abbrev pub values : Answer → List ℕ
values (done vs) = vs
values (refused n vs) = []

-- an answer as a line of numbers: the question missed (0 for none), then the values
abbrev pub answer_line : Answer → List ℕ
answer_line (done vs) = 0 ∷ vs
answer_line (refused n vs) = n ∷ vs
