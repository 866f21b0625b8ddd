-- What is written, where the bytes that a writer holds are known, and the exit status. Which bytes standard output takes no contract can say.
use Rattle.std.specs.Prelude.{ℕ, ◌<◌, ◌≡◌, ◌⊎◌, List, length, take, Result, Ok, Err, Option}
use Rattle.std.specs.Io.KnownBytes.{Appends}
use Rattle.streams.specs.declared.Failed.{Failed}
use Rattle.streams.specs.declared.Status.{Status}
use Rattle.streams.specs.declared.Status.TheVariants as Ends

-- some of the bytes, at their start, and not all
abbrev pub PutsPart : Option (List ℕ) → Option (List ℕ) → List ℕ → Type 0
PutsPart before after bytes = (n : ℕ) × (n < length bytes) × Appends before after (take n bytes)

-- all of the bytes, or a part where a write failed
abbrev pub Puts : Result (Unit {0}) Failed → Option (List ℕ) → Option (List ℕ) → List ℕ → Type 0
Puts (Ok done) before after bytes = Appends before after bytes
Puts (Err e) before after bytes = PutsPart before after bytes

-- the number of the exit status
abbrev pub number_of : Status → ℕ
number_of Ends.Success = 0
number_of Ends.Refused = 1
number_of Ends.Failed = 2

-- how a program ends that refuses nothing
abbrev pub status_of : Result (Unit {0}) Failed → Status
status_of (Ok done) = Ends.Success
status_of (Err e) = Ends.Failed

-- success where all of the bytes were written, and a failure where a write failed
abbrev pub PutsLast : Status → Option (List ℕ) → Option (List ℕ) → List ℕ → Type 0
PutsLast status before after bytes =
    ((status ≡ Ends.Success) × Appends before after bytes) ⊎ ((status ≡ Ends.Failed) × PutsPart before after bytes)
