-- With which bytes a buffer is filled, where those of the reader are known. Which bytes standard input has no contract can say.
use Rattle.std.specs.Prelude.{ℕ, ◌<◌, List, length, take, Result, Ok, Err, Option}
use Rattle.std.specs.Io.KnownBytes.{Consumes, IsAtEnd}
use Rattle.streams.specs.declared.Failed.{Failed}

-- Where the bytes of the reader are known: what was read is their start, and all of them where the buffer is not full. A read that fails
-- is before their end, so a failure is never taken for it.
abbrev pub FillsFrom : Result ℕ Failed → Option (List ℕ) → Option (List ℕ) → List ℕ → Type 0
FillsFrom (Ok n) before after buffer = Consumes before after (take n buffer) × (n < length buffer → IsAtEnd after)
FillsFrom (Err e) before after buffer = (n : ℕ) × (n < length buffer) × Consumes before after (take n buffer)
