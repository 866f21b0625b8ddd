-- What a whole run prints, where the bytes that its reader gives and its writer holds are known. Which bytes standard input gives no contract
-- can say.
use Rattle.std.specs.Prelude.{ℕ, List, [], take, Option, IfSome}
use Rattle.card.specs.Reading.{card_line}
use Rattle.text.specs.Text.{line_text}
use Rattle.streams.specs.declared.Status.{Status}
use Rattle.streams.specs.Writes.{PutsLast}

-- the line of an input, of which the first 65,535 bytes are the card
abbrev pub line_of : List ℕ → List ℕ
line_of input = line_text (card_line (take 65535 input)) []

-- Success where this line was printed whole. Otherwise the program failed, and at most a part of it was printed.
abbrev pub Answers : Status → Option (List ℕ) → Option (List ℕ) → Option (List ℕ) → Type 0
Answers status input before after = IfSome input (λ bytes. PutsLast status before after (line_of bytes))
