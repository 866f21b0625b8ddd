-- The text of the line that a replay prints for an entry.
use Rattle.std.specs.Prelude.{ℕ, Bool, true, false, List, take}
use Rattle.ledger_model.specs.Model.{Model}
use Rattle.replay_entries.specs.Entries.{Entry, Said, says, nothing, said_to, buffer_after, line_of, shown_of}
use Rattle.text.specs.Text.{line_text}

-- the line of what an entry is told; `malformed` where it is malformed
abbrev pub said_text : Said → List ℕ → List ℕ
said_text s lent = line_text (line_of s) (take (shown_of s) lent)

-- the line of an entry, on this model and with this buffer lent
abbrev pub entry_text : Model → Entry → List ℕ → List ℕ
entry_text m e lent = said_text (said_to m e lent) (buffer_after m e lent)

-- "the line `malformed`, and the replay ends there"
abbrev pub goes_on_after : Said → Bool
goes_on_after (says tag a) = true
goes_on_after nothing = false
