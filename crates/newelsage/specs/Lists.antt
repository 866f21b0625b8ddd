-- "A single claim about a card and a whole list of .. calls": for the library. A card is read into a caller's memory, and each call is made on the memory that
-- the one before it left.
use Rattle.std.specs.Prelude.{ℕ, ◌≤◌, ◌≡◌, List, [], ◌∷◌}
use Rattle.ledger_model.specs.Model.{Model}
use Rattle.ledger.specs.declared.Ledger.{Ledger}
use Rattle.ledger.specs.State.{view}
use Rattle.ledger.specs.Invariant.{Invariant}
use Rattle.ledger_stored.specs.declared.StoredLedger.{StoredLedger}
use Rattle.ledger_stored.specs.Stored.{the_size, stored_of}
use Rattle.card.specs.Reading.{reading}
use Rattle.replay_entries.specs.Entries.{Entry, call_entry, said_to, after_entry}
use Rattle.newelsage.specs.Answers.{Told, Answered, told_said}
use Rattle.newelsage.specs.Library.{Reads, Calls}

-- Calls of the library one after the other, as the promise of newelsage_call has them: the memory before, the calls, what stands in the answers, the memory
-- after.
pub data Made : StoredLedger → List Entry → List Told → StoredLedger → Type 0 where
  none : {t : StoredLedger} → Made t [] [] t
  more :
      {t next last : StoredLedger} {es : List Entry} {ks : List Told} (size tag : ℕ) (v : List ℕ) (status : ℕ) (answer : List ℕ) (k : Told) →
      the_size ≤ size → Calls t size tag v status next answer → Answered status answer k → Made next es ks last →
      Made t (call_entry tag v ∷ es) (k ∷ ks) last

-- the plain book's answers to the same calls, and the book after them
abbrev pub book_tells : Model → List Entry → List Told
book_tells m [] = []
book_tells m (e ∷ es) = told_said (said_to m e []) ∷ book_tells (after_entry m e) es

abbrev pub book_after : Model → List Entry → Model
book_after m [] = m
book_after m (e ∷ es) = book_after (after_entry m e) es

-- After any card and any list of calls, refused ones included: every answer is the book's, and the memory holds a ledger of the library whose view is the
-- book. Whatever is asked of it then is answered as `Asks` says.
pub record KeptBy (m : Model) (es : List Entry) (ks : List Told) (last : StoredLedger) : Type 0 where
  pub answers : ks ≡ book_tells m es
  pub ledger : Ledger
  pub stored : last ≡ stored_of ledger
  pub book : view ledger ≡ book_after m es
  pub invariant : Invariant ledger

abbrev pub WholeLists : Type 0
WholeLists =
    (t first last : StoredLedger) (size : ℕ) (card : List ℕ) (status : ℕ) (answer : List ℕ) (es : List Entry) (ks : List Told)
    → the_size ≤ size → Reads t size card status first answer → Made first es ks last → KeptBy (reading card).model es ks last
