-- What the library's functions leave in the caller's memory. Memory that is too short, or does not begin as a ledger does, is refused.
-- Memory that the library made holds `stored_of l` for a ledger l that keeps the invariant: there each function's answer and
-- what it leaves are the reference model's. On any other memory that begins so, a call and a question end, and what they tell is free, but
-- they tell something: the status is returned, and stands with its values in the answer.
use Rattle.std.specs.Prelude.{ℕ, ◌<◌, ◌≤◌, ◌≡◌, false, List, [], nat_eq}
use Rattle.ledger_model.specs.Answer.{accepted}
use Rattle.ledger.specs.declared.Ledger.{Ledger}
use Rattle.ledger.specs.State.{view, empty_ledger}
use Rattle.ledger.specs.Invariant.{Invariant}
use Rattle.ledger_stored.specs.declared.StoredLedger.{StoredLedger}
use Rattle.ledger_stored.specs.Stored.{the_stamp, the_size, stored_of}
use Rattle.card.specs.Reading.{reading}
use Rattle.replay_entries.specs.Entries.{Entry, call_entry, said_to, after_entry, changes}
use Rattle.newelsage.specs.Answers.{too_short_status, not_a_ledger_status, Told, told as said, Answered, told_said, told_read, Inquiry, inquiry_of, told_to, buffer_to}

-- newelsage_empty: the empty ledger, which keeps the invariant.
pub record Empties (t : StoredLedger) (size status : ℕ) (after : StoredLedger) : Type 0 where
  pub short : size < the_size → (status ≡ too_short_status) × (after ≡ t)
  pub whole : the_size ≤ size → (status ≡ 0) × (after ≡ stored_of empty_ledger)
  pub invariant : Invariant empty_ledger

-- A card is read, whatever stood in the memory: what is told and the ledger are the definition's; a refused card leaves the empty ledger.
pub record ReadIn (card : List ℕ) (status : ℕ) (after : StoredLedger) (answer : List ℕ) : Type 0 where
  pub told : Answered status answer (told_read (reading card))
  pub next : Ledger
  pub stored : after ≡ stored_of next
  pub model : view next ≡ (reading card).model
  pub empty : accepted (reading card).answer ≡ false → next ≡ empty_ledger
  pub invariant : Invariant next

-- newelsage_read
pub record Reads (t : StoredLedger) (size : ℕ) (card : List ℕ) (status : ℕ) (after : StoredLedger) (answer : List ℕ) : Type 0 where
  pub short : size < the_size → Answered status answer (said too_short_status []) × (after ≡ t)
  pub whole : the_size ≤ size → ReadIn card status after answer

-- A call on the ledger l, as a replay's entry has it: what is told, and the ledger after it; a call that is refused, and one that is
-- malformed, leaves the ledger itself.
pub record CalledOn (l : Ledger) (e : Entry) (status : ℕ) (after : StoredLedger) (answer : List ℕ) : Type 0 where
  pub told : Answered status answer (told_said (said_to (view l) e []))
  pub next : Ledger
  pub stored : after ≡ stored_of next
  pub model : view next ≡ after_entry (view l) e
  pub unchanged : changes e (said_to (view l) e []) ≡ false → next ≡ l
  pub invariant : Invariant next

pub record CalledIn (t : StoredLedger) (tag : ℕ) (v : List ℕ) (status : ℕ) (after : StoredLedger) (answer : List ℕ) : Type 0 where
  pub some : Told
  pub told : Answered status answer some
  pub other : nat_eq t.stamp the_stamp ≡ false → (some ≡ said not_a_ledger_status []) × (after ≡ t)
  pub ledger : (l : Ledger) → t ≡ stored_of l → Invariant l → CalledOn l (call_entry tag v) status after answer

-- newelsage_call
pub record Calls (t : StoredLedger) (size tag : ℕ) (v : List ℕ) (status : ℕ) (after : StoredLedger) (answer : List ℕ) : Type 0 where
  pub short : size < the_size → Answered status answer (said too_short_status []) × (after ≡ t)
  pub whole : the_size ≤ size → CalledIn t tag v status after answer

-- A question to the ledger l: what is told, and the lent buffer after it.
pub record AskedOn (l : Ledger) (q : Inquiry) (before : List ℕ) (status : ℕ) (after answer : List ℕ) : Type 0 where
  pub told : Answered status answer (told_to (view l) q before)
  pub buffer : after ≡ buffer_to (view l) q before

pub record AskedIn (t : StoredLedger) (tag : ℕ) (v before : List ℕ) (status : ℕ) (after answer : List ℕ) : Type 0 where
  pub some : Told
  pub told : Answered status answer some
  pub other : nat_eq t.stamp the_stamp ≡ false → (some ≡ said not_a_ledger_status []) × (after ≡ before)
  pub ledger : (l : Ledger) → t ≡ stored_of l → Invariant l → AskedOn l (inquiry_of tag v) before status after answer

-- newelsage_ask; the ledger's memory is lent to be read alone
pub record Asks (t : StoredLedger) (size tag : ℕ) (v before : List ℕ) (status : ℕ) (after answer : List ℕ) : Type 0 where
  pub short : size < the_size → Answered status answer (said too_short_status []) × (after ≡ before)
  pub whole : the_size ≤ size → AskedIn t tag v before status after answer
