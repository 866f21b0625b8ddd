-- What the library is asked and what it tells: the calls of a replay, and two questions of its own.
use Rattle.std.specs.Prelude.{ℕ, suc, ◌≡◌, List, [], ◌∷◌, length, take, slice_index_or, nat_eq, nat_le}
use Rattle.sets.specs.Quantifiers.{pick}
use Rattle.sets.specs.Numbers.{number_at}
use Rattle.emergency.specs.declared.Token.{Token}
use Rattle.emergency.specs.Tokens.{no_token}
use Rattle.ledger_model.specs.Answer.{Answer, done, refused}
use Rattle.ledger_model.specs.Model.{Model}
use Rattle.ledger_model.specs.Questions.{Outcome}
use Rattle.replay_entries.specs.Entries.{Entry, malformed, Said, says, nothing, query_entry, said_to, buffer_after}

-- Why a call was not made: numbers of a byte that no question has. Every other status is 0, the number of the question missed, or 22 for
-- a place without a token.
abbrev pub malformed_status : ℕ
malformed_status = 101

abbrev pub too_short_status : ℕ
too_short_status = 102

abbrev pub not_a_ledger_status : ℕ
not_a_ledger_status = 103

-- a status and the values that come with it
pub record Told : Type 0 where
  pub status : ℕ
  pub values : List ℕ

abbrev pub told : ℕ → List ℕ → Told
told n vs = record { status = n; values = vs }

-- How it stands in the caller's memory: the status, how many values, the values. What stands behind them is free.
abbrev pub Holds : List ℕ → Told → Type 0
Holds answer t = take (suc (suc (length t.values))) answer ≡ t.status ∷ length t.values ∷ t.values

-- the status is returned too
pub record Answered (returned : ℕ) (numbers : List ℕ) (t : Told) : Type 0 where
  pub status : returned ≡ t.status
  pub answer : Holds numbers t

-- an answer of document 01 or 02
abbrev pub told_of : Answer → Told
told_of (done vs) = told 0 vs
told_of (refused n vs) = told n vs

-- what an entry of a replay is told
abbrev pub told_said : Said → Told
told_said (says tag a) = told_of a
told_said nothing = told malformed_status []

-- A card is read: as `cardcheck` counts, the records and the active directives; or the question missed, with what it adds.
abbrev pub told_read : Outcome → Told
told_read o = told_reading o.answer o.model
  where
    told_reading : Answer → Model → Told
    told_reading (done vs) m = told 0 (length m.register.records ∷ length m.active ∷ [])
    told_reading (refused n vs) m = told n vs

-- What may be asked of a ledger: what it holds, its token at a place, and what a replay asks.
pub data Inquiry : Type 0 where
  counts : Inquiry
  token : ℕ → Inquiry
  entry : Entry → Inquiry

-- tag 0x00, no value; tag 0x01, place 1; any other tag is the replay's
unfoldable pub inquiry_of : ℕ → List ℕ → Inquiry
inquiry_of tag v =
    pick (nat_eq tag 0x00) (pick (nat_eq (length v) 0) counts (entry malformed))
    (pick (nat_eq tag 0x01) (pick (nat_eq (length v) 1) (token (number_at 0 1 v)) (entry malformed))
    (entry (query_entry tag v)))

-- the numbers of a token
abbrev pub token_numbers : Token → List ℕ
token_numbers t = t.number ∷ t.person ∷ t.states ∷ t.until ∷ []

-- the model's answer; a place without a token is 22
abbrev pub told_to : Model → Inquiry → List ℕ → Told
told_to m counts buffer =
    told 0 (m.patient ∷ m.clock ∷ length m.register.records ∷ length m.active ∷ length m.tokens ∷ [])
told_to m (token i) buffer =
    pick (nat_le (length m.tokens) i) (told 22 []) (told 0 (token_numbers (slice_index_or m.tokens i no_token)))
told_to m (entry e) buffer = told_said (said_to m e buffer)

-- the lent buffer after it
abbrev pub buffer_to : Model → Inquiry → List ℕ → List ℕ
buffer_to m counts buffer = buffer
buffer_to m (token i) buffer = buffer
buffer_to m (entry e) buffer = buffer_after m e buffer
