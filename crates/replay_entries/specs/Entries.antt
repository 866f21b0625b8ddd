-- A replay: a card, and calls on the ledger that it gives, each a tag and a value. What each entry means, answers and prints.
use Rattle.std.specs.Prelude.{ℕ, ◌≡◌, Bool, false, ◌||◌, List, [], ◌++◌, length, take, drop, slice_index_or, nat_eq, nat_le, Result, Ok, Err}
use Rattle.sets.specs.Quantifiers.{pick}
use Rattle.sets.specs.Numbers.{number_at}
use Rattle.directive.specs.declared.Query.{Query}
use Rattle.directive.specs.declared.Requester.{Requester}
use Rattle.validation_meaning.specs.Judgement.{meant}
use Rattle.ledger.specs.declared.Ledger.{Ledger}
use Rattle.ledger_model.specs.Model.{Model}
use Rattle.ledger.specs.State.{view}
use Rattle.ledger_model.specs.Answer.{Answer, accepted, values, answer_line}
use Rattle.ledger.specs.Answer.{commit_answer, revoke_answer, advance_answer, issue_answer, brief_answer, decide_answer}
use Rattle.ledger_model.specs.Calls.{Call, commit, revoke, advance, issue, called_by, decided, briefed}
use Rattle.ledger_model.specs.Preview.{previewed}
use Rattle.ledger.specs.Invariant.{Invariant}
use Rattle.ledger.specs.Promises.{After}
use Rattle.ledger_preview.specs.Answer.{preview_answer}
use Rattle.card.specs.Answer.{write_answer}
use Rattle.card.specs.Writing.{writing, buffered}
use Rattle.replay_entries.specs.declared.entry.EntryAnswer.{EntryAnswer}
use Rattle.replay_entries.specs.declared.entry.EntryAnswer.TheVariants as Case
use Rattle.replay_entries.specs.declared.entry.Malformed.{Malformed}
use Rattle.replay_entries.specs.declared.shown.Line.{Line}

-- An entry: a call that can change the ledger, a decide, a brief for a number and a person, a write into a buffer of a length, a preview
-- of a draft's bytes for a requester.
pub data Entry : Type 0 where
  call : Call → Entry
  decide : Query → Entry
  brief : ℕ → ℕ → Entry
  write : ℕ → Entry
  preview : Requester → List ℕ → Entry
  malformed : Entry

abbrev pub query_size : ℕ
query_size = 7

-- decide's value: person 2, role 2, origin 1, record 1, purpose 1
abbrev pub query_of : List ℕ → Query
query_of v =
    record {
      requester =
          record {
            person = number_at 0 2 v;
            role = number_at 2 2 v;
            origin = number_at 4 1 v;
            purpose = number_at 6 1 v;
          };
      «record» = number_at 5 1 v;
    }

abbrev pub requester_size : ℕ
requester_size = 6

-- a requester: person 2, role 2, origin 1, purpose 1
abbrev pub requester_of : List ℕ → Requester
requester_of v =
    record {
      person = number_at 0 2 v;
      role = number_at 2 2 v;
      origin = number_at 4 1 v;
      purpose = number_at 5 1 v;
    }

-- the entry e where the value has n bytes
abbrev pub sized : ℕ → List ℕ → Entry → Entry
sized n v e = pick (nat_eq (length v) n) e malformed

-- The entry that a value writes under each tag: a draft has any length, also after a requester, and any other value its one length.
abbrev pub commit_entry : List ℕ → Entry
commit_entry v = call (commit v)

-- number 2
abbrev pub revoke_entry : List ℕ → Entry
revoke_entry v = sized 2 v (call (revoke (number_at 0 2 v)))

-- minute 4
abbrev pub advance_entry : List ℕ → Entry
advance_entry v = sized 4 v (call (advance (number_at 0 4 v)))

-- number 2, person 2, state set 1, length 4
abbrev pub issue_entry : List ℕ → Entry
issue_entry v = sized 9 v (call (issue (number_at 0 2 v) (number_at 2 2 v) (number_at 4 1 v) (number_at 5 4 v)))

abbrev pub decide_entry : List ℕ → Entry
decide_entry v = sized query_size v (decide (query_of v))

-- number 2, person 2
abbrev pub brief_entry : List ℕ → Entry
brief_entry v = sized 4 v (brief (number_at 0 2 v) (number_at 2 2 v))

-- length of the lent buffer 2
abbrev pub write_entry : List ℕ → Entry
write_entry v = sized 2 v (write (number_at 0 2 v))

-- preview's value: a requester, then a draft
abbrev pub preview_entry : List ℕ → Entry
preview_entry v =
    pick (nat_le requester_size (length v)) (preview (requester_of v) (drop requester_size v)) malformed

-- The entry that a tag and a value write.
unfoldable pub entry_of : ℕ → List ℕ → Entry
entry_of tag v =
    pick (nat_eq tag 0x10) (commit_entry v)
    (pick (nat_eq tag 0x11) (revoke_entry v)
    (pick (nat_eq tag 0x12) (advance_entry v)
    (pick (nat_eq tag 0x13) (issue_entry v)
    (pick (nat_eq tag 0x14) (decide_entry v)
    (pick (nat_eq tag 0x15) (brief_entry v)
    (pick (nat_eq tag 0x16) (write_entry v)
    (pick (nat_eq tag 0x17) (preview_entry v) malformed)))))))

-- the tags of the calls that can change the ledger
unfoldable pub is_call : ℕ → Bool
is_call tag = nat_eq tag 0x10 || nat_eq tag 0x11 || nat_eq tag 0x12 || nat_eq tag 0x13

-- the entry of such a tag; any other is malformed
abbrev pub call_entry : ℕ → List ℕ → Entry
call_entry tag v = pick (is_call tag) (entry_of tag v) malformed

-- the entry of any other tag; one of a call is malformed
abbrev pub query_entry : ℕ → List ℕ → Entry
query_entry tag v = pick (is_call tag) malformed (entry_of tag v)

-- What an entry is told: an answer of document 01 or 02 to the call of a tag, or that it is malformed.
pub data Said : Type 0 where
  says : ℕ → Answer → Said
  nothing : Said

abbrev pub answer_of : EntryAnswer → Said
answer_of (Case.Commit a) = says 0x10 (commit_answer a)
answer_of (Case.Revoke a) = says 0x11 (revoke_answer a)
answer_of (Case.Advance a) = says 0x12 (advance_answer a)
answer_of (Case.Issue a) = says 0x13 (issue_answer a)
answer_of (Case.Decide a) = says 0x14 (decide_answer a)
answer_of (Case.Brief a) = says 0x15 (brief_answer a)
answer_of (Case.Write a) = says 0x16 (write_answer a)
answer_of (Case.Preview a) = says 0x17 (preview_answer a)

-- what an entry comes to
abbrev pub EntryReply : Type 0
EntryReply = Result EntryAnswer Malformed

abbrev pub said_of : EntryReply → Said
said_of (Ok a) = answer_of a
said_of (Err m) = nothing

-- the tag of a call
abbrev pub call_tag : Call → ℕ
call_tag (commit s) = 0x10
call_tag (revoke n) = 0x11
call_tag (advance t) = 0x12
call_tag (issue n p states minutes) = 0x13

-- the model's answer to an entry; a write is lent the start of the buffer
abbrev pub said_to : Model → Entry → List ℕ → Said
said_to m (call c) buffer = says (call_tag c) (called_by meant m c).answer
said_to m (decide q) buffer = says 0x14 (decided m q)
said_to m (brief n p) buffer = says 0x15 (briefed m n p)
said_to m (write n) buffer = says 0x16 (writing m (take n buffer))
said_to m (preview w s) buffer = says 0x17 (previewed m s w)
said_to m malformed buffer = nothing

-- the model after an entry
abbrev pub after_entry : Model → Entry → Model
after_entry m (call c) = (called_by meant m c).model
after_entry m (decide q) = m
after_entry m (brief n p) = m
after_entry m (write n) = m
after_entry m (preview w s) = m
after_entry m malformed = m

-- the buffer after an entry: what is past the part that was lent stays
abbrev pub lent_after : Model → ℕ → List ℕ → List ℕ
lent_after m n buffer = buffered m (take n buffer) ++ drop n buffer

abbrev pub buffer_after : Model → Entry → List ℕ → List ℕ
buffer_after m (call c) buffer = buffer
buffer_after m (decide q) buffer = buffer
buffer_after m (brief n p) buffer = buffer
buffer_after m (write n) buffer = lent_after m n buffer
buffer_after m (preview w s) buffer = buffer
buffer_after m malformed buffer = buffer

-- all that can change the ledger is a call that succeeds
abbrev pub changes : Entry → Said → Bool
changes (call c) (says tag a) = accepted a
changes (call c) nothing = false
changes (decide q) s = false
changes (brief n p) s = false
changes (write n) s = false
changes (preview w s) a = false
changes malformed s = false

-- One entry on a ledger that keeps the invariant: the answer, the ledger's view and the buffer are the model's; a call that is refused
-- gives back the ledger itself, as does every entry that is no call. What stands past a count after a successful call is free.
pub record Performed (l : Ledger) (e : Entry) (before : List ℕ) (a : EntryReply) (next : Ledger) (after : List ℕ) : Type 0 where
  pub answer : said_of a ≡ said_to (view l) e before
  pub ledger : view next ≡ after_entry (view l) e
  pub unchanged : changes e (said_of a) ≡ false → next ≡ l
  pub buffer : after ≡ buffer_after (view l) e before
  pub invariant : Invariant next

-- A call's reply, and the ledger after it.
abbrev pub EntryResult : Type 0
EntryResult = After EntryReply

-- A call: it is lent no buffer, and leaves any.
abbrev pub Performs : Ledger → Entry → EntryResult → Type 0
Performs l e r = Invariant l → (buffer : List ℕ) → Performed l e buffer r.answer r.ledger buffer

-- A query gives an answer and no ledger: the ledger after it is l itself.
abbrev pub Answers : Ledger → Entry → List ℕ → EntryReply → List ℕ → Type 0
Answers l e before a after = Invariant l → Performed l e before a l after

-- The numbers of a line: 0 and the values, or the number of the question missed and what it adds.
abbrev pub line_of : Said → List ℕ
line_of (says tag a) = answer_line a
line_of nothing = []

-- write: "`0`, the length L, the L bytes": how many bytes of the lent buffer stand in the line
abbrev pub length_of : Answer → ℕ
length_of a = slice_index_or (values a) 0 0

abbrev pub shown_of : Said → ℕ
shown_of (says tag a) = pick (nat_eq tag 0x16) (length_of a) 0
shown_of nothing = 0

-- A line shows these numbers, and after them n bytes of the lent buffer.
pub record Shows (l : Line) (ns : List ℕ) (n : ℕ) : Type 0 where
  pub count : l.count ≡ length ns
  pub numbers : take l.count l.numbers ≡ ns
  pub bytes : l.bytes ≡ n
