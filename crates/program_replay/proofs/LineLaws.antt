-- Laws of an entry's line. The line of a write that succeeds shows the model's card, whatever stood in the lent buffer.
use Prim.Native.Nat.{ℕ, min}
use Rattle.std.proofs.Common.{is_ok, Ok, Err}
use mathlib.Core.Path.{◌≡◌, refl, ap, ◌∙◌}
use mathlib.Core.Bool.{Bool, true}
use mathlib.Core.List.{List, [], ◌∷◌, append_assoc}
use native.Mathlib.Omega.{arith}
use borrow.Author.Tests.{lt-ltb}
use lib.ListN.{length, take, length-take}
use lib.Dec.{ltb}
use lib.Seq.{take-append_seam}
use Rattle.sets.proofs.Lists.{take_held}
use Rattle.ledger.specs.declared.Ledger.{Ledger}
use Rattle.ledger_model.specs.Model.{Model}
use Rattle.ledger_model.specs.Answer.{done, refused}
use Rattle.ledger_model.specs.Questions.{passes}
use Rattle.ledger_model.proofs.Questions.{first_passed}
use Rattle.card.specs.Writing.{card_bytes, write_questions, writing, buffered}
use Rattle.replay_entries.specs.declared.entry.EntryAnswer.TheVariants as Case
use Rattle.replay_entries.specs.declared.shown.Line.{Line}
use Rattle.replay_entries.specs.Entries.{Entry, write, EntryReply, Said, says, nothing, said_of, line_of, shown_of, Shows, Performed}
use Rattle.text.specs.Text.{line_text}
use Rattle.program_replay.specs.Lines.{entry_text, goes_on_after}
use Rattle.program_replay.specs.Promises.{Prints, EntryTurn}

pub line_of_write :
    (m : Model) (n : ℕ) (lent : List ℕ) → passes (write_questions m (take n lent)) ≡ true →
    entry_text m (write n) lent ≡ line_text (0 ∷ length (card_bytes m) ∷ []) (card_bytes m)
unfolding writing buffered
line_of_write m n lent e =
    let card = card_bytes m in
    rw (first_passed (write_questions m (take n lent)) (done (length card ∷ [])) e, e, append_assoc, take-append_seam)

-- a line has numbers just where the replay goes on after it
has_numbers : (s : Said) → ltb 0 (length (line_of s)) ≡ goes_on_after s
has_numbers (says tag (done vs)) = lt-ltb 0 (length (0 ∷ vs)) (omega arith)
has_numbers (says tag (refused n vs)) = lt-ltb 0 (length (n ∷ vs)) (omega arith)
has_numbers nothing = refl

-- what is told goes on
told : (a : EntryReply) → is_ok a ≡ goes_on_after (said_of a)
told (Ok (Case.Commit a)) = refl
told (Ok (Case.Revoke a)) = refl
told (Ok (Case.Advance a)) = refl
told (Ok (Case.Issue a)) = refl
told (Ok (Case.Decide a)) = refl
told (Ok (Case.Brief a)) = refl
told (Ok (Case.Write a)) = refl
told (Ok (Case.Preview a)) = refl
told (Err m) = refl

-- the numbers of a line and the lent bytes that it shows, or all where there are fewer
pub printed :
    (a : EntryReply) {line : Line} {n : ℕ} {out : List ℕ} (lent : List ℕ) → Shows line (line_of (said_of a)) (shown_of (said_of a)) →
    n ≡ min line.bytes (length lent) → out ≡ line_text (take line.count line.numbers) (take n lent) →
    Prints (said_of a) lent (is_ok a) out
printed a lent shows e text =
    record {
      line = rw (shows.numbers, e, shows.bytes, ← length-take (shown_of (said_of a)) lent, take_held (shown_of (said_of a)) lent) at text;
      goes_on = told a;
    }

-- an entry that is performed and whose answer is printed
pub turned :
    {l next : Ledger} {e : Entry} {before after out : List ℕ} {a : EntryReply} {more : Bool} →
    Performed l e before a next after → Prints (said_of a) after more out → EntryTurn l e before next more after out
turned performed prints =
    record {
      line = rw (performed.answer, performed.buffer) at prints.line;
      ledger = performed.ledger;
      unchanged = λ f. performed.unchanged (rw performed.answer f);
      invariant = performed.invariant;
      lent = performed.buffer;
      goes_on = prints.goes_on ∙ ap goes_on_after performed.answer;
    }
