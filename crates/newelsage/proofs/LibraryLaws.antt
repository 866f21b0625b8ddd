-- From what reading, an entry and the answer's functions promise to what is left in the caller's memory.
use Prim.Native.Nat.{ℕ, zero, suc, ◌+◌, ◌≤◌}
use mathlib.Core.Path.{◌≡◌, refl, sym, ap, subst, ◌∙◌}
use mathlib.Core.Bool.{true≢false}
use mathlib.Core.List.{List, [], ◌∷◌}
use lib.ListN.{length, get_or}
use native.Mathlib.Omega.{arith}
use Rattle.sets.specs.Numbers.{number_from}
use borrow.Author.Tests.{eq-eqb, ne_eqb}
use Rattle.ledger.specs.declared.Ledger.{Ledger}
use Rattle.ledger.specs.Invariant.{Invariant}
use Rattle.ledger_stored.specs.declared.StoredLedger.{StoredLedger}
use Rattle.ledger_stored.specs.Stored.{the_stamp, ledger_of, stored_of}
use Rattle.ledger_stored.proofs.StoredLaws.{ledger_back}
use Rattle.replay_entries.specs.declared.shown.Line.{Line}
use Rattle.replay_entries.specs.Entries.{Entry, malformed, Said, EntryReply, EntryResult, said_of, call_entry, query_entry, decide_entry, entry_of, is_call, changes, line_of, Shows, Performed, Performs}
use Rattle.newelsage.specs.Answers.{Told, told, Answered, told_said, Inquiry, counts, token, entry, inquiry_of, not_a_ledger_status}
use Rattle.newelsage.specs.Library.{CalledIn, AskedOn, AskedIn}

-- a stored ledger begins with the stamp
stamped : (t : StoredLedger) (l : Ledger) → t ≡ stored_of l → t.stamp ≡ the_stamp
unfolding stored_of
stamped t l is = ap (λ (x : StoredLedger). x.stamp) is

-- and is brought back as it was
back : (t : StoredLedger) (l : Ledger) → t ≡ stored_of l → ledger_of t ≡ l
back t l is = ap ledger_of is ∙ ledger_back l

-- a line is told as the entry's answer
abbrev pub Tells : Line → ℕ → List ℕ → Type 0
Tells line status answer = (s : Said) (n : ℕ) → Shows line (line_of s) n → Answered status answer (told_said s)

pub not_called : (t : StoredLedger) (tag : ℕ) (v : List ℕ) (status : ℕ) (answer : List ℕ)
    → (t.stamp ≡ the_stamp → ⊥) → Answered status answer (told not_a_ledger_status []) → CalledIn t tag v status t answer
not_called t tag v status answer other tells =
    record { some = _; told = tells; other = λ _. (refl, refl); ledger = λ l is invariant. absurd (other (stamped t l is)) }

pub called : (t : StoredLedger) (m : Ledger) (tag : ℕ) (v : List ℕ) (r : EntryResult) (line : Line) (n status : ℕ) (answer : List ℕ) (after : StoredLedger)
    → t.stamp ≡ the_stamp → m ≡ ledger_of t → Performs m (call_entry tag v) r → Shows line (line_of (said_of r.answer)) n → Tells line status answer
    → after ≡ stored_of r.ledger → CalledIn t tag v status after answer
called t m tag v r line n status answer after stamp is_m performs shows tells is_after =
    record {
      some = told_said (said_of r.answer);
      told = tells (said_of r.answer) n shows;
      other = λ no. absurd (true≢false (sym (eq-eqb t.stamp the_stamp stamp) ∙ no));
      ledger = λ l is invariant.
          let done = subst (λ (x : Ledger). Performs x (call_entry tag v) r) (is_m ∙ back t l is) performs invariant [] in
          record {
            told = subst (λ (s : Said). Answered status answer (told_said s)) done.answer (tells (said_of r.answer) n shows);
            next = r.ledger;
            stored = is_after;
            model = done.ledger;
            unchanged = λ no. done.unchanged (ap (changes (call_entry tag v)) done.answer ∙ no);
            invariant = done.invariant;
          };
    }

pub not_asked : (t : StoredLedger) (tag : ℕ) (v before : List ℕ) (status : ℕ) (answer : List ℕ)
    → (t.stamp ≡ the_stamp → ⊥) → Answered status answer (told not_a_ledger_status []) → AskedIn t tag v before status before answer
not_asked t tag v before status answer other tells =
    record { some = _; told = tells; other = λ _. (refl, refl); ledger = λ l is invariant. absurd (other (stamped t l is)) }

pub asked : (t : StoredLedger) (m : Ledger) (tag : ℕ) (v before : List ℕ) (status : ℕ) (after answer : List ℕ) (some : Told) → Answered status answer some
    → t.stamp ≡ the_stamp → m ≡ ledger_of t → (Invariant m → AskedOn m (inquiry_of tag v) before status after answer) → AskedIn t tag v before status after answer
asked t m tag v before status after answer some tells stamp is_m asks =
    record {
      some = some;
      told = tells;
      other = λ no. absurd (true≢false (sym (eq-eqb t.stamp the_stamp stamp) ∙ no));
      ledger = λ l is. subst (λ (x : Ledger). Invariant x → AskedOn x (inquiry_of tag v) before status after answer) (is_m ∙ back t l is) asks;
    }

-- which question a tag and a value are
pub counts_asked : (tag : ℕ) (v : List ℕ) → tag ≡ 0 → length v ≡ 0 → inquiry_of tag v ≡ counts
unfolding inquiry_of
counts_asked tag v t n = rw (eq-eqb tag 0 t, eq-eqb (length v) 0 n) refl

pub decide_asked : (tag : ℕ) (v : List ℕ) → tag ≡ 0x14 → inquiry_of tag v ≡ entry (decide_entry v)
unfolding inquiry_of entry_of is_call
decide_asked tag v t = rw t refl

pub other_asked : (tag : ℕ) (v : List ℕ) → (tag ≡ 0 → ⊥) → (tag ≡ 1 → ⊥) → inquiry_of tag v ≡ entry (query_entry tag v)
unfolding inquiry_of
other_asked tag v t u = rw (ne_eqb tag 0 t, ne_eqb tag 1 u) refl

pub token_asked : (tag : ℕ) (v : List ℕ) → tag ≡ 1 → length v ≡ 1 → inquiry_of tag v ≡ token (get_or v 0 0)
unfolding inquiry_of number_from
token_asked tag [] t n = absurd (omega arith)
token_asked tag (x ∷ []) t n = let same : 0 + x ≡ x = omega arith in rw t (ap token same)
token_asked tag (x ∷ y ∷ v) t n = absurd (omega arith)

-- of the library's own tags, another length
pub malformed_asked : (tag : ℕ) (v : List ℕ) → (tag ≡ 0 → length v ≡ 0 → ⊥) → (tag ≡ 1 → length v ≡ 1 → ⊥) → tag ≤ 1 → inquiry_of tag v ≡ entry malformed
unfolding inquiry_of
malformed_asked zero v none place own = rw (ne_eqb (length v) 0 (none refl)) refl
malformed_asked (suc zero) v none place own = rw (ne_eqb (length v) 1 (place refl)) refl
malformed_asked (suc (suc tag)) v none place own = absurd (omega arith)

-- what is told and left for the question that it is
pub as_asked : {l : Ledger} {q r : Inquiry} {before : List ℕ} {status : ℕ} {after answer : List ℕ} → q ≡ r → AskedOn l r before status after answer → AskedOn l q before status after answer
as_asked {l} {q} {r} {before} {status} {after} {answer} is asks = subst (λ (x : Inquiry). AskedOn l x before status after answer) (sym is) asks

-- a replay's query
pub query_told : (l : Ledger) (e : Entry) (a : EntryReply) (line : Line) (n status : ℕ) (before after answer : List ℕ)
    → Performed l e before a l after → Shows line (line_of (said_of a)) n → Tells line status answer → AskedOn l (entry e) before status after answer
query_told l e a line n status before after answer done shows tells =
    record {
      told = subst (λ (s : Said). Answered status answer (told_said s)) done.answer (tells (said_of a) n shows);
      buffer = done.buffer;
    }
