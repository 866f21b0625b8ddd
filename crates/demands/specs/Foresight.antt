-- Document 02, #101, See it before signing: a preview equals a commit on a copy and the decisions before and after it. Stated on the
-- program, through what preview, commit and decide promise.
use Rattle.std.specs.Prelude.{ℕ, ◌≡◌, Bool, true, false, ◌&&◌, List, [], ◌∷◌, length}
use Rattle.sets.specs.Quantifiers.{count_below}
use Rattle.sets.specs.Numbers.{is_bytes}
use Rattle.sets.specs.RecordSets.{word_of}
use Rattle.register.specs.declared.Record.{Record}
use Rattle.register.specs.Records.{has_record}
use Rattle.directive.specs.declared.Requester.{Requester}
use Rattle.directive.specs.Matching.{query_on}
use Rattle.ledger_model.specs.Answer.{done, refused, accepted}
use Rattle.ledger_model.specs.Questions.{requester_in_range}
use Rattle.ledger_model.specs.Preview.{is_change}
use Rattle.ledger.specs.declared.Ledger.{Ledger}
use Rattle.ledger.specs.State.{view}
use Rattle.ledger.specs.Answer.{DecideAnswer, commit_answer, decide_answer}
use Rattle.ledger.specs.Promises.{CommitResult, Commits, Decides}
use Rattle.ledger_preview.specs.Answer.{preview_answer}
use Rattle.ledger_preview.specs.Promises.{PreviewResult, Previews}
use Rattle.demands.specs.Runs.{Reachable}

-- the records of the register
abbrev pub records_of : Ledger → List Record
records_of l = (view l).register.records

-- a is what the program's decide answers the requester for each record
abbrev pub DecidesAll : Ledger → Requester → (ℕ → DecideAnswer) → Type 0
DecidesAll l w a = (x : ℕ) → has_record (records_of l) x ≡ true → Decides l (query_on w x) (a x)

-- the effect on record x changes from the answers a to the answers b
abbrev pub answers_change : Ledger → (ℕ → DecideAnswer) → (ℕ → DecideAnswer) → ℕ → Bool
answers_change l a b x = has_record (records_of l) x && is_change (decide_answer (a x)) (decide_answer (b x))

-- A preview p of the draft's bytes s for the requester w, by any result r that commit may give on the same ledger.
pub record Foreseen (l : Ledger) (s : List ℕ) (w : Requester) (r : CommitResult) (p : PreviewResult) : Type 0 where
  -- "the records whose decision at the clock would change, as two 64-bit words and a count, laid out like a brief": for any answers
  -- that decide may give on every record before the commit, a, and after it, b
  pub shown :
      accepted (commit_answer r.answer) ≡ true → requester_in_range (view l).register w ≡ true →
      (a b : ℕ → DecideAnswer) → DecidesAll l w a → DecidesAll r.ledger w b →
      preview_answer p.answer
      ≡ done (word_of (answers_change l a b) 0 ∷ word_of (answers_change l a b) 1 ∷ count_below (length (records_of l)) (answers_change l a b) ∷ [])
  -- "A draft that would be refused gives that refusal",
  pub draft_refused : accepted (commit_answer r.answer) ≡ false → preview_answer p.answer ≡ commit_answer r.answer
  -- "otherwise the requester is put to question 17, its record part left out."
  pub requester_refused :
      accepted (commit_answer r.answer) ≡ true → requester_in_range (view l).register w ≡ false →
      preview_answer p.answer ≡ refused 17 []
  -- "The ledger handed in comes back equal."
  pub handed_back : p.ledger ≡ l

-- "This equals committing on a copy of the ledger and deciding every record before and after", for every ledger of document 01,
-- every draft and every requester.
abbrev pub Foresight : Type 0
Foresight =
    (l : Ledger) (s : List ℕ) (w : Requester) (r : CommitResult) (p : PreviewResult) →
    Reachable l → is_bytes s ≡ true → Commits l s r → Previews l s w p → Foreseen l s w r p
