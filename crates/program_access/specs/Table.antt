-- Who may read which record at the card's clock, in words: a line a record, `record 1: deny, basis 3 (directive 7)`. With a draft, what
-- would change by its commit stands in the same line: `record 1: permit, basis 4 (default), changes to deny, basis 3 (directive 7)`, and a
-- last line counts: `records that change: 1`. Document 02, #101: "Patients want the effect of a draft on the screen before they press the pen."
use Rattle.std.specs.Prelude.{ℕ, zero, suc, Bool, true, ◌&&◌, Option, Some, None, List, [], ◌∷◌, ◌++◌, length, nat_eq}
use Rattle.sets.specs.Quantifiers.{pick}
use Rattle.sets.specs.RecordSets.{record_set_of, set_bits}
use Rattle.directive.specs.declared.Requester.{Requester}
use Rattle.directive.specs.Matching.{query_on}
use Rattle.ledger_model.specs.Answer.{Answer, done, refused, accepted, refusal}
use Rattle.ledger_model.specs.Model.{Model}
use Rattle.ledger_model.specs.Questions.{requester_in_range}
use Rattle.ledger_model.specs.Calls.{committed, decided}
use Rattle.ledger_model.specs.Preview.{decision_changes}
use Rattle.card.specs.Reading.{reading}
use Rattle.text.specs.Text.{decimal, line_end, numbers_text}
use Rattle.program_access.specs.Words.{record_word, colon_word, permit_word, deny_word, basis_word, open_word, patient_word, author_word, directive_word, default_word, close_word, refused_word, changes_word, count_word, card_refused_word, draft_refused_word, named_word, requester_refused_word}

-- 1 permit, 0 deny
abbrev pub effect_text : ℕ → List ℕ
effect_text e = pick (nat_eq e 1) permit_word deny_word

-- the basis in words; basis 3 names a directive
abbrev pub reason_text : ℕ → List ℕ → List ℕ
reason_text b named =
    pick (nat_eq b 1) patient_word
    (pick (nat_eq b 2) author_word (pick (nat_eq b 3) (directive_word ++ numbers_text named) default_word))

-- effect, basis and the number that basis 3 names
abbrev pub decision_text : List ℕ → List ℕ
decision_text [] = []
decision_text (e ∷ []) = []
decision_text (e ∷ b ∷ named) =
    effect_text e ++ basis_word ++ decimal b ++ open_word ++ reason_text b named ++ close_word

unfoldable pub answer_text : Answer → List ℕ
answer_text (done vs) = decision_text vs
answer_text (refused n vs) = refused_word ++ decimal n

-- "A change is a permit that becomes a deny or the reverse; a new basis alone is none": the decision after a change
unfoldable pub change_text : Model → Model → Requester → ℕ → List ℕ
change_text m after w i =
    pick (decision_changes m after w i) (changes_word ++ answer_text (decided after (query_on w i))) []

-- the line of record i: the decision at m, and what it changes to at `after`
unfoldable pub record_text : Model → Model → Requester → ℕ → List ℕ
record_text m after w i =
    record_word
    ++ decimal i
    ++ colon_word
    ++ answer_text (decided m (query_on w i))
    ++ change_text m after w i
    ++ (line_end ∷ [])

-- the lines of the records below n, in their order
unfoldable pub record_texts : Model → Model → Requester → ℕ → List ℕ
record_texts m after w zero = []
record_texts m after w (suc n) = record_texts m after w n ++ record_text m after w n

-- a line of words and a number
abbrev pub numbered_text : List ℕ → ℕ → List ℕ
numbered_text words n = words ++ decimal n ++ (line_end ∷ [])

-- "a count": how many decisions change
abbrev pub count_text : Model → Model → Requester → List ℕ
count_text m after w = numbered_text count_word (set_bits (record_set_of (decision_changes m after w)))

-- the table of all records and the text after it; where the requester is out of range, 17 alone
abbrev pub requester_text : Model → Model → Requester → List ℕ → List ℕ
requester_text m after w end =
    pick (requester_in_range m.register w) (record_texts m after w (length m.register.records) ++ end)
    (numbered_text requester_refused_word 17)

-- what a refusal adds to its number: 13 names a directive
abbrev pub added : Answer → List ℕ
added (done vs) = []
added (refused n vs) = vs

abbrev pub added_text : List ℕ → List ℕ
added_text [] = []
added_text (n ∷ ns) = named_word ++ decimal n

-- `draft refused: question 13, directive 7`
abbrev pub draft_refusal_text : Answer → List ℕ
draft_refusal_text a = draft_refused_word ++ decimal (refusal a) ++ added_text (added a) ++ (line_end ∷ [])

-- the table before and after a commit of the draft, and the count; where the draft would be refused, its refusal alone
abbrev pub draft_text : Model → List ℕ → Requester → List ℕ
draft_text m s w =
    pick (accepted (committed m s).answer)
    (requester_text m (committed m s).model w (count_text m (committed m s).model w))
    (draft_refusal_text (committed m s).answer)

-- without a draft nothing changes, and nothing is counted
abbrev pub ledger_text : Model → Option (List ℕ) → Requester → List ℕ
ledger_text m None w = requester_text m m w []
ledger_text m (Some s) w = draft_text m s w

-- there is no draft, or a commit would accept it
abbrev pub draft_accepted : Model → Option (List ℕ) → Bool
draft_accepted m None = true
draft_accepted m (Some s) = accepted (committed m s).answer

-- what `access` prints for a card, a draft and a requester: where the card is refused, the number of the question that it misses alone
abbrev pub access_text : List ℕ → Option (List ℕ) → Requester → List ℕ
access_text card d w =
    pick (accepted (reading card).answer) (ledger_text (reading card).model d w)
    (numbered_text card_refused_word (refusal (reading card).answer))

-- there is a table
abbrev pub is_table : List ℕ → Option (List ℕ) → Requester → Bool
is_table card d w =
    accepted (reading card).answer
    && draft_accepted (reading card).model d
    && requester_in_range (reading card).model.register w
