-- Document 01's questions 6 to 22 ("Questions at the counter"), in their order for each call. The judgement j says how
-- conflict, baseline and redundancy are judged: `meant` is document 01's.
use Rattle.std.specs.Prelude.{ℕ, ◌+◌, Bool, true, ◌&&◌, not, List, [], ◌∷◌, ◌++◌, length, nat_eq, nat_le, nat_lt}
use Rattle.sets.specs.Quantifiers.{pick, all_in, some_in, keep}
use Rattle.sets.specs.Bits.{non_empty}
use Rattle.register.specs.Register.{Contents}
use Rattle.register.specs.Roles.{has_role}
use Rattle.register.specs.Records.{has_record}
use Rattle.directive.specs.declared.Subject.{Subject}
use Rattle.directive.specs.declared.Subject.TheVariants.{Person, Role}
use Rattle.directive.specs.declared.Directive.{Directive}
use Rattle.directive.specs.declared.Query.{Query}
use Rattle.directive.specs.declared.Requester.{Requester}
use Rattle.directive.specs.Places.{active_places}
use Rattle.drafts.specs.declared.Draft.{Draft}
use Rattle.drafts.specs.Form.{draft_size, draft_of, keeps_ranges, directive_of}
use Rattle.validation_meaning.specs.Requests.{origins, purposes}
use Rattle.validation_meaning.specs.Judgement.{Judgement}
use Rattle.emergency.specs.declared.Token.{Token}
use Rattle.emergency.specs.Tokens.{token_places}
use Rattle.ledger_model.specs.Model.{Model}
use Rattle.ledger_model.specs.Answer.{Answer, refused}
use Rattle.directive.specs.Lowest.{lowest_number}

-- A question: its number, what a "no" adds to the number, and whether the answer is yes.
pub record Question : Type 0 where
  pub number : ℕ
  pub adds : List ℕ
  pub holds : Bool

abbrev pub ask : ℕ → Bool → Question
ask n b = record { number = n; adds = []; holds = b }

-- "the first 'no' gives its number and only that": the answer where there is none is a
unfoldable pub first_no : List Question → Answer → Answer
first_no [] a = a
first_no (q ∷ qs) a = pick q.holds (first_no qs a) (refused q.number q.adds)

abbrev pub passes : List Question → Bool
passes qs = all_in (λ q. q.holds) qs

-- the questions before number n
unfoldable pub questions_before : ℕ → List Question → List Question
questions_before n [] = []
questions_before n (q ∷ qs) = pick (nat_eq q.number n) [] (q ∷ questions_before n qs)

-- An answer and the model after it.
pub record Outcome : Type 0 where
  pub answer : Answer
  pub model : Model

-- "A 'no' answers as above, and the book stays as it is. Otherwise .."
abbrev pub outcome : List Question → Model → Outcome → Outcome
outcome qs m o = record { answer = first_no qs o.answer; model = pick (passes qs) o.model m }

-- "Does the register have its role (if one is named) and record?"
abbrev pub has_subject : Contents → Subject → Bool
has_subject c (Person n) = true
has_subject c (Role n) = has_role c.roles n

abbrev pub in_register : Contents → Directive → Bool
in_register c d = has_subject c d.subject && has_record c.records d.«record»

-- "Is from < until and clock < until?"
abbrev pub has_minutes : ℕ → Directive → Bool
has_minutes clock d = nat_lt d.from d.until && nat_lt clock d.until

-- an active directive has the number n
abbrev pub is_active : ℕ → List Directive → Bool
is_active n ds = some_in (λ d. nat_eq d.number n) ds

-- the active directives that d conflicts with
abbrev pub conflicting : Judgement → Model → Directive → List Directive
conflicting j m d = keep (λ e. j.conflicts m.register m.clock d e) m.active

-- 13 "adds the lowest number of an active directive that the draft conflicts with"
abbrev pub conflict_question : Judgement → Model → Directive → Question
conflict_question j m d =
    record {
      number = 13;
      adds = lowest_number (conflicting j m d);
      holds = not (some_in (λ e. j.conflicts m.register m.clock d e) m.active);
    }

-- Questions 7 to 13, of a draft that means the directive d.
abbrev pub questions_on : Judgement → Model → Draft → Directive → List Question
questions_on j m s d =
    ask 7 (keeps_ranges s)
    ∷ ask 8 (in_register m.register d)
    ∷ ask 9 (has_minutes m.clock d)
    ∷ ask 10 (not (is_active d.number m.active))
    ∷ ask 11 (nat_lt (length m.active) active_places)
    ∷ ask 12 (not (j.breaks m.register m.patient m.clock d))
    ∷ conflict_question j m d
    ∷ []

unfoldable pub directive_questions : Judgement → Model → Draft → List Question
directive_questions j m s = questions_on j m s (directive_of s)

-- Questions 7 to 14, of a decoded draft: "Is it not superfluous? 14."
unfoldable pub draft_questions : Judgement → Model → Draft → List Question
draft_questions j m s =
    directive_questions j m s
    ++ (ask 14 (not (j.repeats m.register m.clock (directive_of s) m.active)) ∷ [])

-- Questions 6 to 14, of a draft's bytes: "is it 25 bytes? 6."
unfoldable pub bytes_questions : Judgement → Model → List ℕ → List Question
bytes_questions j m s = ask 6 (nat_eq (length s) draft_size) ∷ draft_questions j m (draft_of s)

-- "Revoke: is that number active? 15."
abbrev pub revoke_questions : Model → ℕ → List Question
revoke_questions m n = ask 15 (is_active n m.active) ∷ []

-- "Advance: is the minute not before the clock? 16."
abbrev pub advance_questions : Model → ℕ → List Question
advance_questions m t = ask 16 (nat_le m.clock t) ∷ []

-- the requester's part of question 17: a role, an origin and a purpose
abbrev pub requester_in_range : Contents → Requester → Bool
requester_in_range c w = has_role c.roles w.role && nat_lt w.origin origins && nat_lt w.purpose purposes

-- "Decide: does the register have role and record, origin < 16, purpose < 11? 17."
abbrev pub is_in_range : Contents → Query → Bool
is_in_range c q = requester_in_range c q.requester && has_record c.records q.«record»

abbrev pub decide_questions : Model → Query → List Question
decide_questions m q = ask 17 (is_in_range m.register q) ∷ []

-- "It is live until clock + length": the tokens whose end lies past the clock
abbrev pub live_tokens : Model → List Token
live_tokens m = keep (λ t. nat_lt m.clock t.until) m.tokens

-- "the end at most 4,294,967,295"
abbrev pub last_minute : ℕ
last_minute = 4294967295

-- "Issue: any state? 18. Length 1..240 and the end at most 4,294,967,295? 19. Number free among live tokens? 20. Fewer than
-- 4 live? 21."
abbrev pub issue_questions : Model → ℕ → ℕ → ℕ → List Question
issue_questions m n states minutes =
    ask 18 (non_empty states)
    ∷ ask 19 (nat_le 1 minutes && nat_le minutes 240 && nat_le (m.clock + minutes) last_minute)
    ∷ ask 20 (not (some_in (λ t. nat_eq t.number n) (live_tokens m)))
    ∷ ask 21 (nat_lt (length (live_tokens m)) token_places)
    ∷ []

-- "Brief: is there a live token of that number for that person? 22."
abbrev pub brief_questions : Model → ℕ → ℕ → List Question
brief_questions m n p = ask 22 (some_in (λ t. nat_eq t.number n && nat_eq t.person p) (live_tokens m)) ∷ []
