-- Document 01's sample register and its cases K1 to K12, as one table. proofs/Cases.antt has a value of `CasesHold`.
use Rattle.std.specs.Prelude.{ℕ, ◌≡◌, Bool, true, false}
use mathlib.Core.List.{List, [], ◌∷◌, map, Memᴰ}
use Rattle.register.specs.declared.Record.{Record}
use Rattle.register.specs.Records.{reach_of}
use Rattle.directive.specs.declared.Subject.{Subject}
use Rattle.directive.specs.declared.Subject.TheVariants.{Person, Role}
use Rattle.directive.specs.declared.Query.{Query}
use Rattle.directive.specs.Selection.{selects}
use Rattle.drafts.specs.Form.{every_purpose, directive_bytes}
use Rattle.validation_meaning.specs.Judgement.{Judgement, meant}
use Rattle.ledger_model.specs.Model.{Model}
use Rattle.ledger_model.specs.Answer.{Answer, done, refused}
use Rattle.ledger_model.specs.Questions.{Outcome}
use Rattle.ledger_model.specs.Calls.{Call, commit, advance, issue, called_by, decided, briefed, drafted}

-- What is put to a ledger: a call that may change it, a decide, or a brief for a token's number and a person.
pub data Item : Type 0 where
  call : Call → Item
  deciding : Query → Item
  briefing : ℕ → ℕ → Item

abbrev pub item_by : Judgement → Model → Item → Outcome
item_by j m (call c) = called_by j m c
item_by j m (deciding q) = record { answer = decided m q; model = m }
item_by j m (briefing n p) = record { answer = briefed m n p; model = m }

-- the answers to the items, one after the other
unfoldable pub answers_by : Judgement → Model → List Item → List Answer
answers_by j m [] = []
answers_by j m (i ∷ is) = (item_by j m i).answer ∷ answers_by j (item_by j m i).model is

-- An item with the answer that it must give.
pub record Step : Type 0 where
  pub item : Item
  pub gives : Answer

infix 70 ◌gives◌
abbrev pub ◌gives◌ : Item → Answer → Step
i gives a = record { item = i; gives = a }

-- Items on the sample ledger without directives, or which of the records 0, 1 and 2 a draft selects.
pub data Case : Type 0 where
  run : List Step → Case
  selection : List ℕ → List Bool → Case

-- "Patient 7, clock 1000. Roles 0; 1 doctor under 0; 2 cardiologist under 1; 3 nurse under 0."
unfoldable pub sample_records : List Record
sample_records =
    record { parent = 0; author = 500; origins = 0x0001; sensitivities = 0x0001; kind = 0; labels = 0 }
    ∷ record { parent = 0; author = 501; origins = 0x0003; sensitivities = 0x0001; kind = 0; labels = 0x0004 }
    ∷ record { parent = 1; author = 502; origins = 0x0002; sensitivities = 0x0003; kind = 0; labels = 0x0800 }
    ∷ []

unfoldable pub sample : Model
sample =
    record {
      patient = 7;
      clock = 1000;
      register = record { roles = 0 ∷ 0 ∷ 1 ∷ 0 ∷ []; records = sample_records };
      active = [];
      tokens = [];
    }

-- What a case holds to: the answers are the reference model's; the directive selects these records of the three.
abbrev pub Holds : Case → Type 0
Holds (run steps) = answers_by meant sample (map (λ s. s.item) steps) ≡ map (λ s. s.gives) steps
Holds (selection s xs) = map (selects sample_records (drafted s)) (0 ∷ 1 ∷ 2 ∷ []) ≡ xs

-- "Unless named, .. sets are full (purposes 0x07FF)": number, effect, subject, record, reach, ps, from, until
unfoldable pub drafting : ℕ → Bool → Subject → ℕ → ℕ → ℕ → ℕ → ℕ → List ℕ
drafting n effect who x reach ps from until =
    directive_bytes
    (record {
      number = n;
      permit = effect;
      subject = who;
      subject_origins = 0xFFFF;
      «record» = x;
      reach = reach_of reach;
      origins = 0xFFFF;
      sensitivities = ps;
      kinds = 0xFF;
      purposes = every_purpose;
      from = from;
      until = until;
    })

-- "and minutes are 1000..2000"
abbrev pub draft : ℕ → Bool → Subject → ℕ → ℕ → List ℕ
draft n effect who x reach = drafting n effect who x reach 0xFFFF 1000 2000

abbrev pub permit : Bool
permit = true

abbrev pub deny : Bool
deny = false

-- "A: number 1, deny, role 1, record 0, reach 2", with its number and minutes
abbrev pub A : ℕ → ℕ → ℕ → List ℕ
A n from until = drafting n deny (Role 1) 0 2 0xFFFF from until

abbrev pub after_a : Step
after_a = call (commit (A 1 1000 2000)) gives done []

-- "Q: person 600, role 1, origin 1, record 1, purpose 0"
abbrev pub query : ℕ → ℕ → ℕ → ℕ → ℕ → Query
query p r o x u = record { requester = record { person = p; role = r; origin = o; purpose = u }; «record» = x }

abbrev pub Q : Query
Q = query 600 1 1 1 0

-- the same from another person, with another role, from another origin, on another record, with another purpose
abbrev pub from_person : ℕ → Query → Query
from_person p q = query p q.requester.role q.requester.origin q.«record» q.requester.purpose

abbrev pub with_role : ℕ → Query → Query
with_role r q = query q.requester.person r q.requester.origin q.«record» q.requester.purpose

abbrev pub with_origin : ℕ → Query → Query
with_origin o q = query q.requester.person q.requester.role o q.«record» q.requester.purpose

abbrev pub on_record : ℕ → Query → Query
on_record x q = query q.requester.person q.requester.role q.requester.origin x q.requester.purpose

abbrev pub with_purpose : ℕ → Query → Query
with_purpose u q = query q.requester.person q.requester.role q.requester.origin q.«record» u

-- A decide gives the effect (1 permit, 0 deny), the basis, and the number that basis 3 names.
unfoldable pub cases : List Case
cases =
    -- K1 no directives, Q: permit, 4. With purpose 1: deny, 4.
    run (deciding Q gives done (1 ∷ 4 ∷ []) ∷ deciding (with_purpose 1 Q) gives done (0 ∷ 4 ∷ []) ∷ [])
    -- K2 after A, Q: deny, 3, number 1. With role 3: permit, 4.
    ∷ run
    (after_a
    ∷ deciding Q gives done (0 ∷ 3 ∷ 1 ∷ [])
    ∷ deciding (with_role 3 Q) gives done (1 ∷ 4 ∷ [])
    ∷ [])
    -- K3 after A, Q from 501: permit, 2; from 7: permit, 1.
    ∷ run
    (after_a
    ∷ deciding (from_person 501 Q) gives done (1 ∷ 2 ∷ [])
    ∷ deciding (from_person 7 Q) gives done (1 ∷ 1 ∷ [])
    ∷ [])
    -- K4 after A, Q on record 0 from origin 0: permit, 4.
    ∷ run (after_a ∷ deciding (on_record 0 (with_origin 0 Q)) gives done (1 ∷ 4 ∷ []) ∷ [])
    -- K5 after A, permit person 600, record 1, reach 0, 1500..2500: 13 naming 1. With 2000..2500: accepted.
    ∷ run
    (after_a
    ∷ call (commit (drafting 2 permit (Person 600) 1 0 0xFFFF 1500 2500)) gives refused 13 (1 ∷ [])
    ∷ call (commit (drafting 2 permit (Person 600) 1 0 0xFFFF 2000 2500)) gives done []
    ∷ [])
    -- K6 after A, deny role 2, record 1, reach 1: 14.
    ∷ run (after_a ∷ call (commit (draft 2 deny (Role 2) 1 1)) gives refused 14 [] ∷ [])
    -- K7 A over 1000..1500 and again as number 2 over 1500..2000; number 3 over 1200..1800: 14.
    ∷ run
    (call (commit (A 1 1000 1500)) gives done []
    ∷ call (commit (A 2 1500 2000)) gives done []
    ∷ call (commit (A 3 1200 1800)) gives refused 14 []
    ∷ [])
    -- K8 deny person 502, record 1, reach 1: 12. Reach 0: accepted.
    ∷ run
    (call (commit (draft 2 deny (Person 502) 1 1)) gives refused 12 []
    ∷ call (commit (draft 2 deny (Person 502) 1 0)) gives done []
    ∷ [])
    -- K9 permit role 3, record 0, reach 2, ps 0x0001: selects record 1, not 2.
    ∷ selection (drafting 2 permit (Role 3) 0 2 0x0001 1000 2000) (false ∷ true ∷ false ∷ [])
    -- K10 token 9 for 600, state set 0x01, length 30: words 2 and 0, count 1. At 1029 live; at 1030, 22.
    ∷ run
    (call (issue 9 600 0x01 30) gives done []
    ∷ briefing 9 600 gives done (2 ∷ 0 ∷ 1 ∷ [])
    ∷ call (advance 1029) gives done (0 ∷ 0 ∷ [])
    ∷ briefing 9 600 gives done (2 ∷ 0 ∷ 1 ∷ [])
    ∷ call (advance 1030) gives done (0 ∷ 1 ∷ [])
    ∷ briefing 9 600 gives refused 22 []
    ∷ [])
    -- K11 after A, advance to 2000: one directive dropped; number 1 is free.
    ∷ run
    (after_a
    ∷ call (advance 2000) gives done (1 ∷ 0 ∷ [])
    ∷ call (commit (A 1 2000 3000)) gives done []
    ∷ [])
    -- K12 permit role 3, record 2, reach 1: 14.
    ∷ run (call (commit (draft 2 permit (Role 3) 2 1)) gives refused 14 [] ∷ [])
    ∷ []

-- "K1 to K12, as one table with one proof about the definitions"
abbrev pub CasesHold : Type 0
CasesHold = (k : Case) → Memᴰ k cases → Holds k
