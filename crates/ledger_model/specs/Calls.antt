-- The reference model (document 01: the plain book): what each call answers, and the model after it. It is fed the calls'
-- arguments alone.
use Rattle.std.specs.Prelude.{ℕ, ◌+◌, ◌&&◌, not, List, [], ◌∷◌, ◌++◌, nat_eq, nat_le}
use Rattle.sets.specs.Quantifiers.{keep, count_in}
use Rattle.register.specs.declared.Record.{Record}
use Rattle.directive.specs.declared.Directive.{Directive}
use Rattle.directive.specs.declared.Query.{Query}
use Rattle.drafts.specs.declared.Draft.{Draft}
use Rattle.drafts.specs.Form.{draft_of, directive_of}
use Rattle.validation_meaning.specs.Judgement.{Judgement, meant}
use Rattle.emergency.specs.declared.Token.{Token}
use Rattle.ledger_model.specs.Model.{Model, with_active, with_tokens}
use Rattle.ledger_model.specs.Answer.{Answer, done}
use Rattle.emergency.specs.Emergency.{brief_of}
use Rattle.ledger_model.specs.Decision.{decision_values, decision}
use Rattle.ledger_model.specs.Questions.{Outcome, outcome, first_no, directive_questions, draft_questions, bytes_questions, live_tokens, revoke_questions, advance_questions, decide_questions, issue_questions, brief_questions}

-- one active directive more, last
abbrev pub with_last : Model → Directive → Model
with_last m d = with_active m (m.active ++ (d ∷ []))

-- A directive that is put to questions 7 to 13 alone, as a card's are, stands last where it passes them.
unfoldable pub admitted_by : Judgement → Model → Draft → Outcome
admitted_by j m s =
    outcome (directive_questions j m s) m
    (record { answer = done []; model = with_last m (directive_of s) })

abbrev pub admitted : Model → Draft → Outcome
admitted m s = admitted_by meant m s

-- "commit puts its directive last", of a decoded draft
unfoldable pub committed_draft_by : Judgement → Model → Draft → Outcome
committed_draft_by j m s =
    outcome (draft_questions j m s) m (record { answer = done []; model = with_last m (directive_of s) })

abbrev pub committed_draft : Model → Draft → Outcome
committed_draft m s = committed_draft_by meant m s

-- the directive that a draft's bytes write
abbrev pub drafted : List ℕ → Directive
drafted s = directive_of (draft_of s)

-- the same of a draft's bytes s: the model after it, and its outcome
abbrev pub after_commit : Model → List ℕ → Model
after_commit m s = with_last m (drafted s)

unfoldable pub committed_by : Judgement → Model → List ℕ → Outcome
committed_by j m s =
    outcome (bytes_questions j m s) m (record { answer = done []; model = after_commit m s })

abbrev pub committed : Model → List ℕ → Outcome
committed m s = committed_by meant m s

-- "revoke takes that number out, the rest keeping their order"
abbrev pub after_revoke : Model → ℕ → Model
after_revoke m n = with_active m (keep (λ d. not (nat_eq d.number n)) m.active)

unfoldable pub revoked : Model → ℕ → Outcome
revoked m n = outcome (revoke_questions m n) m (record { answer = done []; model = after_revoke m n })

-- "advance sets the clock, takes out the directives and the tokens with until <= clock and answers both counts"
abbrev pub after_advance : Model → ℕ → Model
after_advance m t =
    record {
      patient = m.patient;
      clock = t;
      register = m.register;
      active = keep (λ d. not (nat_le d.until t)) m.active;
      tokens = keep (λ k. not (nat_le k.until t)) m.tokens;
    }

abbrev pub dropped : Model → ℕ → List ℕ
dropped m t = count_in (λ d. nat_le d.until t) m.active ∷ count_in (λ k. nat_le k.until t) m.tokens ∷ []

unfoldable pub advanced : Model → ℕ → Outcome
advanced m t =
    outcome (advance_questions m t) m (record { answer = done (dropped m t); model = after_advance m t })

-- "issue puts its token last, until clock + length"
abbrev pub after_issue : Model → ℕ → ℕ → ℕ → ℕ → Model
after_issue m n person states minutes =
    with_tokens m
    (m.tokens ++ (record { number = n; person = person; states = states; until = m.clock + minutes } ∷ []))

unfoldable pub issued : Model → ℕ → ℕ → ℕ → ℕ → Outcome
issued m n person states minutes =
    outcome (issue_questions m n states minutes) m
    (record { answer = done []; model = after_issue m n person states minutes })

-- The calls that change nothing.
unfoldable pub decided : Model → Query → Answer
decided m q = first_no (decide_questions m q) (done (decision_values (decision m q)))

-- the brief of the first of these tokens; question 22 sees to it that there is one
abbrev pub brief_by : List Record → List Token → List ℕ
brief_by rs [] = []
brief_by rs (t ∷ ts) = brief_of rs t.states

abbrev pub brief_values : Model → ℕ → ℕ → List ℕ
brief_values m n p =
    brief_by m.register.records (keep (λ t. nat_eq t.number n && nat_eq t.person p) (live_tokens m))

unfoldable pub briefed : Model → ℕ → ℕ → Answer
briefed m n p = first_no (brief_questions m n p) (done (brief_values m n p))

-- A call of the lists that demand 3 speaks of, with its arguments: a draft's bytes; a number; a minute; a number, a person,
-- a state set and a length.
pub data Call : Type 0 where
  commit : List ℕ → Call
  revoke : ℕ → Call
  advance : ℕ → Call
  issue : ℕ → ℕ → ℕ → ℕ → Call

abbrev pub called_by : Judgement → Model → Call → Outcome
called_by j m (commit s) = committed_by j m s
called_by j m (revoke n) = revoked m n
called_by j m (advance t) = advanced m t
called_by j m (issue n p states minutes) = issued m n p states minutes

-- "Each call gets the ledger that read or the call before it gave"
unfoldable pub model_after : Model → List Call → Model
model_after m [] = m
model_after m (c ∷ cs) = model_after (called_by meant m c).model cs

unfoldable pub answers : Model → List Call → List Answer
answers m [] = []
answers m (c ∷ cs) = (called_by meant m c).answer ∷ answers (called_by meant m c).model cs
