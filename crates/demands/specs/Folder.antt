-- Document 02, #102, The folder and all in it: a directive of reach 3 is signed instead of two, one of reach 0 and one of reach 2. All but
-- `matched`, which is about the definitions, is stated on the program, through what commit, advance and decide promise.
use Rattle.std.specs.Prelude.{ℕ, ◌<◌, ◌≡◌, true, ◌&&◌, ◌||◌, not, length, nat_eq, nat_le}
use mathlib.Core.List.{List, [], ◌∷◌, map, Memᴰ}
use Rattle.sets.specs.Quantifiers.{pick}
use Rattle.register.specs.declared.records.Reach.{Reach}
use Rattle.directive.specs.declared.Directive.{Directive}
use Rattle.directive.specs.declared.Request.{Request}
use Rattle.directive.specs.declared.Query.{Query}
use Rattle.directive.specs.Matching.{matches}
use Rattle.drafts.specs.declared.Draft.{Draft}
use Rattle.drafts.specs.Form.{draft_size, draft_of, keeps_ranges}
use Rattle.validation_meaning.specs.Requests.{persons}
use Rattle.validation_meaning.specs.Judgement.{meant}
use Rattle.ledger_model.specs.Answer.{Answer}
use Rattle.ledger_model.specs.Questions.{passes, questions_before, bytes_questions}
use Rattle.ledger_model.specs.Calls.{commit, advance, drafted}
use Rattle.ledger_model.specs.Compatible.{compatible}
use Rattle.ledger.specs.declared.Ledger.{Ledger}
use Rattle.ledger.specs.Answer.{DecideAnswer}
use Rattle.ledger.specs.State.{view}
use Rattle.ledger.specs.Promises.{CommitResult, Commits, Decides}
use Rattle.demands.specs.Runs.{Run, Reachable}
use Rattle.demands.specs.Demands.{effect_and_basis, refused_with}

-- the directive with this number and this reach
abbrev pub with_reach : ℕ → Reach → Directive → Directive
with_reach number reach d =
    record {
      number = number;
      permit = d.permit;
      subject = d.subject;
      subject_origins = d.subject_origins;
      «record» = d.«record»;
      reach = reach;
      origins = d.origins;
      sensitivities = d.sensitivities;
      kinds = d.kinds;
      purposes = d.purposes;
      from = d.from;
      until = d.until;
    }

-- "Patients sign two directives where they mean one": the one has reach 3, the two have reach 0 and reach 2, and nothing else but their
-- numbers differs.
pub record OneForTwo (d e f : Directive) : Type 0 where
  pub one : d.reach ≡ Reach.Folder
  pub first : e ≡ with_reach e.number Reach.Itself d
  pub second : f ≡ with_reach f.number Reach.Descendants d

-- what a draft's bytes write, with this reach
abbrev pub at_reach : ℕ → Draft → Draft
at_reach reach d =
    record {
      number = d.number;
      effect = d.effect;
      subject_kind = d.subject_kind;
      subject = d.subject;
      subject_origins = d.subject_origins;
      «record» = d.«record»;
      reach = reach;
      origins = d.origins;
      sensitivities = d.sensitivities;
      kinds = d.kinds;
      purposes = d.purposes;
      from = d.from;
      until = d.until;
    }

-- what the one is refused with where the two are refused with a and b, 0 for none: 12 or 13 where either is, 14 where both are
abbrev pub together : ℕ → ℕ → ℕ
together a b = pick (nat_eq a 12 || nat_eq b 12) 12 (pick (nat_eq a 13 || nat_eq b 13) 13 (pick (nat_eq a 14 && nat_eq b 14) 14 0))

-- the draft passes questions 6 to 11 and is left with baseline, conflict and redundancy
abbrev pub PassesBefore12 : Ledger → List ℕ → Type 0
PassesBefore12 l s = passes (questions_before 12 (bytes_questions meant (view l) s)) ≡ true

pub record Folder (l : Ledger) : Type 0 where
  -- "Reach 3 is the record with all its descendants": the one matches a request exactly when one of the two does.
  pub matched :
      (d e f : Directive) → OneForTwo d e f → (q : Request) →
      matches (view l).register d q ≡ matches (view l).register e q || matches (view l).register f q
  -- "Question 7 now allows 0..3": 25 bytes are refused 7 exactly when the reach is past 3 or they would be with reach 0.
  pub allowed :
      (s : List ℕ) (r : CommitResult) → Commits l s r → length s ≡ draft_size →
      nat_eq (refused_with r) 7 ≡ not (nat_le (draft_of s).reach 3 && keeps_ranges (at_reach 0 (draft_of s)))
  -- "What "selects" means changes, and with it conflict, baseline and superfluous": the one is judged as the two are together.
  pub judged :
      (s t u : List ℕ) (r v w : CommitResult) → OneForTwo (drafted s) (drafted t) (drafted u) →
      Commits l s r → Commits l t v → Commits l u w → PassesBefore12 l s → PassesBefore12 l t → PassesBefore12 l u →
      refused_with r ≡ together (refused_with v) (refused_with w)
  -- The one, or the two in turn, where each list stands beside the active, leave every decide call the same effect and basis, now and
  -- after the same advances.
  pub decided :
      (s t u : List ℕ) → OneForTwo (drafted s) (drafted t) (drafted u) →
      compatible (view l) (s ∷ []) ≡ true → compatible (view l) (t ∷ u ∷ []) ≡ true →
      (minutes : List ℕ) (l₁ m₁ l₂ m₂ : Ledger) (rs₁ xs₁ rs₂ xs₂ : List Answer) →
      Run l (commit s ∷ []) rs₁ l₁ → Run l₁ (map advance minutes) xs₁ m₁ →
      Run l (commit t ∷ commit u ∷ []) rs₂ l₂ → Run l₂ (map advance minutes) xs₂ m₂ →
      (q : Query) (a b : DecideAnswer) → q.requester.person < persons → Decides m₁ q a → Decides m₂ q b →
      effect_and_basis a ≡ effect_and_basis b
  -- Where the two are active, a draft of the one that passes questions 6 to 12 is refused 14.
  pub one_redundant :
      (s : List ℕ) (r : CommitResult) (e f : Directive) → Commits l s r → OneForTwo (drafted s) e f →
      Memᴰ e (view l).active → Memᴰ f (view l).active →
      passes (questions_before 13 (bytes_questions meant (view l) s)) ≡ true → refused_with r ≡ 14
  -- Where the one is active, a draft that differs from it in number and reach alone, whatever its reach, and passes questions 6 to 12 is
  -- refused 14.
  pub part_redundant :
      (s : List ℕ) (r : CommitResult) (d : Directive) → Commits l s r → Memᴰ d (view l).active → d.reach ≡ Reach.Folder →
      drafted s ≡ with_reach (drafted s).number (drafted s).reach d →
      passes (questions_before 13 (bytes_questions meant (view l) s)) ≡ true → refused_with r ≡ 14

-- for every ledger of document 01
abbrev pub Folders : Type 0
Folders = (l : Ledger) → Reachable l → Folder l
