-- The three demands, clause by clause, on the program through its functions' promises. That every call ends is part of what
-- the prover shows of each function.
use Rattle.std.specs.Prelude.{ℕ, ◌+◌, ◌<◌, ◌≤◌, ◌≡◌, Bool, true, false, ◌&&◌, not, length, take, drop, nat_eq}
use mathlib.Core.List.{List, [], ◌∷◌, ◌++◌, map, Memᴰ, Permᴰ}
use Rattle.sets.specs.Quantifiers.{implies, one_if, some_in}
use Rattle.sets.specs.Numbers.{is_bytes}
use Rattle.directive.specs.declared.Directive.{Directive}
use Rattle.directive.specs.declared.Request.{Request}
use Rattle.directive.specs.declared.Query.{Query}
use Rattle.directive.specs.declared.Requester.{Requester}
use Rattle.directive.specs.Matching.{matches}
use Rattle.validation_meaning.specs.Requests.{persons, every_request, some_request, InRange}
use Rattle.validation_meaning.specs.Meaning.{same_effect}
use Rattle.validation_meaning.specs.Judgement.{meant}
use Rattle.ledger.specs.declared.Ledger.{Ledger}
use Rattle.ledger_model.specs.Model.{Model, with_tokens}
use Rattle.ledger.specs.State.{view, empty_ledger}
use Rattle.ledger_model.specs.Answer.{Answer, done, refused, accepted, refusal, values}
use Rattle.ledger.specs.Answer.{BriefAnswer, DecideAnswer, commit_answer, revoke_answer, advance_answer, issue_answer, brief_answer, decide_answer}
use Rattle.ledger_model.specs.Decision.{matching, is_patient, is_author, decision, decision_values}
use Rattle.ledger_model.specs.Xacml.{Effect, directives_say, deny_overrides, permit_overrides, results, effect_of}
use Rattle.ledger_model.specs.Questions.{Question, passes, questions_before, bytes_questions, revoke_questions, advance_questions, decide_questions, issue_questions, brief_questions}
use Rattle.ledger_model.specs.Calls.{commit, advance, Call, drafted, after_commit, after_revoke, after_advance, after_issue, dropped, brief_values, decided, briefed, model_after, answers}
use Rattle.ledger_model.specs.Preview.{preview_questions, preview_values}
use Rattle.ledger_model.specs.Compatible.{compatible}
use Rattle.ledger.specs.Promises.{CommitResult, RevokeResult, AdvanceResult, IssueResult, Commits, Revokes, Advances, Issues, Decides, Briefs}
use Rattle.ledger_preview.specs.Answer.{preview_answer}
use Rattle.ledger_preview.specs.Promises.{PreviewResult, Previews}
use Rattle.card.specs.Answer.{WriteAnswer, read_answer, write_answer}
use Rattle.card.specs.Reading.{card_questions, content_of, reading, written_edition}
use Rattle.card.specs.Writing.{write_questions, card_bytes, writing, buffered}
use Rattle.card.specs.Promises.{ReadResult, Reads, Writes}
use Rattle.demands.specs.Runs.{Run, Reachable}
use Rattle.demands.specs.Counts.{totals}

-- The first question of a list that is missed.
pub data FirstMissed : List Question → Question → Type 0 where
  here : {q : Question} {qs : List Question} → q.holds ≡ false → FirstMissed (q ∷ qs) q
  later : {p q : Question} {qs : List Question} → p.holds ≡ true → FirstMissed qs q → FirstMissed (p ∷ qs) q

-- What is asked of a call whose questions are qs: where it meets them, the result written in the documents, `met`; where it does
-- not, "the number of the first question it misses", and what comes back is `before`: the ledger or the buffer handed in, or
-- the empty ledger after a refused card.
pub record Answered {S : Type 0} (qs : List Question) (met : Answer → S → Type 0) (before : S) (a : Answer) (after : S) :
    Type 0 where
  pub result : passes qs ≡ true → met a after
  pub missed : (q : Question) → FirstMissed qs q → (a ≡ refused q.number q.adds) × (after ≡ before)

-- success with these values, and the ledger after it
abbrev pub Succeeds : List ℕ → Model → Answer → Ledger → Type 0
Succeeds vs m a l = (a ≡ done vs) × (view l ≡ m)

-- success of a call that leaves the ledger alone
abbrev pub Tells : List ℕ → Answer → Unit {0} → Type 0
Tells vs a u = a ≡ done vs

-- success of a call that hands the ledger back
abbrev pub HandsBack : Ledger → List ℕ → Answer → Ledger → Type 0
HandsBack l vs a after = (a ≡ done vs) × (after ≡ l)

-- success of a write: the length of the card, and the card's bytes before what stood after them
abbrev pub Filled : List ℕ → List ℕ → Answer → List ℕ → Type 0
Filled card before a after = (a ≡ done (length card ∷ [])) × (after ≡ card ++ drop (length card) before)

-- DEMAND 1. "Every card, draft, request and call that meets document 01's questions gets the result written there, and the
-- call ends. Every other input, of any length and content, gets the number of the first question it misses; the ledger is
-- then the one handed in, or the empty one after a refused card, and no byte of a lent buffer has changed."
pub record Demand1 : Type 0 where
  -- a card of any length and content
  pub read :
      (card : List ℕ) (r : ReadResult) → is_bytes card ≡ true → Reads card r →
      Answered (card_questions card) (Succeeds [] (content_of card).model) empty_ledger (read_answer r.answer) r.ledger
  -- a draft of any length and content
  pub commit :
      (l : Ledger) (s : List ℕ) (r : CommitResult) → Reachable l → is_bytes s ≡ true → Commits l s r →
      Answered (bytes_questions meant (view l) s) (Succeeds [] (after_commit (view l) s)) l
      (commit_answer r.answer)
      r.ledger
  pub revoke :
      (l : Ledger) (n : ℕ) (r : RevokeResult) → Reachable l → Revokes l n r →
      Answered (revoke_questions (view l) n) (Succeeds [] (after_revoke (view l) n)) l (revoke_answer r.answer) r.ledger
  pub advance :
      (l : Ledger) (t : ℕ) (r : AdvanceResult) → Reachable l → Advances l t r →
      Answered (advance_questions (view l) t) (Succeeds (dropped (view l) t) (after_advance (view l) t)) l
      (advance_answer r.answer)
      r.ledger
  pub issue :
      (l : Ledger) (n p states minutes : ℕ) (r : IssueResult) → Reachable l → Issues l n p states minutes r →
      Answered (issue_questions (view l) n states minutes) (Succeeds [] (after_issue (view l) n p states minutes)) l
      (issue_answer r.answer)
      r.ledger
  -- decide and brief give an answer alone: the ledger stays with the caller
  pub decide :
      (l : Ledger) (q : Query) (a : DecideAnswer) → Reachable l → Decides l q a →
      Answered (decide_questions (view l) q) (Tells (decision_values (decision (view l) q))) tt (decide_answer a) tt
  pub brief :
      (l : Ledger) (n p : ℕ) (a : BriefAnswer) → Reachable l → Briefs l n p a →
      Answered (brief_questions (view l) n p) (Tells (brief_values (view l) n p)) tt (brief_answer a) tt
  -- a lent buffer: the card's bytes, then what stood there; after a refusal every byte as it was
  pub write :
      (l : Ledger) (before : List ℕ) (a : WriteAnswer) (after : List ℕ) → Reachable l → Writes l before a after →
      Answered (write_questions (view l) before) (Filled (card_bytes (view l)) before) before (write_answer a) after
  -- document 02, #101: a draft of any length and content, and any requester; the ledger handed in comes back, whatever the answer
  pub preview :
      (l : Ledger) (s : List ℕ) (w : Requester) (r : PreviewResult) → Reachable l → is_bytes s ≡ true → Previews l s w r →
      Answered (preview_questions (view l) s w) (HandsBack l (preview_values (view l) s w)) l (preview_answer r.answer) r.ledger

-- the effect (1 permit, 0 deny) and the basis of a decide's answer
abbrev pub effect_and_basis : DecideAnswer → List ℕ
effect_and_basis a = take 2 (values (decide_answer a))

abbrev pub effect_values : Effect → List ℕ
effect_values e = one_if e.permit ∷ e.basis ∷ []

-- DEMAND 2. "Decisions, briefs and cards are those of document 01, after the two consent papers it names."
pub record Demand2 : Type 0 where
  pub decisions : (l : Ledger) (q : Query) (a : DecideAnswer) → Reachable l → Decides l q a → decide_answer a ≡ decided (view l) q
  pub briefs : (l : Ledger) (n p : ℕ) (a : BriefAnswer) → Reachable l → Briefs l n p a → brief_answer a ≡ briefed (view l) n p
  pub cards_read :
      (card : List ℕ) (r : ReadResult) → is_bytes card ≡ true → Reads card r →
      (read_answer r.answer ≡ (reading card).answer) × (view r.ledger ≡ (reading card).model)
  pub cards_written :
      (l : Ledger) (before : List ℕ) (a : WriteAnswer) (after : List ℕ) → Reachable l → Writes l before a after →
      (write_answer a ≡ writing (view l) before) × (after ≡ buffered (view l) before)
  -- "What the directives say is what XACML 3.0's as_deny_overrides says over the active ones,
  pub as_deny_overrides :
      (l : Ledger) (q : Query) → Reachable l → q.requester.person < persons → passes (decide_questions (view l) q) ≡ true →
      directives_say (matching (view l) q) ≡ deny_overrides (results (view l) q)
  -- and equally its as_permit_overrides";
  pub as_permit_overrides :
      (l : Ledger) (q : Query) → Reachable l → q.requester.person < persons → passes (decide_questions (view l) q) ≡ true →
      directives_say (matching (view l) q) ≡ permit_overrides (results (view l) q)
  -- "outside the baseline a combined NotApplicable leads to basis 4", and another result to its effect and basis 3, whichever
  -- of the two combines.
  pub combined :
      (l : Ledger) (q : Query) (a : DecideAnswer) → Reachable l → q.requester.person < persons → Decides l q a →
      passes (decide_questions (view l) q) ≡ true → is_patient (view l) q ≡ false → is_author (view l) q ≡ false →
      (effect_and_basis a ≡ effect_values (effect_of (view l) q (deny_overrides (results (view l) q))))
      × (effect_and_basis a ≡ effect_values (effect_of (view l) q (permit_overrides (results (view l) q))))
  -- "Reading a written card restores its patient, register, clock and directives"; a card has no tokens.
  pub read_written :
      (l : Ledger) (before : List ℕ) (a : WriteAnswer) (after : List ℕ) (r : ReadResult) →
      Reachable l → Writes l before a after → passes (write_questions (view l) before) ≡ true →
      Reads (take (length (card_bytes (view l))) after) r →
      (read_answer r.answer ≡ done []) × (view r.ledger ≡ with_tokens (view l) [])
  -- "writing an accepted edition 2 card restores its bytes."
  pub written_read :
      (card : List ℕ) (r : ReadResult) (before : List ℕ) (a : WriteAnswer) (after : List ℕ) →
      is_bytes card ≡ true → Reads card r → passes (card_questions card) ≡ true →
      (content_of card).edition ≡ written_edition → length card ≤ length before → Writes r.ledger before a after →
      (write_answer a ≡ done (length card ∷ [])) × (take (length card) after ≡ card)

-- one of the active, of the effect opposite to d's, matches the request
abbrev pub opposed : Model → Directive → Request → Bool
opposed m d q = some_in (λ e. not (same_effect d e) && matches m.register e q) m.active

-- one of the active matches the request
abbrev pub matched_by_active : Model → Request → Bool
matched_by_active m q = some_in (λ e. matches m.register e q) m.active

-- the number that a commit is refused with, 0 for none
abbrev pub refused_with : CommitResult → ℕ
refused_with r = refusal (commit_answer r.answer)

-- "A draft that passes questions 6 to 12 is refused 13 exactly when some request is matched by it and an opposite active
-- directive; otherwise it is refused 14 exactly when every request it matches is matched by some active directive, and else
-- accepted."
pub record Exact (l : Ledger) (s : List ℕ) (r : CommitResult) : Type 0 where
  pub thirteen :
      nat_eq (refused_with r) 13
      ≡ some_request (view l).register (view l).clock
      (λ q. matches (view l).register (drafted s) q && opposed (view l) (drafted s) q)
  pub fourteen :
      nat_eq (refused_with r) 13 ≡ false →
      nat_eq (refused_with r) 14
      ≡ every_request (view l).register (view l).clock
      (λ q. implies (matches (view l).register (drafted s) q) (matched_by_active (view l) q))
  pub else_accepted :
      nat_eq (refused_with r) 13 ≡ false → nat_eq (refused_with r) 14 ≡ false → accepted (commit_answer r.answer) ≡ true

-- What holds after a list of calls cs with the answers rs on the ledger of a card, which gave the ledger l.
pub record Kept (card : List ℕ) (cs : List Call) (rs : List Answer) (l : Ledger) : Type 0 where
  -- "After the list, every answer and the ledger are those of document 01's plain book",
  pub answers_kept : rs ≡ answers (reading card).model cs
  pub ledger_kept : view l ≡ model_after (reading card).model cs
  -- "and active = read + accepted - revoked - expired."
  pub balance :
      length (view l).active + (totals cs rs).revoked + (totals cs rs).expired
      ≡ length (reading card).model.active + (totals cs rs).accepted
  -- "Every decide call that passes question 17 gives document 01's decision on that ledger,
  pub decided_kept :
      (q : Query) (a : DecideAnswer) → Decides l q a → passes (decide_questions (view l) q) ≡ true →
      decide_answer a ≡ done (decision_values (decision (view l) q))
  -- and so permits the patient,
  pub patient_permitted :
      (q : Query) (a : DecideAnswer) → Decides l q a → passes (decide_questions (view l) q) ≡ true →
      is_patient (view l) q ≡ true → decide_answer a ≡ done (1 ∷ 1 ∷ [])
  -- and an author on their own record."
  pub author_permitted :
      (q : Query) (a : DecideAnswer) → Decides l q a → passes (decide_questions (view l) q) ≡ true →
      is_author (view l) q ≡ true → take 1 (values (decide_answer a)) ≡ 1 ∷ []
  -- "No request now or later is matched by both a permit and a deny among the active."
  pub no_clash :
      (d e : Directive) → Memᴰ d (view l).active → Memᴰ e (view l).active →
      d.permit ≡ true → e.permit ≡ false → (q : Request) → InRange (view l).register (view l).clock q →
      matches (view l).register d q ≡ true → matches (view l).register e q ≡ true → ⊥
  -- the two exact clauses, of every draft
  pub exact :
      (s : List ℕ) (r : CommitResult) → is_bytes s ≡ true → Commits l s r →
      passes (questions_before 13 (bytes_questions meant (view l) s)) ≡ true → Exact l s r
  -- "Drafts that stand beside each other, committed in any two orders, leave every decide call the same effect and basis, now
  -- and after the same advances." `now` is the empty list of advances.
  pub order :
      (ss ts : List (List ℕ)) (minutes : List ℕ) → compatible (view l) ss ≡ true → Permᴰ ss ts →
      (l₁ m₁ l₂ m₂ : Ledger) (rs₁ xs₁ rs₂ xs₂ : List Answer) →
      Run l (map commit ss) rs₁ l₁ → Run l₁ (map advance minutes) xs₁ m₁ →
      Run l (map commit ts) rs₂ l₂ → Run l₂ (map advance minutes) xs₂ m₂ →
      (q : Query) (a b : DecideAnswer) → q.requester.person < persons → Decides m₁ q a → Decides m₂ q b →
      effect_and_basis a ≡ effect_and_basis b

-- DEMAND 3. "Take the ledger read from any card that document 01's questions accept, and any list of commit, revoke, advance
-- and issue calls on it, refused ones included."
abbrev pub Demand3 : Type 0
Demand3 =
    (card : List ℕ) (r : ReadResult) (cs : List Call) (rs : List Answer) (l : Ledger) →
    is_bytes card ≡ true → passes (card_questions card) ≡ true → Reads card r → Run r.ledger cs rs l →
    Kept card cs rs l
