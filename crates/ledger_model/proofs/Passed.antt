-- The questions of a draft by name: what passing 7 to 13 says, how those before 13 and before 14 split off, and the outcome of a
-- draft's bytes by that of what they write.
use Prim.Native.Nat.{ℕ, ◌<◌}
use mathlib.Core.Path.{◌≡◌, refl, ◌∙◌}
use mathlib.Core.Bool.{true, false, ◌&&◌, not, and-true}
use mathlib.Core.List.{List, [], ◌∷◌, ◌++◌}
use borrow.Author.Tests.{not-true, ltb-true, lt-ltb}
use lib.ListN.{length}
use lib.Dec.{eqb}
use Rattle.sets.specs.Quantifiers.{all_in, some_in}
use Rattle.sets.proofs.Quantifiers.{and_both, and_left, and_right}
use Rattle.directive.specs.Places.{active_places}
use Rattle.drafts.specs.declared.Draft.{Draft}
use Rattle.drafts.specs.Form.{draft_size, draft_of, keeps_ranges, directive_of}
use Rattle.validation_meaning.specs.Judgement.{Judgement}
use Rattle.ledger_model.specs.Model.{Model}
use Rattle.ledger_model.specs.Answer.{refused}
use Rattle.ledger_model.specs.Questions.{ask, first_no, passes, questions_before, in_register, has_minutes, is_active, conflict_question, directive_questions, draft_questions, bytes_questions}
use Rattle.ledger_model.specs.Calls.{drafted, committed_draft_by, committed_by}
use Rattle.ledger_model.proofs.Questions.{passes_append}

-- A draft that passes questions 7 to 13.
pub record Passed (j : Judgement) (m : Model) (s : Draft) : Type 0 where
  pub ranges : keeps_ranges s ≡ true
  pub there : in_register m.register (directive_of s) ≡ true
  pub minutes : has_minutes m.clock (directive_of s) ≡ true
  pub free : is_active (directive_of s).number m.active ≡ false
  pub room : length m.active < active_places
  pub spared : j.breaks m.register m.patient m.clock (directive_of s) ≡ false
  pub clear : some_in (j.conflicts m.register m.clock (directive_of s)) m.active ≡ false

module _ (j : Judgement) (m : Model) (s : Draft) where
  pub passed_read : passes (directive_questions j m s) ≡ true → Passed j m s
  unfolding all_in directive_questions
  passed_read e =
      record {
        ranges = and_left _ _ e;
        there = search (and_left, and_right);
        minutes = search (and_left, and_right);
        free = not-true _ (search (and_left, and_right));
        room = ltb-true _ _ (search (and_left, and_right) depth 9);
        spared = not-true _ (search (and_left, and_right) depth 9);
        clear = not-true _ (search (and_left, and_right) depth 9);
      }

  pub passed_make : Passed j m s → passes (directive_questions j m s) ≡ true
  unfolding all_in directive_questions
  passed_make h =
      rw (
        h.ranges,
        h.there,
        h.minutes,
        h.free,
        lt-ltb (length m.active) active_places h.room,
        h.spared,
        h.clear,
      )

  -- question 14 comes after them
  pub passes_draft :
      passes (draft_questions j m s)
      ≡ passes (directive_questions j m s) && not (j.repeats m.register m.clock (directive_of s) m.active)
  unfolding all_in draft_questions
  passes_draft = passes_append (directive_questions j m s) _ ∙ rw and-true

-- The same of a draft's bytes.
module _ (j : Judgement) (m : Model) (s : List ℕ) where
  -- before 14 stand 6 and then 7 to 13
  before_14 :
      passes (questions_before 14 (bytes_questions j m s))
      ≡ eqb (length s) draft_size && passes (directive_questions j m (draft_of s))
  unfolding all_in questions_before bytes_questions draft_questions directive_questions
  before_14 = refl

  pub before_14_read :
      passes (questions_before 14 (bytes_questions j m s)) ≡ true →
      (eqb (length s) draft_size ≡ true) × Passed j m (draft_of s)
  before_14_read e =
      let (size, rest) = and_both (eqb (length s) draft_size) _ (rw before_14 at e) in
      (size, passed_read j m (draft_of s) rest)

  pub before_14_make :
      eqb (length s) draft_size ≡ true → Passed j m (draft_of s) →
      passes (questions_before 14 (bytes_questions j m s)) ≡ true
  before_14_make size h = before_14 ∙ rw (size, passed_make j m (draft_of s) h)

  -- after those before 12 stand 12 to 14
  pub from_12 :
      bytes_questions j m s
      ≡ questions_before 12 (bytes_questions j m s)
      ++ (ask 12 (not (j.breaks m.register m.patient m.clock (drafted s)))
      ∷ conflict_question j m (drafted s)
      ∷ ask 14 (not (j.repeats m.register m.clock (drafted s) m.active))
      ∷ [])
  unfolding questions_before bytes_questions draft_questions directive_questions
  from_12 = refl

  -- after those before 13 stand 13 and 14
  pub from_13 :
      bytes_questions j m s
      ≡ questions_before 13 (bytes_questions j m s)
      ++ (conflict_question j m (drafted s) ∷ ask 14 (not (j.repeats m.register m.clock (drafted s) m.active)) ∷ [])
  unfolding questions_before bytes_questions draft_questions directive_questions
  from_13 = refl

  -- the outcome of bytes that are as many as a draft's is that of what they write; of others, a refusal by question 6
  pub committed_bytes :
      eqb (length s) draft_size ≡ true → committed_by j m s ≡ committed_draft_by j m (draft_of s)
  unfolding all_in first_no bytes_questions committed_by committed_draft_by
  committed_bytes e = rw e

  pub committed_other :
      eqb (length s) draft_size ≡ false → committed_by j m s ≡ record { answer = refused 6 []; model = m }
  unfolding all_in first_no bytes_questions committed_by
  committed_other e = rw e
