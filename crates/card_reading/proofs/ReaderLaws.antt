-- Laws of what reading one field promises: of a refusal, of a field that is accepted, and of one that is left to the ledger: roles or a
-- record, to be enrolled, and a directive, to be admitted.
use Prim.Native.Nat.{ℕ}
use mathlib.Core.Path.{◌≡◌, refl, sym, ap, ap₂, ◌∙◌}
use mathlib.Core.Bool.{Bool, true, false}
use mathlib.Core.List.{List, [], ◌∷◌}
use lib.ListN.{length}
use Rattle.std.specs.Prelude.{Ok, Err}
use Rattle.sets.proofs.Quantifiers.{both_ways}
use Rattle.validation_meaning.specs.Judgement.{meant}
use Rattle.ledger.specs.declared.Ledger.{Ledger}
use Rattle.ledger_model.specs.Model.{Model}
use Rattle.ledger.specs.State.{view}
use Rattle.ledger_model.specs.Answer.{done, accepted}
use Rattle.ledger.specs.Answer.{AdmitAnswer, admit_answer}
use Rattle.ledger_model.specs.Questions.{ask, first_no, directive_questions}
use Rattle.ledger_model.specs.Calls.{admitted_by, admitted}
use Rattle.ledger.specs.Invariant.{Invariant}
use Rattle.ledger.specs.Enrolment.{EnrolAnswer, Enrols}
use Rattle.ledger.specs.Promises.{Gives}
use Rattle.ledger_model.proofs.Questions.{first_accepted}
use Rattle.ledger.proofs.AdmitLaws.{not_accepted}
use Rattle.card.specs.declared.ReadRefusal.{ReadRefusal}
use Rattle.card.specs.declared.ReadRefusal.TheVariants.{NotWhole, Misplaced, TooManyRecords, OutOfRange, Directive, Incomplete}
use Rattle.card.specs.Answer.{ReadAnswer, read_refusal}
use Rattle.card.specs.Grammar.{Tag, directive}
use Rattle.card.specs.Reading.{Progress, has_place, directive_draft, placed_questions, with_field}
use Rattle.card_reading.specs.declared.read.Reader.{Reader}
use Rattle.card_reading.specs.Reader.{edition_read, progress, Took}

-- a refusal is no success
pub no_success : (a : ReadRefusal) → accepted (read_refusal a) ≡ false
no_success NotWhole = refl
no_success Misplaced = refl
no_success TooManyRecords = refl
no_success OutOfRange = refl
no_success (Directive why) = not_accepted why
no_success Incomplete = refl

-- the field misses the question whose number the answer has
pub refuses :
    {p : Progress} {t : Tag} {v : List ℕ} {r : Reader} (a : ReadRefusal) → Invariant r.ledger →
    first_no (placed_questions meant p t v) (done []) ≡ read_refusal a → Took p t v (Err a) r
refuses a invariant e = record { answer = rw e; reader = λ t. both_ways t (no_success a); invariant = invariant }

-- the field passes its questions, and r has read it too
pub accepts :
    {p : Progress} {t : Tag} {v : List ℕ} (r : Reader) → Invariant r.ledger →
    first_no (placed_questions meant p t v) (done []) ≡ done [] → edition_read r.edition ≡ (with_field p t v).edition →
    view r.ledger ≡ (with_field p t v).model → Took p t v (Ok tt) r
accepts r invariant e edition model =
    record {
      answer = rw e;
      reader = λ _. ap₂ (λ (n : ℕ) (m : Model). record { edition = n; model = m }) edition model;
      invariant = invariant;
    }

-- a reader with another ledger
abbrev pub with_ledger : Reader → Ledger → Reader
with_ledger r l = record { edition = r.edition; ledger = l }

-- the field is left with question 4, which the ledger puts
abbrev pub enrolled : EnrolAnswer → ReadAnswer
enrolled (Ok u) = Ok u
enrolled (Err e) = Err OutOfRange

pub enrols :
    {r : Reader} {t : Tag} {v : List ℕ} {kept : Bool} {m : Model} {after : Ledger} (a : EnrolAnswer) →
    Enrols r.ledger kept m a after →
    first_no (placed_questions meant (progress r) t v) (done []) ≡ first_no (ask 4 kept ∷ []) (done []) →
    with_field (progress r) t v ≡ record { edition = edition_read r.edition; model = m } →
    Took (progress r) t v (enrolled a) (with_ledger r after)
unfolding first_no
enrols {r} {after = after} (Ok u) by asked read =
    accepts (with_ledger r after) by.invariant (asked ∙ rw (← by.fits))
    (ap (λ (p : Progress). p.edition) (sym read))
    (by.ledger (sym by.fits) ∙ ap (λ (p : Progress). p.model) (sym read))
enrols (Err e) by asked read = refuses OutOfRange by.invariant (asked ∙ rw (← by.fits))

-- the field is left with questions 7 to 13, which the ledger puts
abbrev pub admitted_as : AdmitAnswer → ReadAnswer
admitted_as (Ok u) = Ok u
admitted_as (Err why) = Err (Directive why)

pub admits :
    {r : Reader} {v : List ℕ} {after : Ledger} (a : AdmitAnswer) →
    Gives r.ledger (admitted (view r.ledger) (directive_draft (edition_read r.edition) v)) (admit_answer a) after →
    has_place (progress r) directive (length v) ≡ true →
    Took (progress r) directive v (admitted_as a) (with_ledger r after)
unfolding first_no admitted_by
admits {r} {v} {after} (Ok u) by placed =
    let questions = directive_questions meant (view r.ledger) (directive_draft (edition_read r.edition) v) in
    let passed = sym (first_accepted questions) ∙ ap accepted (sym by.answer) in
    accepts (with_ledger r after) by.invariant (rw placed (sym by.answer)) refl (by.ledger ∙ rw passed)
admits (Err why) by placed = refuses (Directive why) by.invariant (rw placed (sym by.answer))

-- a field that has no place
pub misplaced :
    {r : Reader} {t : Tag} {v : List ℕ} → Invariant r.ledger → has_place (progress r) t (length v) ≡ false →
    Took (progress r) t v (Err Misplaced) r
unfolding first_no
misplaced invariant none = refuses Misplaced invariant (rw none)

-- what reading a field of a tag gives, said of the tag's place
pub read_as :
    {p : Progress} {u t : Tag} {v : List ℕ} {a : ReadAnswer} {r : Reader} → u ≡ t → Took p t v a r → Took p u v a r
read_as e took = rw e took
