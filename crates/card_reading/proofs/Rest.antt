-- What is left of a card: the parts of the field at its start, and what reading it gives.
use Prim.Native.Nat.{ℕ, ◌+◌, ◌-◌, ◌*◌, ◌<◌, ◌≤◌}
use mathlib.Core.Path.{◌≡◌, refl, sym, ap, ◌∙◌}
use mathlib.Core.Bool.{Bool, true, false, ◌&&◌, not}
use mathlib.Core.List.{List, []}
use native.Mathlib.Omega.{arith}
use borrow.Author.Tests.{le-leb, lt-leb}
use lib.ListN.{length, take, drop, get_or, length-drop}
use lib.Seq.{drop-drop}
use lib.Dec.{ltb}
use Rattle.std.specs.Prelude.{Ok, Err, None}
use Rattle.std.proofs.lemmas.List.{take_rest}
use Rattle.sets.specs.Quantifiers.{all_in}
use Rattle.sets.specs.Numbers.{number_from}
use Rattle.sets.proofs.Numbers.{number_first, number_next}
use Rattle.sets.proofs.Quantifiers.{both_ways}
use Rattle.validation_meaning.specs.Judgement.{meant}
use Rattle.ledger.specs.declared.Ledger.{Ledger}
use Rattle.ledger_model.specs.Model.{Model, empty_model}
use Rattle.ledger.specs.State.{view, empty_ledger}
use Rattle.ledger_model.specs.Answer.{Answer, done, accepted}
use Rattle.ledger_model.specs.Questions.{first_no, Outcome}
use Rattle.ledger.specs.Invariant.{Invariant}
use Rattle.ledger.specs.Promises.{Gives}
use Rattle.ledger_model.proofs.Questions.{first_accepted}
use Rattle.ledger.proofs.CallLaws.{refuses}
use Rattle.ledger.proofs.Beginning.{empty_view, empty_sound}
use Rattle.card.specs.declared.ReadRefusal.{ReadRefusal}
use Rattle.card.specs.declared.ReadRefusal.TheVariants.{NotWhole, Incomplete}
use Rattle.card_reading.specs.declared.read.Reader.{Reader}
use Rattle.card.specs.Answer.{ReadAnswer, read_answer, read_refusal}
use Rattle.card.specs.Grammar.{tag_of, field_tag, value_size, field_value, after_field, stands_whole}
use Rattle.card.specs.Reading.{Progress, is_empty, field_questions, reading}
use Rattle.card_reading.specs.Reader.{progress, Took}
use Rattle.card_reading.proofs.ReaderLaws.{no_success}
use Rattle.card.specs.Promises.{read_result, Reads}
use Rattle.card.proofs.Step.{outcome_from, outcome_end, field_passed, field_missed}

-- what stands after a field's tag and length, as `[tag, high, low, after @ ..]` takes it
abbrev after_size : List ℕ → List ℕ
after_size s = take (length s - 3) (drop 3 s)

-- the field at the start of s, of which n is the length
module _ (s : List ℕ) (three : 3 ≤ length s) (n : ℕ) (size : n ≡ get_or s 1 0 * 256 + get_or s 2 0) where
  size_is : value_size s ≡ n
  unfolding number_from
  size_is = number_first 1 2 1 s (omega arith) refl ∙ number_next _ 2 3 0 s (omega arith) refl ∙ sym size

  value_is : field_value s ≡ take n (after_size s)
  value_is = rw (size_is, take_rest s 3)

  next_is : after_field s ≡ drop n (after_size s)
  next_is = rw (size_is, take_rest s 3, drop-drop n 3 s)

  whole : n ≤ length (after_size s) → stands_whole s ≡ true
  whole h =
      let long = rw (take_rest s 3, length-drop) at h in
      rw (size_is, le-leb 3 (length s) three, le-leb (3 + n) (length s) (omega arith))

  cut : length (after_size s) < n → stands_whole s ≡ false
  cut h =
      let short = rw (take_rest s 3, length-drop) at h in
      rw (size_is, le-leb 3 (length s) three, lt-leb (3 + n) (length s) (omega arith))

-- what is known where s is left of the card
pub record Left (card s : List ℕ) (r : Reader) : Type 0 where
  pub invariant : Invariant r.ledger
  pub same : reading card ≡ outcome_from meant (progress r) s

pub none_read : (card : List ℕ) {l : Ledger} → l ≡ empty_ledger → Left card card (record { edition = None; ledger = l })
none_read card e =
    rw e
    (record {
      invariant = empty_sound;
      same = ap (λ (m : Model). outcome_from meant (record { edition = 0; model = m }) card) (sym empty_view);
    })

-- a card that is refused, and one that is read
gives_empty : (o : Outcome) (a : Answer) → o ≡ record { answer = a; model = empty_model } → Gives empty_ledger o a empty_ledger
gives_empty o a e = refuses empty_sound (rw empty_view e)

gives_read :
    (o : Outcome) (l : Ledger) → Invariant l → o ≡ record { answer = done []; model = view l } → Gives empty_ledger o (done []) l
gives_read o l invariant e = record { answer = rw e; ledger = rw e; unchanged = λ f. both_ways refl f; invariant = invariant }

module _ {card s : List ℕ} {r : Reader} (h : Left card s r) where
  -- a field that misses a question
  missed :
      (a : ReadRefusal) → 0 < length s →
      first_no (field_questions meant (progress r) s) (done []) ≡ read_refusal a → Reads card (read_result (Err a))
  missed a l e =
      let qs = field_questions meant (progress r) s in
      gives_empty (reading card) (read_refusal a)
      (h.same
      ∙ field_missed meant (progress r) s l (sym (first_accepted qs) ∙ ap accepted e ∙ no_success a)
      ∙ rw e)

  not_whole : 0 < length s → stands_whole s ≡ false → Reads card (read_result (Err NotWhole))
  unfolding first_no field_questions
  not_whole l e = missed NotWhole l (rw e)

  pub size_cut : 0 < length s → length s < 3 → Reads card (read_result (Err NotWhole))
  size_cut some l = not_whole some (rw (lt-leb 3 (length s) l))

  module _ (three : 3 ≤ length s) (n : ℕ) (size : n ≡ get_or s 1 0 * 256 + get_or s 2 0) where
    pub value_cut : length (after_size s) < n → Reads card (read_result (Err NotWhole))
    value_cut l = not_whole (omega arith) (cut s three n size l)

    -- what reading the field that stands whole gives
    module _ (long : n ≤ length (after_size s)) {value : List ℕ} (front : value ≡ take n (after_size s)) (after : Reader) where
      abbrev TookValue : ReadAnswer → Type 0
      TookValue a = Took (progress r) (tag_of (get_or s 0 0)) value a after

      took_here : (a : ReadAnswer) → TookValue a → Took (progress r) (field_tag s) (field_value s) a after
      took_here a took = rw (value_is s three n size, ← front) took

      answered :
          (a : ReadAnswer) → TookValue a →
          first_no (field_questions meant (progress r) s) (done []) ≡ read_answer a
      unfolding first_no field_questions
      answered a took = rw (whole s three n size long) (sym (took_here a took).answer)

      pub field_refused : (a : ReadRefusal) → TookValue (Err a) → Reads card (read_result (Err a))
      field_refused a took = missed a (omega arith) (answered (Err a) took)

      pub field_read :
          {next : List ℕ} → next ≡ drop n (after_size s) → (u : Unit {0}) → TookValue (Ok u) → Left card next after
      field_read back u took =
          let qs = field_questions meant (progress r) s in
          record {
            invariant = took.invariant;
            same =
                h.same
                ∙ field_passed meant (progress r) s (omega arith)
                (sym (first_accepted qs) ∙ ap accepted (answered (Ok u) took))
                ∙ rw (next_is s three n size, ← back, (took_here (Ok u) took).reader refl);
          }

-- question 5 of what was read
abbrev pub is_complete : Progress → Bool
is_complete p =
    ltb 0 p.edition
    && not (is_empty p.model.register.roles)
    && not (is_empty p.model.register.records)

module _ {card s : List ℕ} {r : Reader} (h : Left card s r) (ended : length s ≡ 0) where
  pub end_refused : is_complete (progress r) ≡ false → Reads card (read_result (Err Incomplete))
  unfolding first_no all_in
  end_refused e =
      gives_empty (reading card) (read_refusal Incomplete) (h.same ∙ outcome_end meant (progress r) s ended ∙ rw e)

  pub end_read : is_complete (progress r) ≡ true → Reads card (read_result (Ok r.ledger))
  unfolding first_no all_in
  end_read e = gives_read (reading card) r.ledger h.invariant (h.same ∙ outcome_end meant (progress r) s ended ∙ rw e)
