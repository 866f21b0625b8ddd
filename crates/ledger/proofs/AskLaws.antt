-- The questions of a directive, 7 to 13, by search, in turn: the answer where the first "no" is that of one of them, and where none is.
use mathlib.Core.Path.{◌≡◌, sym}
use mathlib.Core.Bool.{true, false}
use mathlib.Core.List.{[], ◌∷◌}
use lib.ListN.{length}
use lib.Dec.{ltb}
use Rattle.std.specs.Prelude.{Some, None}
use Rattle.sets.specs.Quantifiers.{keep}
use Rattle.directive.specs.declared.lowest.Best.{Best}
use Rattle.directive.specs.Lowest.{best_of}
use Rattle.directive.specs.Places.{active_places}
use Rattle.directive.proofs.LowestLaws.{best_found, best_number}
use Rattle.drafts.specs.declared.Draft.{Draft}
use Rattle.drafts.specs.Form.{keeps_ranges, directive_of}
use Rattle.validation_meaning.specs.Search.{conflict_found, breaks_baseline_found}
use Rattle.validation_meaning.specs.Searched.{searched}
use Rattle.ledger_model.specs.Model.{Model}
use Rattle.ledger_model.specs.Answer.{Answer, done, refused}
use Rattle.ledger_model.specs.Questions.{first_no, in_register, has_minutes, is_active, directive_questions}

module _ (m : Model) (s : Draft) where
  abbrev pub answer : Answer
  answer = first_no (directive_questions searched m s) (done [])

  pub no_7 : keeps_ranges s ≡ false → refused 7 [] ≡ answer
  unfolding directive_questions first_no
  no_7 e = rw e

  module _ (in_ranges : keeps_ranges s ≡ true) where
    pub no_8 : in_register m.register (directive_of s) ≡ false → refused 8 [] ≡ answer
    unfolding directive_questions first_no
    no_8 e = rw (in_ranges, e)

    module _ (there : in_register m.register (directive_of s) ≡ true) where
      pub no_9 : has_minutes m.clock (directive_of s) ≡ false → refused 9 [] ≡ answer
      unfolding directive_questions first_no
      no_9 e = rw (in_ranges, there, e)

      module _ (timely : has_minutes m.clock (directive_of s) ≡ true) where
        pub no_10 : is_active (directive_of s).number m.active ≡ true → refused 10 [] ≡ answer
        unfolding directive_questions first_no
        no_10 e = rw (in_ranges, there, timely, e)

        module _ (free : is_active (directive_of s).number m.active ≡ false) where
          pub no_11 : ltb (length m.active) active_places ≡ false → refused 11 [] ≡ answer
          unfolding directive_questions first_no
          no_11 e = rw (in_ranges, there, timely, free, e)

-- a draft that passes the questions 7 to 11
pub record PassesTo11 (m : Model) (s : Draft) : Type 0 where
  pub in_ranges : keeps_ranges s ≡ true
  pub there : in_register m.register (directive_of s) ≡ true
  pub timely : has_minutes m.clock (directive_of s) ≡ true
  pub free : is_active (directive_of s).number m.active ≡ false
  pub room : ltb (length m.active) active_places ≡ true

module _ (m : Model) (s : Draft) (p : PassesTo11 m s) where
  pub no_12 : breaks_baseline_found m.register m.patient m.clock (directive_of s) ≡ true → refused 12 [] ≡ answer m s
  unfolding directive_questions first_no
  no_12 e = rw (p.in_ranges, p.there, p.timely, p.free, p.room, e)

  module _ (spared : breaks_baseline_found m.register m.patient m.clock (directive_of s) ≡ false) where
    pub no_13 :
        (b : Best) → best_of (keep (conflict_found m.register m.clock (directive_of s)) m.active) ≡ Some b →
        refused 13 (b.number ∷ []) ≡ answer m s
    unfolding directive_questions first_no
    no_13 b e =
        rw (
          p.in_ranges,
          p.there,
          p.timely,
          p.free,
          p.room,
          spared,
          sym (best_found (conflict_found m.register m.clock (directive_of s)) m.active),
          best_number _ b e,
          e,
        )

    pub all_passed :
        best_of (keep (conflict_found m.register m.clock (directive_of s)) m.active) ≡ None → done [] ≡ answer m s
    unfolding directive_questions first_no
    all_passed e =
        rw (
          p.in_ranges,
          p.there,
          p.timely,
          p.free,
          p.room,
          spared,
          sym (best_found (conflict_found m.register m.clock (directive_of s)) m.active),
          e,
        )
