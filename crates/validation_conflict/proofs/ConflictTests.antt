-- The tests of a conflict in the order of the code, the records last.
use Prim.Native.Nat.{ℕ, ◌%◌, ◌≤◌, max, min}
use mathlib.Core.Path.{◌≡◌, refl, sym, ap}
use mathlib.Core.Bool.{Bool, true, false, ◌&&◌, not, beq, and-false}
use mathlib.Core.List.{List}
use native.Mathlib.Omega.{arith}
use lib.ListN.{length}
use lib.Dec.{ltb}
use Rattle.sets.specs.Quantifiers.{some_of}
use Rattle.sets.specs.Bits.{shares}
use Rattle.sets.specs.RecordSets.{contains}
use Rattle.sets.proofs.BitLaws.{shares_low}
use Rattle.sets.proofs.WordLaws.{contains_words}
use Rattle.register.specs.declared.Record.{Record}
use Rattle.register.specs.Register.{holding}
use Rattle.directive.specs.Selection.{selects}
use Rattle.directive.proofs.SelectLaws.{some_selected}
use Rattle.active.specs.declared.Active.{Active}
use Rattle.active.specs.Active.{active_in}
use Rattle.validation_meaning.specs.Search.{start, subjects_meet, overlap, conflict_found}

in_order : (s o r p m : Bool) → m && (o && (p && (s && r))) ≡ s && o && r && p && m
in_order s o r p false = sym (and-false (s && o && r && p))
in_order false false r p true = refl
in_order false true r false true = refl
in_order false true r true true = refl
in_order true false r p true = refl
in_order true true false false true = refl
in_order true true true false true = refl
in_order true true false true true = refl
in_order true true true true true = refl

module _ (roles : List ℕ) (rs : List Record) (clock : ℕ) (a e : Active) (few : length rs ≤ 128)
    (is_a : a ≡ active_in rs a.directive) (is_e : e ≡ active_in rs e.directive) where
  records_met :
      some_of 128 (contains a.selected) (contains e.selected)
      ≡ some_of (length rs) (selects rs a.directive) (selects rs e.directive)
  records_met =
      rw (ap (λ (a : Active). a.selected) is_a, ap (λ (a : Active). a.selected) is_e)
      (some_selected rs a.directive _ (selects rs e.directive) few
      (λ k l. contains_words (selects rs e.directive) k (omega arith)))

  pub conflict_tested :
      not (beq a.directive.permit e.directive.permit)
      && (ltb (max (start clock a.directive) (start clock e.directive)) (min a.directive.until e.directive.until)
      && (shares 16 a.directive.subject_origins e.directive.subject_origins
      && (shares 16 (a.directive.purposes % 2048) e.directive.purposes
      && (subjects_meet roles a.directive.subject e.directive.subject
      && some_of 128 (contains a.selected) (contains e.selected)))))
      ≡ conflict_found (holding roles rs) clock a.directive e.directive
  unfolding conflict_found overlap
  conflict_tested =
      let d = a.directive in
      let f = e.directive in
      rw (records_met, shares_low 11 16 d.purposes f.purposes (omega arith))
      (ap (λ (t : Bool). not (beq d.permit f.permit) && t)
      (in_order (subjects_meet roles d.subject f.subject) (shares 16 d.subject_origins f.subject_origins)
      (some_of (length rs) (selects rs d) (selects rs f)) (shares 11 d.purposes f.purposes)
      (ltb (max (start clock d) (start clock f)) (min d.until f.until))))
