-- Laws of the records that a directive selects: there are none past the register, and so many as the set of them has.
use Prim.Native.Nat.{ℕ, ◌<◌, ◌≤◌}
use mathlib.Core.Path.{◌≡◌, sym, ◌∙◌}
use mathlib.Core.Bool.{Bool, false, ◌&&◌, ◌||◌}
use mathlib.Core.List.{List}
use native.Mathlib.Decide.{dec_lt}
use native.Mathlib.Omega.{arith}
use borrow.Author.Tests.{lt-ltb, le-ltb, ltb-true}
use lib.ListN.{length}
use lib.Dec.{eqb, ltb}
use Rattle.sets.specs.Quantifiers.{some_of}
use Rattle.sets.specs.RecordSets.{contains, record_set_of}
use Rattle.sets.specs.declared.record_set.RecordSet.{RecordSet}
use Rattle.sets.proofs.Quantifiers.{and_where}
use Rattle.sets.proofs.Ranges.{some_narrow}
use Rattle.sets.proofs.WordLaws.{contains_past, contains_words}
use Rattle.sets.proofs.FillLaws.{HasBelow}
use Rattle.register.specs.declared.Record.{Record}
use Rattle.register.specs.declared.records.Reach.{Reach}
use Rattle.register.specs.Tree.{parent_of}
use Rattle.register.specs.Records.{record_at, parents, descendant, reach_takes, reaches}
use Rattle.register.proofs.TreeLaws.{above_step}
use Rattle.directive.specs.declared.Directive.{Directive}
use Rattle.directive.specs.Selection.{passes_filters, selects}

-- what the pass over the records finds of record x, in whose place for the parent p stands
module _ (rs : List Record) (x p : ℕ) (e : parent_of (parents rs) x ≡ p) where
  pub descends :
      {b : Bool} (below : RecordSet) (r : ℕ) → x ≤ 128 → HasBelow below x (descendant rs r) →
      b ≡ ltb p x && (eqb r p || contains below p) → b ≡ descendant rs r x
  descends below r h has f =
      f
      ∙ and_where (ltb p x) (eqb r p || contains below p) (eqb r p || descendant rs r p)
      (λ t. let l = ltb-true p x t in rw (has p (omega arith), t))
      ∙ sym (above_step (parents rs) r x ∙ rw e)

  pub reached :
      (reach : Reach) (r : ℕ) → reach_takes reach (eqb r x) (ltb p x && eqb r p) (descendant rs r x) ≡ reaches rs reach r x
  unfolding reaches
  reached reach r = rw e

module _ (rs : List Record) (d : Directive) (k : ℕ) where
  pub selects_here :
      k < length rs → selects rs d k ≡ reaches rs d.reach d.«record» k && passes_filters (record_at rs k) d
  unfolding selects
  selects_here h = rw (lt-ltb k (length rs) h)

  pub selects_past : length rs ≤ k → selects rs d k ≡ false
  unfolding selects
  selects_past h = rw (le-ltb k (length rs) h)

-- the set of the selected records tells of every number whether it is selected
pub contains_selected :
    (rs : List Record) (d : Directive) (x : ℕ) → length rs ≤ 128 → contains (record_set_of (selects rs d)) x ≡ selects rs d x
contains_selected rs d x h =
    elim (dec_lt x 128) [
      | yes l ↦ contains_words (selects rs d) x l
      | no l ↦ contains_past _ x (omega arith) ∙ sym (selects_past rs d x (omega arith))
    ]

-- some selected record of the register passes q where some number of the set passes p, which is q on the register
pub some_selected :
    (rs : List Record) (d : Directive) (p q : ℕ → Bool) → length rs ≤ 128 → ((k : ℕ) → k < length rs → p k ≡ q k) →
    some_of 128 (contains (record_set_of (selects rs d))) p ≡ some_of (length rs) (selects rs d) q
some_selected rs d p q h same =
    some_narrow (length rs) 128 _ p _ q h (λ k l. contains_words (selects rs d) k (omega arith)) same
    (λ k l b. contains_words (selects rs d) k b ∙ selects_past rs d k l)
