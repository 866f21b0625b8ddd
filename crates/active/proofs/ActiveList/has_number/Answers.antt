-- `ActiveList::has_number`: at each turn, one of what is left has the number where one of all has.
use Prim.Native.Nat.{ℕ}
use mathlib.Core.Path.{◌≡◌, refl, sym, ap, ◌∙◌}
use mathlib.Core.List.{List}
use native.Mathlib.Omega.{arith}
use borrow.Author.Tests.{eq-eqb, ne_eqb}
use lib.ListN.{length, take, get_or}
use lib.Seq.{take_all}
use lib.Dec.{eqb}
use Rattle.std.proofs.lemmas.List.{get_or_read_under}
use Rattle.sets.specs.Quantifiers.{some_in}
use Rattle.sets.proofs.WalkLaws.{sought_none, sought_next, sought_found, sought_all}
use Rattle.active.specs.declared.Active.{Active}
use Rattle.active.specs.declared.ActiveList.{ActiveList}
use Rattle.active.specs.Active.{no_active, entries_of, directives_of}
use Rattle.active.proofs.ListLaws.{some_entries}
use Rattle.active.proofs.ActiveList.has_number.Goals as goal

-- the entries that the loop meets are those of the directives
module _ (l : ActiveList) (number : ℕ) where
  all_met : some_in (λ a. eqb a.directive.number number) (take (length (entries_of l)) (entries_of l)) ≡ some_in (λ d. eqb d.number number) (directives_of l)
  all_met = rw (take_all (length (entries_of l)) (entries_of l) (omega arith)) (some_entries (λ d. eqb d.number number) l)

pub loop-a-init : goal.loop-a-init
loop-a-init c = sought_none _ (omega arith)

pub returns-then-a-number : goal.returns-then-a-number
unfolding some_in
returns-then-a-number c =
    let l = c.args.self.now in
    let same = c.as_slice-a-items.ensures.value in
    let i = c.loop-a.a-index in
    let here = get_or_read_under c.as_slice-a-items.result.now i _ _ no_active c.a-item.is c.loop-a-test.true refl in
    let found = ap (λ (es : List Active). eqb (get_or es i no_active).directive.number c.args.number) (sym same)
    ∙ ap (λ (a : Active). eqb a.directive.number c.args.number) (sym here) ∙ eq-eqb _ _ c.if-a-number.true in
    sought_found _ no_active c.loop-a.invariant (omega (arith, ap length same)) (λ t. rw found) ∙ all_met l c.args.number

pub loop-a-preserved : goal.loop-a-preserved
unfolding some_in
loop-a-preserved c =
    let same = c.as_slice-a-items.ensures.value in
    let i = c.loop-a.a-index in
    let here = get_or_read_under c.as_slice-a-items.result.now i _ _ no_active c.a-item.is c.loop-a-test.true refl in
    let missed = ap (λ (es : List Active). eqb (get_or es i no_active).directive.number c.args.number) (sym same)
    ∙ ap (λ (a : Active). eqb a.directive.number c.args.number) (sym here) ∙ ne_eqb _ _ c.if-a-number.false in
    sought_next _ no_active c.loop-a.invariant (omega (arith, ap length same)) (λ t. rw missed)

pub returns : goal.returns
unfolding some_in
returns c =
    sought_all _ c.loop-a.invariant (omega (arith, ap length c.as_slice-a-items.ensures.value))
    ∙ all_met c.args.self.now c.args.number
