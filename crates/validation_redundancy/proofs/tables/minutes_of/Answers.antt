-- `tables::minutes_of` walks over the boundary minutes: after i turns it has the masks at those of the first i + 1 that the draft spans.
use Prim.Native.Nat.{◌+◌, ◌<◌, ◌≤◌}
use mathlib.Core.Path.{◌≡◌, refl, sym, ap, ◌∙◌}
use mathlib.Core.List.{List}
use native.Mathlib.Omega.{arith}
use lib.ListN.{length, get_or}
use lib.Seq.{take_all}
use Rattle.std.proofs.lemmas.List.{get_or_read_under}
use Rattle.directive.specs.Matching.{in_minutes}
use Rattle.active.specs.declared.Active.{Active}
use Rattle.active.specs.Active.{no_active, entries_of}
use Rattle.validation_redundancy.specs.Masks.{minute_mask, boundaries_of}
use Rattle.validation_redundancy.proofs.MaskLaws.{walked_none, walked_next, walked_skip, boundaries_long, boundary_at}
use Rattle.validation_redundancy.proofs.tables.minutes_of.Goals.{then-within, else-within, then-within-2, else-within-2}
use Rattle.validation_redundancy.proofs.tables.minutes_of.Goals as goal

pub loop-a-init : goal.loop-a-init
loop-a-init c =
    let l = entries_of c.args.list.now in
    let first = c.first_minute-first.result in
    let ms = boundaries_of first l in
    let f = minute_mask l in
    let s = in_minutes first c.args.d.now.until in
    let some : 0 < length ms = omega (arith, boundaries_long first l) in
    elim c.if-within.branch [
      | then-within w ↦ rw w.minutes-is (
        omega (arith, w.push.ensures.count),
        walked_next f s ms (walked_none f s ms) some refl (sym c.within.ensures ∙ w.if-within.true) w.minute_mask.ensures
            w.push.ensures.masks,
      )
      | else-within w ↦ rw w.minutes-is (
        omega arith,
        walked_skip f s ms (walked_none f s ms) some refl (sym c.within.ensures ∙ w.if-within.false),
      )
    ]

pub loop-a-preserved : goal.loop-a-preserved
loop-a-preserved c =
    let l = entries_of c.args.list.now in
    let first = c.first_minute-first.result in
    let ms = boundaries_of first l in
    let f = minute_mask l in
    let s = in_minutes first c.args.d.now.until in
    let i = c.loop-a.a-index in
    let same = c.as_slice-a-items.ensures.value in
    let inner : i + 1 < length ms = omega (arith, boundaries_long first l, ap length same) in
    let met = get_or_read_under c.as_slice-a-items.result.now i _ _ no_active c.a-item.is c.loop-a-test.true refl in
    let here : c.a-item.result.directive.until ≡ get_or ms (i + 1) 0 =
    ap (λ (a : Active). a.directive.until) met ∙ ap (λ (es : List Active). (get_or es i no_active).directive.until) same
    ∙ sym (boundary_at first l i) in
    let inv = c.loop-a.invariant in
    elim c.if-within-2.branch [
      | then-within-2 w ↦ rw w.minutes-is (
        omega (arith, w.push-then-within-2.ensures.count, inv.0),
        walked_next f s ms inv.1 inner here (sym c.within-in-loop-a.ensures ∙ w.if-within-2.true) w.minute_mask-then-within-2.ensures
            w.push-then-within-2.ensures.masks,
      )
      | else-within-2 w ↦ rw w.minutes-is (
        omega (arith, inv.0),
        walked_skip f s ms inv.1 inner here (sym c.within-in-loop-a.ensures ∙ w.if-within-2.false),
      )
    ]

pub returns-clause-few : goal.returns-clause-few
returns-clause-few c =
    omega (arith, c.loop-a.invariant.0, ap length c.as_slice-a-items.ensures.value, c.as_slice-a-items.ensures.few)

pub returns-clause-masks : goal.returns-clause-masks
returns-clause-masks c =
    let l = entries_of c.args.list.now in
    let all_in : length (boundaries_of c.first_minute-first.result l) ≤ c.loop-a.a-index + 1 =
    omega (arith, boundaries_long c.first_minute-first.result l, ap length c.as_slice-a-items.ensures.value) in
    rw (sym c.first_minute-first.ensures)
    (rw (take_all (c.loop-a.a-index + 1) (boundaries_of c.first_minute-first.result l) all_in) at c.loop-a.invariant.1)
