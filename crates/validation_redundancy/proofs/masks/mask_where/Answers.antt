-- `masks::mask_where` adds the directives in turn: after i turns the mask has those of the first i that pass.
use Prim.Native.Nat.{◌+◌, ◌<◌, ◌≤◌}
use mathlib.Core.Path.{◌≡◌, refl, sym, ap, ◌∙◌}
use mathlib.Core.Bool.{Bool}
use mathlib.Core.List.{List}
use native.Mathlib.Nat.{lt_of_lt_of_le}
use native.Mathlib.Omega.{arith}
use lib.ListN.{length, get_or}
use lib.Pow.{pow_mono}
use Rattle.std.proofs.lemmas.List.{get_or_read_under}
use Rattle.sets.proofs.SetLaws.{bit_more, built_none, built_with, built_without, built_all}
use Rattle.active.specs.declared.Active.{Active}
use Rattle.active.specs.Active.{no_active, entries_of}
use Rattle.validation_redundancy.proofs.masks.mask_where.Goals.{then-test, else-test}
use Rattle.validation_redundancy.proofs.masks.mask_where.Goals as goal

pub loop-i-init : goal.loop-i-init
loop-i-init g c = (omega arith, λ p f. built_none)

pub loop-i-preserved : goal.loop-i-preserved
loop-i-preserved g c =
    let l = c.args.list.now in
    let i = c.loop-i.i in
    let same = c.as_slice-a-items.ensures.value in
    let few : length (entries_of l) ≤ 32 = omega (arith, ap length same, c.as_slice-a-items.ensures.few) in
    let inside : i < length c.as_slice-a-items.result.now = omega arith in
    let here : i < length (entries_of l) = omega (arith, ap length same) in
    let small = c.loop-i.invariant.0 in
    let under : i < 32 = omega arith in
    let grows : i ≤ i + 1 = omega arith in
    let met = get_or_read_under c.as_slice-a-items.result.now i _ _ no_active c.a-item.is inside refl in
    let said : (p : Active → Bool) (f : _) → p (get_or (entries_of l) i no_active) ≡ c.test.result =
    λ p f. ap (λ (es : List Active). p (get_or es i no_active)) (sym same) ∙ ap p (sym met) ∙ sym (f _ _ c.test.ensures) in
    elim c.if-test.branch [
      | then-test w ↦ rw w.mask-is (
        (bit_more 32 c.loop-i.mask i small under).0,
        λ p f. built_with (c.loop-i.invariant.1 p f) 32 few here (said p f ∙ w.if-test.true),
      )
      | else-test w ↦ rw w.mask-is (
        lt_of_lt_of_le small (pow_mono {j = i + 1} grows),
        λ p f. built_without (c.loop-i.invariant.1 p f) here (said p f ∙ w.if-test.false),
      )
    ]

pub overflow_add-mask : goal.overflow_add-mask
overflow_add-mask g c =
    record { fits = (bit_more 32 c.loop-i.mask c.loop-i.i c.loop-i.invariant.0 (omega (arith, c.as_slice-a-items.ensures.few))).1 }

pub returns : goal.returns
returns g c p f = built_all (c.loop-i.invariant.1 p f) (omega (arith, ap length c.as_slice-a-items.ensures.value))
