-- `search::all_covered`: at each level, the values before this one leave nothing uncovered, nor does the last mask, unless it is 0.
use mathlib.Core.Bool.{not}
use mathlib.Core.Path.{refl, sym, ◌∙◌, ap}
use lib.ListN.{length}
use Rattle.register.proofs.CallLaws.{failed, passed}
use Rattle.validation_redundancy.specs.Masks.{all_covered}
use Rattle.validation_redundancy.proofs.CoverLaws.{minutes_monotone, level_monotone, passed_none, passed_skip, passed_known, passed_more, passed_all, passed_not, level_all, level_not, minutes_none, minutes_more, minutes_all, minutes_not}
use Rattle.validation_redundancy.proofs.search.all_covered.Goals as goal

pub item-init : goal.item-init
item-init c = passed_none refl

pub item-preserved-then-not-contains : goal.item-preserved-then-not-contains
item-preserved-then-not-contains c =
    passed_skip c.item.invariant c.item-test.true (failed c.contains.ensures (ap not c.if-not-contains.true))

pub item-preserved-then-known : goal.item-preserved-then-known
item-preserved-then-known c =
    passed_known c.item.invariant c.item-test.true (level_monotone _ _ _ _ (level_monotone _ _ _ _ (level_monotone _ _ _ _ (minutes_monotone _)))) c.record_mask-at_item.ensures
    c.known.ensures c.if-known.true

pub origin-init : goal.origin-init
origin-init c = passed_none c.item.invariant.still

pub origin-preserved-then-not-has : goal.origin-preserved-then-not-has
origin-preserved-then-not-has c =
    passed_skip c.origin.invariant c.origin-test.true (failed c.has.ensures (ap not c.if-not-has.true))

pub origin-preserved-then-known-2 : goal.origin-preserved-then-known-2
origin-preserved-then-known-2 c =
    passed_known c.origin.invariant c.origin-test.true (level_monotone _ _ _ _ (level_monotone _ _ _ _ (minutes_monotone _))) refl
    c.known-in-origin.ensures c.if-known-2.true

pub purpose-init : goal.purpose-init
purpose-init c = passed_none c.origin.invariant.still

pub purpose-preserved-then-not-has-2 : goal.purpose-preserved-then-not-has-2
purpose-preserved-then-not-has-2 c =
    passed_skip c.purpose.invariant c.purpose-test.true (failed c.has-in-purpose.ensures (ap not c.if-not-has-2.true))

pub purpose-preserved-then-known-3 : goal.purpose-preserved-then-known-3
purpose-preserved-then-known-3 c =
    passed_known c.purpose.invariant c.purpose-test.true (level_monotone _ _ _ _ (minutes_monotone _)) refl
    c.known-in-purpose.ensures c.if-known-3.true

pub role-init : goal.role-init
role-init c = passed_none c.purpose.invariant.still

pub role-preserved-then-not-has-3 : goal.role-preserved-then-not-has-3
role-preserved-then-not-has-3 c =
    passed_skip c.role.invariant c.role-test.true (failed c.has-in-role.ensures (ap not c.if-not-has-3.true))

pub role-preserved-then-known-4 : goal.role-preserved-then-known-4
role-preserved-then-known-4 c =
    passed_known c.role.invariant c.role-test.true (minutes_monotone _) refl
    c.known-in-role.ensures c.if-known-4.true

pub minute-init : goal.minute-init
minute-init c = minutes_none c.role.invariant.still

pub minute-preserved : goal.minute-preserved
minute-preserved c =
    let same = c.as_slice-minutes.ensures in
    minutes_more c.minute.invariant (rw (ap length same) at c.minute-test.true)
    (λ e. c.if-at_role-mask-eq0.false (rw same e))

pub role-preserved : goal.role-preserved
role-preserved c =
    passed_more c.role.invariant c.role-test.true c.minute.invariant.still refl
    (minutes_all c.minute.invariant (rw (ap length c.as_slice-minutes.ensures) at c.minute-test.false))

pub purpose-preserved : goal.purpose-preserved
purpose-preserved c =
    passed_more c.purpose.invariant c.purpose-test.true c.role.invariant.still refl (level_all _ _ _ _ _ c.role.invariant c.role-test.false)

pub origin-preserved : goal.origin-preserved
origin-preserved c =
    passed_more c.origin.invariant c.origin-test.true c.purpose.invariant.still refl (level_all _ _ _ _ _ c.purpose.invariant c.purpose-test.false)

pub item-preserved : goal.item-preserved
item-preserved c =
    passed_more c.item.invariant c.item-test.true c.origin.invariant.still c.record_mask-at_item.ensures (level_all _ _ _ _ _ c.origin.invariant c.origin-test.false)

pub returns-after-item : goal.returns-after-item
unfolding all_covered
returns-after-item c = c.item.invariant.still ∙ sym (passed_all c.item.invariant c.item-test.false)

pub returns-then-at_role-mask-eq0 : goal.returns-then-at_role-mask-eq0
unfolding all_covered
returns-then-at_role-mask-eq0 c =
    let same = c.as_slice-minutes.ensures in
    sym
    (passed_not c.item.invariant c.item-test.true
    (passed c.contains.ensures (ap not c.if-not-contains.false))
    c.record_mask-at_item.ensures
    (level_not _ _ _ _ _ c.origin.invariant c.origin-test.true (passed c.has.ensures (ap not c.if-not-has.false))
    (level_not _ _ _ _ _ c.purpose.invariant c.purpose-test.true (passed c.has-in-purpose.ensures (ap not c.if-not-has-2.false))
    (level_not _ _ _ _ _ c.role.invariant c.role-test.true (passed c.has-in-role.ensures (ap not c.if-not-has-3.false))
    (minutes_not _ _ (rw (ap length same) at c.minute-test.true) (rw same at c.if-at_role-mask-eq0.true))))))
