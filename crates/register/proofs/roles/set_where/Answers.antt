-- `roles::set_where` adds the roles in turn: after q turns the set has those below q. Past the last role there is none to add.
use Prim.Native.Nat.{ℕ, ◌+◌, ◌<◌, ◌≤◌}
use mathlib.Core.Path.{◌≡◌, sym, ◌∙◌}
use mathlib.Core.Bool.{Bool, ◌&&◌}
use native.Mathlib.Nat.{lt_of_lt_of_le}
use native.Mathlib.Omega.{arith}
use borrow.Author.Tests.{lt-ltb, le-ltb}
use lib.ListN.{length}
use lib.Dec.{ltb}
use lib.Pow.{pow_mono}
use Rattle.sets.proofs.SetLaws.{bit_more, built_none, built_with, built_without, built_cut}
use Rattle.register.proofs.roles.set_where.Goals.{then-test, else-test}
use Rattle.register.proofs.roles.set_where.Goals as goal

pub loop-q-init : goal.loop-q-init
loop-q-init g c = (omega arith, λ p f. built_none)

pub loop-q-preserved : goal.loop-q-preserved
loop-q-preserved g c =
    let q = c.loop-q.q in
    let few = length c.args.parents.now in
    let small = c.loop-q.invariant.0 in
    let here : q < few = omega arith in
    let under : q < 16 = omega arith in
    let whole : 16 ≤ 16 = omega arith in
    let grows : q ≤ q + 1 = omega arith in
    let said : (p : ℕ → Bool) (f : _) → ltb q few && p q ≡ c.test.result =
    λ p f. rw (lt-ltb q few here) (sym (f _ _ c.test.ensures)) in
    elim c.if-test.branch [
      | then-test w ↦ rw w.set-is (
        (bit_more 16 c.loop-q.set q small under).0,
        λ p f. built_with (c.loop-q.invariant.1 p f) 16 whole under (said p f ∙ w.if-test.true),
      )
      | else-test w ↦ rw w.set-is (
        lt_of_lt_of_le small (pow_mono {j = q + 1} grows),
        λ p f. built_without (c.loop-q.invariant.1 p f) under (said p f ∙ w.if-test.false),
      )
    ]

pub overflow_add-set : goal.overflow_add-set
overflow_add-set g c = record { fits = (bit_more 16 c.loop-q.set c.loop-q.q c.loop-q.invariant.0 (omega arith)).1 }

pub returns : goal.returns
returns g c p f =
    built_cut (c.loop-q.invariant.1 p f) (λ q h l. rw (le-ltb q (length c.args.parents.now) (omega arith)))
