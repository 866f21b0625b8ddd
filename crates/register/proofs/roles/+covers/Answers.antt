-- `roles::covers` goes one step up by a call of itself, whose role has a lower number.
use Prim.Native.Nat.{ℕ, zero, suc, ◌≤◌}
use mathlib.Core.Path.{◌≡◌, sym, ◌∙◌}
use mathlib.Core.Bool.{◌&&◌, or-false}
use mathlib.Core.List.{List}
use native.Mathlib.Omega.{arith}
use borrow.Author.Rules.{rules}
use borrow.Author.Tests.{eq-eqb, ne_eqb, lt-ltb, le-ltb}
use lib.ListN.{length, get_or, get_or-eq_default}
use lib.Dec.{eqb, ltb}
use Rattle.register.specs.Tree.{parent_of, above_by}
use Rattle.register.specs.Roles.{covers}
use Rattle.register.proofs.TreeLaws.{above_step}
use Rattle.register.proofs.roles.+covers.Goals as goal

-- number 0 is above all others
from_top : (q r : ℕ) → (r ≡ q → ⊥) → ltb 0 q && eqb r 0 ≡ eqb r 0
from_top zero r d = sym (ne_eqb r 0 d)
from_top (suc q) r d = rw (lt-ltb 0 (suc q) (omega arith))

module _ (ps : List ℕ) (r q : ℕ) (d : r ≡ q → ⊥) where
  -- one step of the way to role 0
  step : covers ps r q ≡ ltb (parent_of ps q) q && covers ps r (parent_of ps q)
  unfolding covers
  step = rw (ne_eqb r q d) (above_step ps r q)

  -- past the end of the list 0 stands for the parent
  covers_past : length ps ≤ q → covers ps r q ≡ eqb r 0
  unfolding covers above_by
  covers_past h = step ∙ rw (get_or-eq_default ps 0 {n = q} h, or-false (eqb r 0)) (from_top q r d)

pub returns-then-r-q : goal.returns-then-r-q
unfolding covers
returns-then-r-q t c = rw (eq-eqb _ _ c.if-r-q.true)

pub returns-in_default : goal.returns-in_default
returns-in_default t c =
    let past : length c.args.parents.now ≤ c.args.q = search rules in
    sym (covers_past c.args.parents.now c.args.r c.args.q c.if-r-q.false past)

pub returns-then-p-q : goal.returns-then-p-q
returns-then-p-q t c =
    let ps = c.args.parents.now in
    let up : c.from-p.result ≡ get_or ps c.args.q 0 = search rules in
    c.covers.ensures ∙ sym (step ps c.args.r c.args.q c.if-r-q.false ∙ rw (← up, lt-ltb _ _ c.if-p-q.true))

pub returns-else-p-q : goal.returns-else-p-q
returns-else-p-q t c =
    let ps = c.args.parents.now in
    let up : c.from-p.result ≡ get_or ps c.args.q 0 = search rules in
    sym (step ps c.args.r c.args.q c.if-r-q.false ∙ rw (← up, le-ltb _ _ c.if-p-q.false))
