-- Laws of a tree by parents. What stands above a number is lower, number 0 stands above all others, and who stands above is
-- known one step at a time.
use Prim.Native.Nat.{ℕ, zero, suc, ◌<◌, ◌≤◌}
use mathlib.Core.Path.{◌≡◌, refl, ◌∙◌}
use mathlib.Core.Bool.{true, false, ◌&&◌, ◌||◌}
use mathlib.Core.Logic.{⊎_elim}
use mathlib.Core.List.{List}
use native.Mathlib.Omega.{arith}
use native.Mathlib.Decide.{ℕ_discrete}
use borrow.Author.Tests.{eqb-true, eq-eqb, ltb-true, lt-ltb, le-ltb}
use lib.ListN.{length}
use lib.Dec.{eqb, ltb}
use Rattle.sets.proofs.Quantifiers.{never_true, both_ways, and_both, and_where, or_cases, or_right, every_below}
use Rattle.register.specs.Tree.{parent_of, is_tree, is_parent, above_by, is_above}
use Rattle.register.specs.Roles.{covers}

module _ (ps : List ℕ) where
  -- what stands above, by however many steps, is lower
  lower_by : (n r q : ℕ) → above_by n ps r q ≡ true → r < q
  unfolding above_by
  lower_by zero r q e = both_ways e refl
  lower_by (suc n) r q e =
      let p = parent_of ps q in
      let (falls, above) = and_both (ltb p q) _ e in
      let l = ltb-true p q falls in
      ⊎_elim
      (λ f. omega (arith, eqb-true r p f))
      (λ f. omega (arith, lower_by n r p f))
      (or_cases (eqb r p) _ above)

  pub above_lower : (r q : ℕ) → is_above ps r q ≡ true → r < q
  above_lower r q e = lower_by q r q e

  pub not_above_self : (q : ℕ) → is_above ps q q ≡ false
  not_above_self q = never_true (is_above ps q q) (λ e. omega (arith, above_lower q q e))

  -- any number of steps that is at least q gives the same
  enough : (n m r q : ℕ) → q ≤ n → q ≤ m → above_by n ps r q ≡ above_by m ps r q
  unfolding above_by
  enough zero zero r q h k = refl
  enough zero (suc m) r q h k = rw (le-ltb (parent_of ps q) q (omega arith))
  enough (suc n) zero r q h k = rw (le-ltb (parent_of ps q) q (omega arith))
  enough (suc n) (suc m) r q h k =
      let p = parent_of ps q in
      and_where (ltb p q) _ _
      (λ e. let l = ltb-true p q e in rw (enough n m r p (omega arith) (omega arith)))

  -- one step of the way to number 0
  pub above_step :
      (r q : ℕ) → is_above ps r q ≡ ltb (parent_of ps q) q && (eqb r (parent_of ps q) || is_above ps r (parent_of ps q))
  unfolding above_by
  above_step r q =
      let p = parent_of ps q in
      enough q (suc q) r q (omega arith) (omega arith)
      ∙ and_where (ltb p q) _ _
      (λ e. let l = ltb-true p q e in rw (enough q p r p (omega arith) (omega arith)))

  -- the parent stands above
  pub parent_above : (r q : ℕ) → is_parent ps r q ≡ true → is_above ps r q ≡ true
  parent_above r q e = let (falls, same) = and_both (ltb (parent_of ps q) q) _ e in rw (above_step r q, falls, same)

  pub covers_self : (r : ℕ) → covers ps r r ≡ true
  unfolding covers
  covers_self r = rw (eq-eqb r r refl)

  module _ (tree : is_tree ps ≡ true) where
    pub parent_lower : (q : ℕ) → 0 < q → q < length ps → parent_of ps q < q
    unfolding is_tree
    parent_lower zero h k = absurd (omega arith)
    parent_lower (suc q) h k = ltb-true _ (suc q) ((every_below (length ps)).read _ tree (suc q) k)

    top_by : (n q : ℕ) → q ≤ n → 0 < q → q < length ps → above_by n ps 0 q ≡ true
    unfolding above_by
    top_by zero q i h k = absurd (omega arith)
    top_by (suc n) q i h k =
        let p = parent_of ps q in
        let l = parent_lower q h k in
        rw (lt-ltb p q l)
        (elim (ℕ_discrete 0 p) [
          | yes e ↦ rw (eq-eqb 0 p e)
          | no d ↦ or_right (eqb 0 p) _ (top_by n p (omega arith) (omega arith) (omega arith))
        ])

    -- number 0 is the top
    pub top_above : (q : ℕ) → 0 < q → q < length ps → is_above ps 0 q ≡ true
    top_above q h k = top_by q q (omega arith) h k
