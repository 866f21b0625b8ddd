-- Laws of what covers what. Two that cover one number stand on one way to number 0, so that one of them covers the other.
use Prim.Native.Nat.{ℕ, zero, suc, ◌<◌, ◌≤◌}
use mathlib.Core.Path.{◌≡◌, sym, ◌∙◌}
use mathlib.Core.Bool.{true, ◌&&◌, ◌||◌}
use mathlib.Core.Logic.{◌⊎◌, inl, inr, ⊎_elim}
use mathlib.Core.List.{List}
use native.Mathlib.Omega.{arith}
use borrow.Author.Tests.{eqb-true, ltb-true, lt-ltb}
use lib.ListN.{length}
use lib.Dec.{eqb, ltb}
use Rattle.sets.specs.Quantifiers.{some_of}
use Rattle.sets.proofs.Quantifiers.{same_test, and_both, or_cases, or_right, some_of_lem}
use Rattle.register.specs.Tree.{parent_of}
use Rattle.register.specs.Roles.{covers}
use Rattle.register.proofs.TreeLaws.{above_lower, above_step, covers_self}

module _ (ps : List ℕ) where
  -- what covers q is q, or covers its parent
  covers_cases :
      (r q : ℕ) → covers ps r q ≡ true → (r ≡ q) ⊎ ((parent_of ps q < q) × (covers ps r (parent_of ps q) ≡ true))
  unfolding covers
  covers_cases r q e =
      ⊎_elim
      (λ f. inl (eqb-true r q f))
      (λ f. let (falls, up) = and_both (ltb (parent_of ps q) q) _ (sym (above_step ps r q) ∙ f) in inr (ltb-true _ q falls, up))
      (or_cases (eqb r q) _ e)

  covers_lower : (r q : ℕ) → covers ps r q ≡ true → r ≤ q
  unfolding covers
  covers_lower r q e =
      ⊎_elim
      (λ f. omega (arith, eqb-true r q f))
      (λ f. omega (arith, above_lower ps r q f))
      (or_cases (eqb r q) _ e)

  module _ (n k : ℕ) where
    abbrev OneCovers : Type 0
    OneCovers = (covers ps n k ≡ true) ⊎ (covers ps k n ≡ true)

    one_step :
        (q : ℕ) →
        (parent_of ps q < q → covers ps n (parent_of ps q) ≡ true → covers ps k (parent_of ps q) ≡ true → OneCovers) →
        covers ps n q ≡ true → covers ps k q ≡ true → OneCovers
    one_step q further e f =
        ⊎_elim
        (λ same. inr (rw same f))
        (λ up. ⊎_elim (λ same. inl (rw same e)) (λ also. further up.0 up.1 also.1) (covers_cases k q f))
        (covers_cases n q e)

    one_by : (m q : ℕ) → q ≤ m → covers ps n q ≡ true → covers ps k q ≡ true → OneCovers
    one_by zero q h = one_step q (λ l. absurd (omega arith))
    one_by (suc m) q h = one_step q (λ l. one_by m (parent_of ps q) (omega arith))

    -- some number of the list is covered by both where one of the two is in it and the other covers it
    pub both_cover :
        some_of (length ps) (covers ps n) (covers ps k)
        ≡ (ltb k (length ps) && covers ps n k) || (ltb n (length ps) && covers ps k n)
    both_cover =
        same_test _ _
        (λ t.
        let (q, (l, e), f) = (some_of_lem (length ps) (covers ps n)).read (covers ps k) t in
        ⊎_elim
        (λ over. rw (lt-ltb k (length ps) (omega (arith, covers_lower k q f)), over))
        (λ over.
        or_right (ltb k (length ps) && covers ps n k) _ (rw (lt-ltb n (length ps) (omega (arith, covers_lower n q e)), over)))
        (one_by q q (omega arith) e f))
        (λ t.
        ⊎_elim
        (λ s.
        let (l, over) = and_both (ltb k (length ps)) _ s in
        (some_of_lem (length ps) (covers ps n)).make (covers ps k) k (ltb-true k _ l, over) (covers_self ps k))
        (λ s.
        let (l, over) = and_both (ltb n (length ps)) _ s in
        (some_of_lem (length ps) (covers ps n)).make (covers ps k) n (ltb-true n _ l, covers_self ps n) over)
        (or_cases (ltb k (length ps) && covers ps n k) _ t))
