-- What a reach takes, for every reach by its description.
use Prim.Native.Nat.{ℕ, zero, suc, ◌≤◌}
use mathlib.Core.Path.{◌≡◌, refl, sym, ap}
use mathlib.Core.Bool.{true, false, ◌&&◌, ◌||◌, and-true, and-false, or-false}
use mathlib.Core.List.{List}
use mathlib.Core.Logic.{⊎_elim}
use native.Mathlib.Omega.{arith}
use borrow.Author.Tests.{eq-eqb}
use Rattle.std.proofs.Math.Bridge.{le_prop}
use lib.Dec.{eqb}
use Rattle.sets.proofs.Quantifiers.{never_true, both_ways, and_right, or_cases, or_right}
use Rattle.register.specs.declared.Record.{Record}
use Rattle.register.specs.declared.records.Reach.{Reach}
use Rattle.register.specs.declared.records.Reach.TheVariants.{Itself, Children, Descendants, Folder, Nothing}
use Rattle.register.specs.Records.{parents, child, descendant, reach_of, reach_number, taken_by, reaches}
use Rattle.register.proofs.TreeLaws.{not_above_self, parent_above}

-- a number past the last is the reach that takes nothing and keeps it
pub reach_past : (n : ℕ) (h : 4 ≤ n) → Nothing (record { number = n; past = h }) ≡ reach_of n
reach_past zero h = absurd (omega (arith, h))
reach_past (suc zero) h = absurd (omega (arith, h))
reach_past (suc (suc zero)) h = absurd (omega (arith, h))
reach_past (suc (suc (suc zero))) h = absurd (omega (arith, h))
reach_past (suc (suc (suc (suc n)))) h =
    ap (λ (past : 4 ≤ suc (suc (suc (suc n)))). Nothing (record { number = suc (suc (suc (suc n))); past = past })) (le_prop h (omega arith))

-- a reach is that of its number
pub reach_read : (r : Reach) → reach_of (reach_number r) ≡ r
reach_read Itself = refl
reach_read Children = refl
reach_read Descendants = refl
reach_read Folder = refl
reach_read (Nothing p) = sym (reach_past p.number p.past)

module _ (rs : List Record) (r : ℕ) where
  -- no record is its own child: nor is the root, although 0 stands in the place for its parent
  no_child : child rs r r ≡ false
  no_child = never_true _ (λ e. both_ways (parent_above (parents rs) r r e) (not_above_self (parents rs) r))

  -- a reach takes the record itself exactly where its description says so
  pub reach_itself : (n : Reach) → reaches rs n r r ≡ (taken_by n).itself
  unfolding reaches
  reach_itself n =
      rw (
        eq-eqb r r refl,
        no_child,
        not_above_self (parents rs) r,
        and-true (taken_by n).itself,
        and-false (taken_by n).children,
        and-false (taken_by n).descendants,
        or-false (taken_by n).itself,
      )
      (or-false (taken_by n).itself)

  -- what is within any reach is within reach 3, the folder
  pub within_folder : (n : Reach) (x : ℕ) → reaches rs n r x ≡ true → reaches rs Folder r x ≡ true
  unfolding reaches
  within_folder n x e =
      let under : descendant rs r x ≡ true → reaches rs Folder r x ≡ true = or_right (eqb r x || false) _ in
      ⊎_elim
      (λ near.
      ⊎_elim
      (λ own. rw (and_right (taken_by n).itself (eqb r x) own))
      (λ next. under (parent_above (parents rs) r x (and_right (taken_by n).children _ next)))
      (or_cases ((taken_by n).itself && eqb r x) _ near))
      (λ far. under (and_right (taken_by n).descendants _ far))
      (or_cases ((taken_by n).itself && eqb r x || (taken_by n).children && child rs r x) _ e)

  -- "Reach 3 is the record with all its descendants": reaches 0 and 2 together
  pub folder : (x : ℕ) → reaches rs Folder r x ≡ reaches rs Itself r x || reaches rs Descendants r x
  unfolding reaches
  folder x = ap (◌|| descendant rs r x) (sym (or-false (eqb r x || false)))
