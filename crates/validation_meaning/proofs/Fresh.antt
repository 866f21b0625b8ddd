-- A number below n that none of fewer than n things has.
use Prim.Native.Nat.{ℕ, zero, suc, ◌<◌}
use mathlib.Core.Path.{◌≡◌, ap}
use mathlib.Core.Bool.{Bool, not}
use mathlib.Core.Logic.{⊎_elim}
use mathlib.Core.List.{List, Memᴰ}
use native.Mathlib.Omega.{arith}
use borrow.Author.Tests.{eq-eqb, ne_eqb}
use lib.ListN.{length}
use lib.Dec.{eqb}
use Rattle.sets.specs.Quantifiers.{some_in, keep}
use Rattle.sets.proofs.Quantifiers.{either_way, both_ways, some_list}
use Rattle.sets.proofs.Keep.{keep_shorter, mem_keep}

-- If nothing has the number n, that is it; otherwise what has it is left out, and one below n serves.
module _ {A : Type 0} (f : A → ℕ) where
  pub fresh :
      (n : ℕ) (l : List A) → length l < n →
      (k : ℕ) × (k < n) × ((a : A) → Memᴰ a l → f a ≡ k → ⊥)
  fresh zero l h = absurd (omega arith)
  fresh (suc n) l h =
      let is_n : A → Bool = λ a. eqb (f a) n in
      let other : A → Bool = λ a. not (is_n a) in
      ⊎_elim
      (λ t.
      let (a, m, e) = (some_list l).read is_n t in
      let (k, small, free) = fresh n (keep other l) (omega (arith, keep_shorter other l a m (ap not e))) in
      (k, omega arith, λ b i g. free b (mem_keep other l b i (ap not (ne_eqb (f b) n (λ z. omega arith)))) g))
      (λ t. (n, omega arith, λ a m e. both_ways ((some_list l).make is_n a m (eq-eqb (f a) n e)) t))
      (either_way (some_in is_n l))
