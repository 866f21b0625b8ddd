-- The first uncovered minute of a span is the span's start, or one at which something ends.
use Prim.Native.Nat.{ℕ, zero, suc, ◌<◌, ◌≤◌}
use mathlib.Core.Path.{◌≡◌}
use mathlib.Core.Bool.{Bool, true}
use mathlib.Core.List.Memᴰ
use mathlib.Core.List.{List, ◌∷◌, map, Memᴰ}
use native.Mathlib.Omega.{arith}
use native.Mathlib.Decide.{ℕ_discrete}
use Rattle.sets.specs.Quantifiers.{some_in}
use Rattle.sets.proofs.Quantifiers.{some_list}

-- `c a m`: a covers minute m. What a covers at a minute it covers at the next, unless that is its end.
module _
    {A : Type 0} (c : A → ℕ → Bool) (end : A → ℕ)
    (goes_on : (a : A) (m : ℕ) → c a m ≡ true → (suc m ≡ end a → ⊥) → c a (suc m) ≡ true)
    (l : List A) (start stop : ℕ)
    (tried : (m : ℕ) → Memᴰ m (start ∷ map end l) → start ≤ m → m < stop → some_in (λ a. c a m) l ≡ true)
  where
    pub covered_between : (m : ℕ) → start ≤ m → m < stop → some_in (λ a. c a m) l ≡ true
    covered_between zero h k = tried zero (Memᴰ.head (omega arith)) h k
    covered_between (suc m) h k =
        elim (ℕ_discrete (suc m) start) [
          | yes e ↦ tried (suc m) (Memᴰ.head e) h k
          | no n ↦
              let (a, i, e) = (some_list l).read (λ a. c a m) (covered_between m (omega arith) (omega arith)) in
              elim (ℕ_discrete (suc m) (end a)) [
                | yes q ↦ tried (suc m) (Memᴰ.tail (rw q (Memᴰ.map end i))) h k
                | no d ↦ (some_list l).make (λ a. c a (suc m)) a i (goes_on a m e d)
              ]
        ]
