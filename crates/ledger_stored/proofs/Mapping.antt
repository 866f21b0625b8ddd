-- An array that `map` makes of another, with a function that gives f of each element.
use Prim.Native.Nat.{ℕ, suc, ◌<◌}
use mathlib.Core.Path.{◌≡◌, refl, sym, ap₂, ◌∙◌}
use mathlib.Core.List.{List, [], ◌∷◌, map}
use native.Mathlib.Omega.{arith}
use denote.Param.Members.{Mut}
use lib.ListN.{length, get_or}
use Rattle.std.specs.Fn.{Called}
use Rattle.std.specs.Array.{IsMapOf}

module _ {A B : Type 0} (f : A → B) where
  mapped_each :
      (xs : List A) (ys : List B) → length ys ≡ length xs →
      ((i : ℕ) (d : A) (e : B) → i < length xs → get_or ys i e ≡ f (get_or xs i d)) → ys ≡ map f xs
  mapped_each [] [] long at = refl
  mapped_each [] (y ∷ ys) long at = absurd (omega arith)
  mapped_each (x ∷ xs) [] long at = absurd (omega arith)
  mapped_each (x ∷ xs) (y ∷ ys) long at =
      ap₂ ◌∷◌ (at 0 x y (omega arith))
      (mapped_each xs ys (omega arith) (λ i d e h. at (suc i) d e (omega arith)))

  pub mapped :
      {F : Type 0} (g : Mut F (A × Unit {0}) B) {p : F} {xs : List A} {ys : List B} {n : ℕ} →
      ((q : F) (x : A) (y : B) (r : F) → Called g q (x, tt) y r → y ≡ f x) → length xs ≡ n → IsMapOf g p xs ys n →
      ys ≡ map f xs
  mapped g {p} {xs} {ys} gives long made =
      mapped_each xs ys (made.long ∙ sym long)
      (λ i d e h. let called = made.at i d e (omega arith) in gives called.0 _ _ called.1 called.2)
