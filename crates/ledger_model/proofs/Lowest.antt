-- The number that basis 3 and question 13 name is the lowest.
use Prim.Native.Nat.{◌≤◌}
use mathlib.Core.Path.{◌≡◌, refl, ap}
use mathlib.Core.Bool.{Bool, true, false}
use mathlib.Core.Logic.{⊎_elim}
use mathlib.Core.List.Memᴰ
use mathlib.Core.List.{List, [], ◌∷◌, ◌++◌, Memᴰ}
use native.Mathlib.Omega.{arith}
use borrow.Author.Tests.{ltb-true, ltb-false}
use lib.Dec.{ltb}
use Rattle.sets.specs.Quantifiers.{pick}
use Rattle.directive.specs.declared.Directive.{Directive}
use Rattle.directive.specs.Lowest.{lowest, lowest_number}

-- d is one of the list, and none has a lower number
pub record Lowest (ds : List Directive) (d : Directive) : Type 0 where
  pub among : Memᴰ d ds
  pub least : (e : Directive) → Memᴰ e ds → d.number ≤ e.number

lowest_one : (d : Directive) → Lowest (d ∷ []) d
lowest_one d =
    record {
      among = Memᴰ.head refl;
      least = λ e m. omega (arith, ap (λ a. a.number) (Memᴰ.eq_of_singleton m));
    }

-- what is lowest of others and of a list's lowest is lowest of all
lowest_more :
    {s t : List Directive} {x d : Directive} → Lowest s x → Lowest (x ∷ t) d → Lowest (s ++ t) d
lowest_more {s} {t} {x} h k =
    record {
      among =
          ⊎_elim
          (λ q. Memᴰ.cast q (Memᴰ.append_left t h.among))
          (Memᴰ.append_right s)
          (Memᴰ.cases_cons k.among);
      least = λ e m.
          ⊎_elim
          (λ i. omega (arith, k.least x (Memᴰ.head refl), h.least e i))
          (λ i. k.least e (Memᴰ.tail i))
          (Memᴰ.append_cases s m);
    }

below_two :
    (d e x : Directive) → x.number ≤ d.number → x.number ≤ e.number →
    (a : Directive) → Memᴰ a (d ∷ e ∷ []) → x.number ≤ a.number
below_two d e x h k a (Memᴰ.head q) = rw q h
below_two d e x h k a (Memᴰ.tail m) = rw (Memᴰ.eq_of_singleton m) k

lowest_two : (d e : Directive) (b : Bool) → ltb e.number d.number ≡ b → Lowest (d ∷ e ∷ []) (pick b e d)
lowest_two d e true t =
    let h = ltb-true e.number d.number t in
    record { among = Memᴰ.tail (Memᴰ.head refl); least = below_two d e e (omega arith) (omega arith) }
lowest_two d e false t =
    let h = ltb-false e.number d.number t in
    record { among = Memᴰ.head refl; least = below_two d e d (omega arith) h }

pub lowest_is : (d : Directive) (ds : List Directive) → Lowest (d ∷ ds) (lowest d ds)
unfolding lowest
lowest_is d [] = lowest_one d
lowest_is d (e ∷ ds) =
    lowest_more (lowest_two d e (ltb e.number d.number) refl) (lowest_is (pick (ltb e.number d.number) e d) ds)

pub lowest_named :
    (ds : List Directive) (e : Directive) → Memᴰ e ds →
    (d : Directive) × Lowest ds d × (lowest_number ds ≡ d.number ∷ [])
lowest_named [] e m = elim m [ ]
lowest_named (d ∷ ds) e m = (lowest d ds, lowest_is d ds, refl)
