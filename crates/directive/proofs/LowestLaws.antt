-- The lowest of a list with one directive more at its end, and the lowest of what a test keeps.
use mathlib.Core.Path.{◌≡◌, refl, sym}
use mathlib.Core.Bool.{Bool, true, false}
use mathlib.Core.Logic.{⊎_elim}
use mathlib.Core.List.{List, [], ◌∷◌, ◌++◌}
use lib.Dec.{ltb}
use Rattle.std.specs.Prelude.{Some, None}
use Rattle.std.specs.Option.{is_some}
use Rattle.sets.specs.Quantifiers.{pick, some_in, keep}
use Rattle.sets.proofs.Quantifiers.{either_way}
use Rattle.directive.specs.declared.Directive.{Directive}
use Rattle.directive.specs.declared.lowest.Best.{Best}
use Rattle.directive.specs.Lowest.{lowest, lowest_number, best_in, best_of}

pub lowest_snoc :
    (x : Directive) (xs : List Directive) (d : Directive) →
    lowest x (xs ++ (d ∷ [])) ≡ pick (ltb d.number (lowest x xs).number) d (lowest x xs)
unfolding lowest
lowest_snoc x [] d = refl
lowest_snoc x (e ∷ es) d = lowest_snoc (pick (ltb e.number x.number) e x) es d

-- the directive of lowest number of a list with d at its end, in the list's effect and number
best_snoc :
    (x : Directive) (xs : List Directive) (d : Directive) →
    best_of ((x ∷ xs) ++ (d ∷ [])) ≡
    Some (pick (ltb d.number (lowest x xs).number) (best_in d) (best_in (lowest x xs)))
best_snoc x xs d =
    rw (lowest_snoc x xs d)
    (⊎_elim
    (λ (e : ltb d.number (lowest x xs).number ≡ true). rw e)
    (λ (e : ltb d.number (lowest x xs).number ≡ false). rw e)
    (either_way (ltb d.number (lowest x xs).number)))

-- the first one is taken, and so is one of lower number; another changes nothing
pub best_first :
    (ds : List Directive) (d : Directive) (n : Best) → best_of ds ≡ None → n ≡ best_in d →
    best_of (ds ++ (d ∷ [])) ≡ Some n
unfolding lowest
best_first [] d n e is = rw is
best_first (x ∷ xs) d n e is = cc

pub best_next :
    (ds : List Directive) (d : Directive) (n b : Best) → best_of ds ≡ Some b → n ≡ best_in d →
    best_of (ds ++ (d ∷ [])) ≡ Some (pick (ltb n.number b.number) n b)
best_next [] d n b e is = cc
best_next (x ∷ xs) d n b e is = let g : best_in (lowest x xs) ≡ b = cc in rw (is, sym g) (best_snoc x xs d)

-- a test keeps a directive where some directive passes it
pub best_found : (p : Directive → Bool) (ds : List Directive) → is_some (best_of (keep p ds)) ≡ some_in p ds
unfolding some_in keep
best_found p [] = refl
best_found p (d ∷ ds) =
    ⊎_elim
    (λ (e : p d ≡ true). rw e)
    (λ (e : p d ≡ false). rw e (best_found p ds))
    (either_way (p d))

pub best_number : (ds : List Directive) (b : Best) → best_of ds ≡ Some b → lowest_number ds ≡ b.number ∷ []
best_number [] b e = cc
best_number (d ∷ ds) b e = let g : best_in (lowest d ds) ≡ b = cc in rw (sym g) refl
