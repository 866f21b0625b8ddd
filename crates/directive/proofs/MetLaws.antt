-- The lowest of those directives of a list that pass a test, met one after the other.
use Prim.Native.Nat.{ℕ, ◌+◌, ◌<◌, ◌≤◌}
use mathlib.Core.Path.{◌≡◌, refl, sym, ap, ◌∙◌}
use mathlib.Core.Bool.{Bool, true, false}
use mathlib.Core.List.{List, [], ◌∷◌, ◌++◌, map}
use native.Mathlib.Omega.{arith}
use lib.ListN.{length, length-map, take, get_or}
use lib.Seq.{take_all}
use Rattle.std.specs.Prelude.{Option, Some, None}
use Rattle.std.specs.Bool.{then_some}
use Rattle.sets.specs.Quantifiers.{pick, keep}
use Rattle.sets.proofs.Keep.{keep_next}
use Rattle.sets.proofs.Lists.{map_at}
use Rattle.directive.specs.declared.Directive.{Directive}
use Rattle.directive.specs.declared.lowest.Best.{Best}
use Rattle.directive.specs.Lowest.{best_in, best_of}

-- what is known before turn i
pub record Met (p : Directive → Bool) (ds : List Directive) (best : Option Best) (i : ℕ) : Type 0 where
  pub turns : i ≤ length ds
  pub lowest : best ≡ best_of (keep p (take i ds))

module _ {p : Directive → Bool} {ds : List Directive} {best : Option Best} where
  pub met_none : best ≡ best_of [] → Met p ds best 0
  unfolding keep
  met_none e = record { turns = omega arith; lowest = e }

  pub met_all : {i : ℕ} → Met p ds best i → length ds ≤ i → best ≡ best_of (keep p ds)
  met_all {i} met h = met.lowest ∙ rw (take_all i ds h)

-- what `then_some` tells of its test: there is a value where it passed, and none where it failed
some_passes : {A : Type 0} (b : Bool) (x y : A) → Some y ≡ then_some b x → (b ≡ true) × (y ≡ x)
some_passes true x y e = (refl, cc)
some_passes false x y e = cc

none_fails : {A : Type 0} (b : Bool) (x : A) → None ≡ then_some b x → b ≡ false
none_fails true x e = cc
none_fails false x e = refl

-- x is item i of xs
module _
    {T : Type 0} (d : T → Directive) (p : Directive → Bool) (xs : List T) {best : Option Best} {i : ℕ}
    (met : Met p (map d xs) best i) {x : T} (here : i < length xs) (is : x ≡ get_or xs i x)
  where
    turn :
        (b : Bool) {r : Option Best} → p (d x) ≡ b →
        ((es : List Directive) → best ≡ best_of es → r ≡ best_of (pick b (es ++ (d x ∷ [])) es)) → Met p (map d xs) r (i + 1)
    turn b tells lower =
        let within : i < length (map d xs) = rw length-map here in
        let at : get_or (map d xs) i (d x) ≡ d x = map_at d xs i x (d x) here ∙ ap d (sym is) in
        record {
          turns = omega arith;
          lowest = lower (keep p (take i (map d xs))) met.lowest ∙ rw (keep_next p (map d xs) i (d x) within, at, tells);
        }

    pub met_next :
        {b : Best} {r : Option Best} → Some b ≡ then_some (p (d x)) (best_in (d x)) →
        ((es : List Directive) (e : Directive) → best ≡ best_of es → b ≡ best_in e → r ≡ best_of (es ++ (e ∷ []))) →
        Met p (map d xs) r (i + 1)
    met_next {b} passes lower =
        let (passed, same) = some_passes (p (d x)) (best_in (d x)) b passes in
        turn true passed (λ es e. lower es (d x) e same)

    pub met_other : None ≡ then_some (p (d x)) (best_in (d x)) → Met p (map d xs) best (i + 1)
    met_other fails = turn false (none_fails (p (d x)) (best_in (d x)) fails) (λ es e. e)
