-- Laws of what is found in a list of tokens.
use Prim.Native.Nat.{ℕ}
use mathlib.Core.Path.{◌≡◌, refl}
use mathlib.Core.Bool.{Bool, true, false, ◌||◌}
use mathlib.Core.Logic.{⊎_elim}
use mathlib.Core.List.{List, [], ◌∷◌}
use denote.Bor.{Bor}
use Rattle.std.specs.Prelude.{Option, None, Some}
use Rattle.std.specs.List.{list_any, find}
use Rattle.std.specs.Option.{MatchOption, IsSomeAnd, option_map}
use Rattle.std.proofs.lemmas.List.Recursion.{same_from_clauses}
use Rattle.sets.specs.Quantifiers.{some_in, keep}
use Rattle.sets.proofs.Quantifiers.{either_way}
use Rattle.emergency.specs.declared.Token.{Token}
use Rattle.emergency.specs.Tokens.{states_of}

module _ (p : Token → Bool) where
  pub any_token : (l : List Token) → list_any p l ≡ some_in p l
  unfolding some_in
  any_token = same_from_clauses (list_any p) (some_in p) (λ k b. p k || b) refl (λ _ _. refl) (λ _ _. refl)

  pub first_kept : (l : List Token) → option_map (λ k. k.states) (find p l) ≡ states_of (keep p l)
  unfolding keep
  first_kept [] = refl
  first_kept (k ∷ l) =
      ⊎_elim
      (λ (e : p k ≡ true). rw e)
      (λ (e : p k ≡ false). rw e (first_kept l))
      (either_way (p k))

-- what a call that reads the states gives of the token that was found
pub states_read :
    {P : Bor Token → ℕ → Type 0} (o : Option (Bor Token)) (r : Option ℕ) →
    ((k : Bor Token) (v : ℕ) → P k v → v ≡ k.now.states) →
    MatchOption o (r ≡ None) (λ k. IsSomeAnd r (P k)) →
    r ≡ option_map (λ k. k.states) (option_map (λ k. k.now) o)
states_read None r f h = h
states_read (Some k) None f h = elim h [ ]
states_read (Some k) (Some v) f h = rw (f k v h)
