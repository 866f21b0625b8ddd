-- What changes an active list: one entry more, and the walk that keeps those that pass a test. No promise of a call rests on these definitions.
use Rattle.std.specs.Prelude.{◌+◌, ◌≤◌, ◌≡◌, Bool, [], ◌∷◌, ◌++◌}
use Rattle.sets.specs.Quantifiers.{keep}
use Rattle.directive.specs.declared.Directive.{Directive}
use Rattle.directive.specs.Places.{active_places}
use Rattle.active.specs.declared.Active.{Active}
use Rattle.active.specs.declared.ActiveList.{ActiveList}
use Rattle.active.specs.Active.{entries_of}

-- one entry more, last
pub record Pushed (l : ActiveList) (a : Active) (r : ActiveList) : Type 0 where
  pub count : r.count ≡ l.count + 1
  pub entries : entries_of r ≡ entries_of l ++ (a ∷ [])

-- the list of those directives alone that pass p, in their order
pub record Keeps (p : Directive → Bool) (l r : ActiveList) : Type 0 where
  pub few : r.count ≤ active_places
  pub entries : entries_of r ≡ keep (λ a. p a.directive) (entries_of l)
