-- What a search of an active list over the records rs is given: no more records than there are places, and each directive with what it
-- selects. No promise of a call rests on it.
use Rattle.std.specs.Prelude.{◌≤◌, ◌≡◌, List, length}
use Rattle.register.specs.declared.Record.{Record}
use Rattle.register.specs.Register.{record_places}
use Rattle.active.specs.declared.Active.{Active}
use Rattle.active.specs.declared.ActiveList.{ActiveList}
use Rattle.active.specs.Active.{active_in, ActiveInvariant}

pub record Given (rs : List Record) (a : Active) (l : ActiveList) : Type 0 where
  pub few : length rs ≤ record_places
  pub own : a ≡ active_in rs a.directive
  pub others : ActiveInvariant rs l
