-- The active list of a ledger: its view as directives, and its invariant.
use Rattle.std.specs.Prelude.{◌≤◌, ◌≡◌, List, map, take, replicate}
use Rattle.sets.specs.RecordSets.{record_set_of}
use Rattle.register.specs.declared.Record.{Record}
use Rattle.directive.specs.declared.Directive.{Directive}
use Rattle.directive.specs.Nothing.{no_directive}
use Rattle.directive.specs.Places.{active_places}
use Rattle.directive.specs.Selection.{selects}
use Rattle.active.specs.declared.Active.{Active}
use Rattle.active.specs.declared.ActiveList.{ActiveList}

-- the entries that count
abbrev pub entries_of : ActiveList → List Active
entries_of l = take l.count l.entries

-- the view: the active directives in their order
abbrev pub directives_of : ActiveList → List Directive
directives_of l = map (λ a. a.directive) (entries_of l)

-- a directive with the set of those of the records that it selects
abbrev pub active_in : List Record → Directive → Active
active_in rs d = record { directive = d; selected = record_set_of (selects rs d) }

-- The invariant, over the records of the ledger's register: the count keeps within the places, and each set is what its
-- directive selects. What stands past the count is free.
pub record ActiveInvariant (rs : List Record) (l : ActiveList) : Type 0 where
  pub few : l.count ≤ active_places
  pub selections : entries_of l ≡ map (active_in rs) (directives_of l)

-- what stands where there is no directive
abbrev pub no_active : Active
no_active = record { directive = no_directive; selected = record { low = 0; high = 0 } }

unfoldable pub empty_list : ActiveList
empty_list = record { entries = replicate active_places no_active; count = 0 }
