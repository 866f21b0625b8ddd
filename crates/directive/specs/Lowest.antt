-- The directive of lowest number in a list.
use Rattle.std.specs.Prelude.{ℕ, List, [], ◌∷◌, Option, Some, None, nat_lt}
use Rattle.sets.specs.Quantifiers.{pick}
use Rattle.directive.specs.declared.Directive.{Directive}
use Rattle.directive.specs.declared.lowest.Best.{Best}

-- the directive of lowest number among d and these
unfoldable pub lowest : Directive → List Directive → Directive
lowest d [] = d
lowest d (e ∷ es) = lowest (pick (nat_lt e.number d.number) e d) es

-- the lowest number of a list of directives, if it has one
abbrev pub lowest_number : List Directive → List ℕ
lowest_number [] = []
lowest_number (d ∷ ds) = (lowest d ds).number ∷ []

-- the effect and the number of a directive
abbrev pub best_in : Directive → Best
best_in d = record { permit = d.permit; number = d.number }

-- the effect and the number of the lowest directive of a list, if it has one
abbrev pub best_of : List Directive → Option Best
best_of [] = None
best_of (d ∷ ds) = Some (record { permit = (lowest d ds).permit; number = (lowest d ds).number })
