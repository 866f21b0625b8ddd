-- What the search asks of a list of directives. No promise of a call rests on it.
use mathlib.Core.List.{List, Memᴰ}
use Rattle.register.specs.Register.{Contents}
use Rattle.directive.specs.declared.Directive.{Directive}
use Rattle.validation_meaning.specs.Search.{Fit}

abbrev pub AllFit : Contents → List Directive → Type 0
AllFit c es = (e : Directive) → Memᴰ e es → Fit c e
