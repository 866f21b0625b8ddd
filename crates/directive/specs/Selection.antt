-- Which records a directive selects.
use Rattle.std.specs.Prelude.{ℕ, Bool, ◌&&◌, List}
use Rattle.sets.specs.Bits.{bit, subset}
use Rattle.register.specs.declared.Record.{Record}
use Rattle.register.specs.Records.{record_at, has_record, reaches}
use Rattle.directive.specs.declared.Directive.{Directive}

-- a record "whose origins all lie in po, whose sensitivities all lie in ps and whose type is in pt"
unfoldable pub passes_filters : Record → Directive → Bool
passes_filters r d =
    subset 16 r.origins d.origins
    && subset 16 r.sensitivities d.sensitivities
    && bit r.kind d.kinds

-- "It selects a record within its reach whose ..": x is the number of a record that there is.
unfoldable pub selects : List Record → Directive → ℕ → Bool
selects rs d x =
    has_record rs x && reaches rs d.reach d.«record» x && passes_filters (record_at rs x) d
