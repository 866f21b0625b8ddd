-- How many directives can be active: "Are fewer than 32 active?"
use Rattle.std.specs.Prelude.{ℕ}

abbrev pub active_places : ℕ
active_places = 32
