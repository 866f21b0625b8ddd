-- Conflict, baseline and redundancy together.
use Rattle.std.specs.Prelude.{ℕ, Bool, List}
use Rattle.register.specs.Register.{Contents}
use Rattle.directive.specs.declared.Directive.{Directive}
use Rattle.validation_meaning.specs.Meaning.{conflict, breaks_baseline, redundant}

pub record Judgement : Type 0 where
  -- register, clock, two directives
  pub conflicts : Contents → ℕ → Directive → Directive → Bool
  -- register, patient, clock, a directive
  pub breaks : Contents → ℕ → ℕ → Directive → Bool
  -- register, clock, a directive, the active ones
  pub repeats : Contents → ℕ → Directive → List Directive → Bool

-- as document 01 means them, over all requests
abbrev pub meant : Judgement
meant = record { conflicts = conflict; breaks = breaks_baseline; repeats = redundant }
