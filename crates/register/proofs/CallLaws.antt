-- What the test of a call's result says of what the call ensures.
use mathlib.Core.Path.{◌≡◌, sym, ◌∙◌}
use mathlib.Core.Bool.{Bool, true, false, not}
use borrow.Author.Tests.{not-true, not-false}

module _ {r b : Bool} (e : r ≡ b) where
  pub failed : not r ≡ true → b ≡ false
  failed f = sym e ∙ not-true r f

  pub passed : not r ≡ false → b ≡ true
  passed f = sym e ∙ not-false r f
