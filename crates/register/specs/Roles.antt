-- Roles. "Role r covers role q when r is q or stands above q on the way to role 0." r and q are
-- roles that there are.
use Rattle.std.specs.Prelude.{ℕ, Bool, ◌||◌, List, length, nat_eq, nat_lt}
use Rattle.register.specs.Tree.{is_above}

-- the register has a role of number r
abbrev pub has_role : List ℕ → ℕ → Bool
has_role roles r = nat_lt r (length roles)

unfoldable pub covers : List ℕ → ℕ → ℕ → Bool
covers roles r q = nat_eq r q || is_above roles r q
