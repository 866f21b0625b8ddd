-- A tree by parents: number 0 is the top, and every other number has a parent of lower number. Roles and records stand in
-- such a tree. Number 0 has no parent, although 0 stands in its place; a number that is not lower is no parent either.
use Rattle.std.specs.Prelude.{ℕ, zero, suc, Bool, false, ◌&&◌, ◌||◌, List, length, slice_index_or, nat_eq, nat_lt}
use Rattle.sets.specs.Quantifiers.{all_below}

-- what stands in the place for q's parent
abbrev pub parent_of : List ℕ → ℕ → ℕ
parent_of ps q = slice_index_or ps q 0

-- "the top" has 0 in that place, and "every other .. has a parent of lower number"
abbrev pub parent_fits : ℕ → ℕ → Bool
parent_fits zero p = nat_eq p 0
parent_fits (suc q) p = nat_lt p (suc q)

-- the places of all parents keep that
unfoldable pub is_tree : List ℕ → Bool
is_tree ps = all_below (length ps) (λ q. parent_fits q (parent_of ps q))

-- r is q's parent
abbrev pub is_parent : List ℕ → ℕ → ℕ → Bool
is_parent ps r q = nat_lt (parent_of ps q) q && nat_eq r (parent_of ps q)

-- r stands above q on the way to number 0, by at most so many steps
unfoldable pub above_by : ℕ → List ℕ → ℕ → ℕ → Bool
above_by zero ps r q = false
above_by (suc n) ps r q = nat_lt (parent_of ps q) q && (nat_eq r (parent_of ps q) || above_by n ps r (parent_of ps q))

-- r stands above q on the way to number 0: q steps reach it, since the number falls with each
abbrev pub is_above : List ℕ → ℕ → ℕ → Bool
is_above ps r q = above_by q ps r q
