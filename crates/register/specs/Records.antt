-- Records: the record of a number, children and descendants, and the reaches.
use native.Mathlib.Omega.{arith}
use Rattle.std.specs.Prelude.{ℕ, zero, suc, Bool, true, false, ◌&&◌, ◌||◌, List, map, length, slice_index_or, nat_eq, nat_lt}
use Rattle.register.specs.declared.Record.{Record}
use Rattle.register.specs.declared.records.Reach.{Reach}
use Rattle.register.specs.declared.records.Reach.TheVariants.{Itself, Children, Descendants, Folder, Nothing}
use Rattle.register.specs.Register.{no_record}
use Rattle.register.specs.Tree.{is_parent, is_above}

abbrev pub record_at : List Record → ℕ → Record
record_at rs x = slice_index_or rs x no_record

-- the register has a record of number x
abbrev pub has_record : List Record → ℕ → Bool
has_record rs x = nat_lt x (length rs)

abbrev pub parents : List Record → List ℕ
parents rs = map (λ r. r.parent) rs

-- record x is a child of record r; the root is no child
abbrev pub child : List Record → ℕ → ℕ → Bool
child rs r x = is_parent (parents rs) r x

-- record x is a descendant of record r
abbrev pub descendant : List Record → ℕ → ℕ → Bool
descendant rs r x = is_above (parents rs) r x

-- "Reach 0 is the record itself, 1 its children, 2 all its descendants without itself"; document 02, #102: "Reach 3 is the record
-- with all its descendants."
abbrev pub reach_number : Reach → ℕ
reach_number Itself = 0
reach_number Children = 1
reach_number Descendants = 2
reach_number Folder = 3
reach_number (Nothing p) = p.number

abbrev pub last_reach : ℕ
last_reach = 3

-- the reach of a number; one past the last takes nothing, and is kept
abbrev pub reach_of : ℕ → Reach
reach_of zero = Itself
reach_of (suc zero) = Children
reach_of (suc (suc zero)) = Descendants
reach_of (suc (suc (suc zero))) = Folder
reach_of (suc (suc (suc (suc n)))) = Nothing (record { number = suc (suc (suc (suc n))); past = omega arith })

-- Which of a record itself, its children and all its descendants a reach takes.
pub record Taken : Type 0 where
  pub itself : Bool
  pub children : Bool
  pub descendants : Bool

abbrev pub taken_by : Reach → Taken
taken_by Itself = record { itself = true; children = false; descendants = false }
taken_by Children = record { itself = false; children = true; descendants = false }
taken_by Descendants = record { itself = false; children = false; descendants = true }
taken_by Folder = record { itself = true; children = false; descendants = true }
taken_by (Nothing p) = record { itself = false; children = false; descendants = false }

-- whether a reach takes a record, given whether that is the record itself, a child, a descendant
abbrev pub reach_takes : Reach → Bool → Bool → Bool → Bool
reach_takes reach itself is_child is_descendant =
    (taken_by reach).itself && itself
    || (taken_by reach).children && is_child
    || (taken_by reach).descendants && is_descendant

-- record x is within this reach of record r
unfoldable pub reaches : List Record → Reach → ℕ → ℕ → Bool
reaches rs reach r x = reach_takes reach (nat_eq r x) (child rs r x) (descendant rs r x)
