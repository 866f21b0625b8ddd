-- No promise of a call rests on these definitions: they say how the search for an uncovered request computes, and whoever reads
-- the promises can skip them. The tables of the search have for each value of a dimension the mask of the active directives that
-- match it, bit i for directive i.
use Rattle.std.specs.Prelude.{ℕ, Bool, ◌&&◌, not, List, ◌∷◌, map, take, length, slice_index_or, nat_eq}
use Rattle.std.specs.Bool.{beq}
use Rattle.std.specs.Int.Bits.{bit_and}
use Rattle.sets.specs.Quantifiers.{all_of, all_in}
use Rattle.sets.specs.Bits.{bit, set_of}
use Rattle.sets.specs.RecordSets.{contains}
use Rattle.register.specs.Register.{record_places}
use Rattle.directive.specs.Matching.{in_minutes}
use Rattle.active.specs.declared.Active.{Active}
use Rattle.active.specs.Active.{no_active}
use Rattle.validation_redundancy.specs.declared.tables.Tables.{Tables}
use Rattle.validation_redundancy.specs.declared.tables.Minutes.{Minutes}

-- the entries that pass the test, bit i for entry i
abbrev pub mask_where : (Active → Bool) → List Active → ℕ
mask_where p l = set_of (length l) (λ i. p (slice_index_or l i no_active))

-- those that match at minute m
abbrev pub minute_mask : List Active → ℕ → ℕ
minute_mask l m = mask_where (λ a. in_minutes a.directive.from a.directive.until m) l

-- those of the effect that select the record
abbrev pub record_mask : List Active → Bool → ℕ → ℕ
record_mask l permit x = mask_where (λ a. beq permit a.directive.permit && contains a.selected x) l

-- the minutes looked at: `first`, and those at which an entry's directive ends
abbrev pub boundaries_of : ℕ → List Active → List ℕ
boundaries_of first l = first ∷ map (λ a. a.directive.until) l

-- the masks that count
abbrev pub masks_of : Minutes → List ℕ
masks_of t = take t.count t.masks

-- The levels of the search, from the innermost: with the directives of the mask so far, no value of the dimensions that are
-- left is without a directive in common.
unfoldable pub minutes_covered : List ℕ → ℕ → Bool
minutes_covered masks e = all_in (λ m. not (nat_eq (bit_and e m) 0)) masks

-- one level: a dimension of n values, those of the set looked at, and the masks of its values
unfoldable pub level_covered : ℕ → ℕ → List ℕ → (ℕ → Bool) → ℕ → Bool
level_covered n set masks inner e = all_of n (λ k. bit k set) (λ k. inner (bit_and e (slice_index_or masks k 0)))

-- the levels of roles, purposes and origins
abbrev pub roles_covered : Tables → ℕ → Bool
roles_covered t = level_covered 16 t.roles t.by_role (minutes_covered (masks_of t.minutes))

abbrev pub purposes_covered : Active → Tables → ℕ → Bool
purposes_covered a t = level_covered 11 a.directive.purposes t.by_purpose (roles_covered t)

abbrev pub origins_covered : Active → Tables → ℕ → Bool
origins_covered a t = level_covered 16 a.directive.subject_origins t.by_origin (purposes_covered a t)

-- of the draft a, beside the entries l
unfoldable pub all_covered : Active → List Active → Tables → Bool
all_covered a l t = all_of record_places (contains a.selected) (λ x. origins_covered a t (record_mask l a.directive.permit x))
