use lib.ListN.{get_or}
use lib.Bits.{bit_and}
use Rattle.sets.specs.Bits.{bit}
use Rattle.sets.specs.RecordSets.{contains}
use Rattle.active.specs.Active.{entries_of}
use Rattle.validation_redundancy.specs.Masks.{record_mask, masks_of, minutes_covered, roles_covered, purposes_covered, origins_covered}
use Rattle.validation_redundancy.proofs.CoverLaws.{Passed, MinutesPassed}
use Rattle.validation_redundancy.proofs.search.all_covered.Given as goal

abbrev pub invariant-minute : goal.invariant-minute
invariant-minute l = MinutesPassed (masks_of l.tables.minutes) l.at_role l.covered l.mask-index

abbrev pub invariant-role : goal.invariant-role
invariant-role l =
    Passed 16 (λ k. bit k l.roles) (λ k. bit_and l.at_purpose (get_or l.tables.by_role k 0)) (minutes_covered (masks_of l.tables.minutes)) l.covered l.done_at_role l.r

abbrev pub invariant-purpose : goal.invariant-purpose
invariant-purpose l =
    Passed 11 (λ k. bit k l.purposes) (λ k. bit_and l.at_origin (get_or l.tables.by_purpose k 0)) (roles_covered l.tables) l.covered l.done_at_purpose l.u

abbrev pub invariant-origin : goal.invariant-origin
invariant-origin l =
    Passed 16 (λ k. bit k l.origins) (λ k. bit_and l.at_item (get_or l.tables.by_origin k 0)) (purposes_covered l.a l.tables) l.covered l.done_at_origin l.o

abbrev pub invariant-item : goal.invariant-item
invariant-item l =
    Passed 128 (contains l.records) (record_mask (entries_of l.list) l.permit) (origins_covered l.a l.tables) l.covered l.done_at_item l.x
