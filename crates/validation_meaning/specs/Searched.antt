-- Conflict, baseline and redundancy as the search finds them. No promise of a call rests on this: proofs/Exact.antt has that it
-- is what is meant, where the directives fit the register, it has a role, and fewer than 65,536 directives are active.
use Rattle.validation_meaning.specs.Judgement.{Judgement}
use Rattle.validation_meaning.specs.Search.{conflict_found, breaks_baseline_found, redundant_found}

abbrev pub searched : Judgement
searched = record { conflicts = conflict_found; breaks = breaks_baseline_found; repeats = redundant_found }
