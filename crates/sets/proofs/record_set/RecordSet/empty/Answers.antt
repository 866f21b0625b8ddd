-- `RecordSet::empty`: 0 has no bit, so neither word has a number in it.
use Rattle.sets.proofs.WordLaws.{contains_none}
use Rattle.sets.proofs.record_set.RecordSet.empty.Goals as goal

pub returns : goal.returns
returns c = contains_none
