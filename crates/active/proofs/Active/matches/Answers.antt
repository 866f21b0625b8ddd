-- `Active::matches`: the kept set tells whether the directive selects the record.
use mathlib.Core.Path.{◌∙◌}
use Rattle.active.proofs.ListLaws.{selects_own}
use Rattle.active.proofs.Active.matches.Goals as goal

pub returns : goal.returns
returns c rs few own = c.matches.ensures rs (c.contains-selected.ensures ∙ rw c.from.ensures (selects_own rs own few _))
