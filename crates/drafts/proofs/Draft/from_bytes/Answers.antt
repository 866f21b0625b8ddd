-- `Draft::from_bytes` reads the purposes where edition 2 has them.
use mathlib.Core.Path.{◌∙◌}
use Rattle.drafts.specs.Form.{draft_of}
use Rattle.drafts.proofs.Draft.from_bytes.Goals as goal

pub returns : goal.returns
unfolding draft_of
returns c = c.numbers_of.ensures ∙ rw c.get.ensures
