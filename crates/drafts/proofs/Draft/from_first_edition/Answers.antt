-- `Draft::from_first_edition` takes every purpose, and the minutes right after the kinds.
use mathlib.Core.Path.{sym, ◌∙◌}
use Rattle.drafts.proofs.EditionLaws.{edition_one}
use Rattle.drafts.proofs.Draft.from_first_edition.Goals as goal

pub returns : goal.returns
returns c = c.numbers_of.ensures ∙ sym (edition_one c.args.s.now c.requires)
