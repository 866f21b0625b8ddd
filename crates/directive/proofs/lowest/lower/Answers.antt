-- `lowest::lower`: the next is taken where its number is lower.
use mathlib.Core.Path.{sym, ◌∙◌}
use borrow.Author.Tests.{lt-ltb, le-ltb}
use Rattle.directive.proofs.LowestLaws.{best_next}
use Rattle.directive.proofs.lowest.lower.Goals as goal

pub returns-then-next-lowest : goal.returns-then-next-lowest
returns-then-next-lowest c ds d e is =
    sym (best_next ds d c.args.next c.in-Some.lowest (sym e ∙ c.in-Some.is) is ∙ rw (lt-ltb _ _ c.if-next-lowest.true))

pub returns-else-next-lowest : goal.returns-else-next-lowest
returns-else-next-lowest c ds d e is =
    sym (best_next ds d c.args.next c.in-Some.lowest (sym e ∙ c.in-Some.is) is ∙ rw (le-ltb _ _ c.if-next-lowest.false))
