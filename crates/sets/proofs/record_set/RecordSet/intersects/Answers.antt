-- `RecordSet::intersects`: two sets share a number where their low words or their high words share a bit.
use borrow.Author.Rules.{rules}
use borrow.Author.Tests.{eq-eqb, ne_eqb}
use Rattle.sets.proofs.WordLaws.{overlap_words}
use Rattle.sets.proofs.record_set.RecordSet.intersects.Goals as goal

pub returns-then-self-other-ne0 : goal.returns-then-self-other-ne0
returns-then-self-other-ne0 c =
    let args = c.args in
    let e = ne_eqb _ _ c.if-self-other-ne0.true in
    rw e (rw e at (overlap_words args.self args.other (search rules) (search rules)))

pub returns-else-self-other-ne0 : goal.returns-else-self-other-ne0
returns-else-self-other-ne0 c =
    let args = c.args in
    rw (eq-eqb _ _ c.if-self-other-ne0.false) at (overlap_words args.self args.other (search rules) (search rules))
