-- `RecordSet::with` sets one bit of the word that the number falls in; a number past 127 is none of the 128.
use native.Mathlib.Omega.{arith}
use borrow.Author.Rules.{rules}
use borrow.Author.Tests.{ne_eqb}
use Rattle.sets.proofs.WordLaws.{with_low, with_high}
use Rattle.sets.proofs.record_set.RecordSet.with.Goals as goal

pub returns-then-x-lt64 : goal.returns-then-x-lt64
returns-then-x-lt64 c = with_low c.args.self c.args.x (search rules)

pub returns-then-x-lt128 : goal.returns-then-x-lt128
returns-then-x-lt128 c =
    let w = c.args.self in
    with_high w c.args.x (search rules) (search rules)

pub returns : goal.returns
returns c k h = rw (ne_eqb c.args.x k (λ e. omega arith))
