-- `RecordSet::contains` reads the bit of the word that the number falls in; from 128 on no number is in a set.
use mathlib.Core.Path.{sym}
use borrow.Author.Rules.{rules}
use Rattle.sets.proofs.WordLaws.{contains_low, contains_high, contains_past}
use Rattle.sets.proofs.record_set.RecordSet.contains.Goals as goal

pub returns-then-x-lt64 : goal.returns-then-x-lt64
returns-then-x-lt64 c = sym (contains_low c.args.self c.args.x (search rules))

pub returns-then-x-lt128 : goal.returns-then-x-lt128
returns-then-x-lt128 c =
    let w = c.args.self in
    sym (contains_high w c.args.x (search rules) (search rules))

pub returns : goal.returns
returns c = sym (contains_past c.args.self c.args.x (search rules))
