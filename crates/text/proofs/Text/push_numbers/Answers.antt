-- `Text::push_numbers`: a turn appends one number more.
use mathlib.Core.List.{append-nil, append_assoc}
use borrow.Author.Rules.{rules}
use lib.Seq.{take_all}
use Rattle.text.specs.Text.{next_text}
use Rattle.text.proofs.TextLaws.{fields_next, one_a_number, numbers_none, numbers_some}
use Rattle.text.proofs.Text.push_numbers.Goals as goal

pub returns-in_default-clause-text : goal.returns-in_default-clause-text
returns-in_default-clause-text g c = rw (numbers_none c.args.numbers.now c.in_default.len_below) (search rules)

pub loop-n-init : goal.loop-n-init
unfolding next_text
loop-n-init g c = (search rules, rw append-nil c.push_decimal.ensures.text)

pub loop-n-preserved : goal.loop-n-preserved
loop-n-preserved g c =
    let next = fields_next one_a_number _ c.loop-n.n-index 0 c.loop-n-test.true in
    (search rules, rw (next, ← append_assoc) (rw c.loop-n.invariant.1 at c.push_next.ensures.text))

pub returns-clause-text : goal.returns-clause-text
returns-clause-text g c =
    rw (numbers_some c.args.numbers.now c.in-len1-up.len_at_least, ← append_assoc) (rw (take_all _ _ c.loop-n-test.false) at c.loop-n.invariant.1)
