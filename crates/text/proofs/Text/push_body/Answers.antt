-- `Text::push_body`: the word where there are no numbers, or the numbers and then the bytes.
use mathlib.Core.List.{append_assoc}
use borrow.Author.Rules.{rules}
use Rattle.text.specs.Text.{malformed_word}
use Rattle.text.proofs.TextLaws.{body_none, body_some}
use Rattle.text.proofs.Text.push_body.Goals as goal

pub returns-then-is_empty-clause-text : goal.returns-then-is_empty-clause-text
unfolding malformed_word
returns-then-is_empty-clause-text g c =
    rw (body_none c.args.numbers.now c.args.bytes.now (search rules)) c.push_bytes.ensures

pub returns-clause-text : goal.returns-clause-text
returns-clause-text g c =
    rw (body_some c.args.numbers.now c.args.bytes.now (search rules), ← append_assoc)
    (rw c.push_numbers.ensures.text at c.push_rest.ensures.text)
