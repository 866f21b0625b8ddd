-- `words::put_directive`: the number stands between its words.
use mathlib.Core.List.{append_assoc, append-nil}
use Rattle.text.specs.Text.{decimal_by, numbers_text, next_text}
use Rattle.program_access.specs.Words.{basis_word, open_word, directive_word, close_word}
use Rattle.program_access.proofs.words.put_directive.Goals as goal

pub returns-clause-text : goal.returns-clause-text
unfolding basis_word open_word directive_word close_word decimal_by numbers_text next_text
returns-clause-text g c =
    let number = rw c.from.ensures at c.push_decimal.ensures.text in
    let all = rw (number, c.push_bytes.ensures, c.put_effect.ensures.text) at c.push_bytes-2.ensures in
    simp (append_assoc, append-nil) (simp append_assoc at all)
