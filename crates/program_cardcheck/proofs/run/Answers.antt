-- `run`: what was read is the input's first 65,535 bytes, of which the line was made.
use Rattle.std.proofs.Common.{ℕ, List, [], rules, subst, ◌∙◌}
use Rattle.std.proofs.lemmas.Result.{err_from_is_err_and}
use Rattle.streams.specs.Writes.{Puts, PutsLast, status_of}
use Rattle.streams.proofs.ReadLaws.{first_bytes}
use Rattle.streams.proofs.WriteLaws.{last_put}
use Rattle.card.specs.Reading.{card_line}
use Rattle.text.specs.Text.{line_text}
use Rattle.program_cardcheck.proofs.RunLaws.{nothing_printed}
use Rattle.program_cardcheck.proofs.run.Goals as goal

pub returns-in_err-n : goal.returns-in_err-n
returns-in_err-n g c =
    let p = err_from_is_err_and c.from_residual.result c.from_residual.ensures.1 in
    rw p.1 (nothing_printed _ _)

pub returns : goal.returns
returns g c =
    let before = g.W.Write.contents c.args.output.now in
    let after = g.W.Write.contents c.put.new.output in
    let P : List ℕ → Type 0 = λ card. PutsLast (status_of c.put.result) before after (line_text (card_line card) []) in
    let written = last_put _ _ _ _ (subst (Puts _ _ _) (c.as_slice.ensures.value ∙ c.reply-line.ensures) c.put.ensures) in
    let read = c.in_ok-n.ensures.bytes in
    first_bytes 65535 _ _ c.in_ok-n.n c.fill.new.buf P (search rules) c.in_ok-n.ensures.fills.0 read.0 read.1 written
