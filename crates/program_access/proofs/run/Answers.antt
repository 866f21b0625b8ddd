-- `run`: what was read is the card; what is shown of it is written, or cut.
use Rattle.std.proofs.Common.{List, ℕ, take, rules}
use Rattle.std.proofs.lemmas.Result.{err_from_is_err_and}
use Rattle.std.specs.Option.{option_copied}
use Rattle.streams.specs.declared.Status.TheVariants.{Failed}
use Rattle.streams.proofs.ReadLaws.{first_bytes}
use Rattle.program_access.specs.Promises.{Answers}
use Rattle.program_access.proofs.RunLaws.{answered, cut}
use Rattle.program_access.proofs.run.Goals as goal

pub returns-in_err-put : goal.returns-in_err-put
returns-in_err-put g c =
    let p = err_from_is_err_and c.from_residual-in_err-put.result c.from_residual-in_err-put.ensures.1 in
    let d = option_copied c.args.draft in
    let w = c.args.w in
    let before = g.W.Write.contents c.args.output.now in
    let after = g.W.Write.contents c.put.new.output in
    let read = c.in_ok-n.ensures in
    let buffer = c.fill.new.buf in
    let written = rw c.as_slice.ensures.value at c.in_err-put.ensures in
    let shown = cut (take c.in_ok-n.n buffer) d w before after (rw c.new-out.ensures at c.access-status.ensures) written in
    rw p.1
    (first_bytes 65535 _ _ c.in_ok-n.n buffer (λ (card : List ℕ). Answers card d w Failed before after) (search rules) read.fills.0 read.bytes.0 read.bytes.1 shown)

pub returns : goal.returns
returns g c =
    let d = option_copied c.args.draft in
    let w = c.args.w in
    let before = g.W.Write.contents c.args.output.now in
    let after = g.W.Write.contents c.put.new.output in
    let read = c.in_ok-n.ensures in
    let buffer = c.fill.new.buf in
    let written = rw c.as_slice.ensures.value at c.in_ok-put.ensures in
    let shown = answered (take c.in_ok-n.n buffer) d w before after (rw c.new-out.ensures at c.access-status.ensures) written in
    first_bytes 65535 _ _ c.in_ok-n.n buffer (λ (card : List ℕ). Answers card d w c.access-status.result before after) (search rules) read.fills.0 read.bytes.0 read.bytes.1 shown
