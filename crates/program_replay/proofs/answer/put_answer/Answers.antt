-- `answer::put_answer`: the numbers of the answer's line, and of the lent bytes those that it shows.
use Rattle.program_replay.proofs.LineLaws.{printed}
use Rattle.program_replay.proofs.answer.put_answer.Goals as goal

pub returns : goal.returns
returns g c =
    let text = rw (c.clear.ensures, c.numbers.ensures) at c.push_line.ensures in
    rw c.is_ok.ensures.value (printed c.args.a c.args.lent.now c.line_of-line.ensures c.min-n.ensures text)
