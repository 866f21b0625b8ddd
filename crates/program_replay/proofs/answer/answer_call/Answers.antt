-- `answer::answer_call`: the line of the call's answer, and the ledger after it.
use Rattle.program_replay.proofs.LineLaws.{turned}
use Rattle.program_replay.proofs.answer.answer_call.Goals as goal

pub returns : goal.returns
returns g c =
    turned (rw c.requires.0 at (c.run_call-a.ensures c.requires.1 c.args.lent.now)) c.put_answer.ensures
