-- `run`: the ledger is sound, and the buffers keep their lengths.
use Rattle.std.proofs.Common.{◌≡◌, length}
use Rattle.ledger.specs.Invariant.{Invariant}
use Rattle.program_replay.proofs.run.Given as goal

abbrev pub invariant-loop : goal.invariant-loop
invariant-loop g l =
    Invariant l.ledger × (length l.value ≡ 65535) × (length l.lent ≡ 65535) × (length l.head ≡ 3)
