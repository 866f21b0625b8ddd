-- `hexadecimal::put_decoded`: after k turns the first k bytes stand.
use Rattle.std.proofs.Common.{◌≡◌, ◌++◌, take, drop}
use Rattle.arguments.specs.Hexadecimal.{bytes_of}
use Rattle.arguments.proofs.hexadecimal.put_decoded.Given as goal

abbrev pub invariant-loop-k : goal.invariant-loop-k
invariant-loop-k l = l.out ≡ take l.k (bytes_of l.digits) ++ drop l.k l.initial.out
