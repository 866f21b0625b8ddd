-- `value_of`: the number that the digits so far write.
use Rattle.std.proofs.Common.{◌≡◌, ◌^◌, ◌<◌, take}
use Rattle.arguments.specs.Decimal.{value}
use Rattle.arguments.proofs.value_of.Given as goal

abbrev pub invariant-loop-digit : goal.invariant-loop-digit
invariant-loop-digit l = (l.n ≡ value (take l.digit-index l.digits)) × (l.n < 10 ^ l.digit-index)
