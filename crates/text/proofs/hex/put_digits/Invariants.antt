-- `hex::put_digits`: the digits of the first k bytes stand.
use Rattle.std.proofs.Common.{◌≡◌, ◌*◌, take}
use Rattle.text.specs.Text.{hex_text}
use Rattle.text.proofs.hex.put_digits.Given as goal

abbrev pub invariant-loop-k : goal.invariant-loop-k
invariant-loop-k l = take (2 * l.k) l.places ≡ hex_text (take l.k l.bytes)
