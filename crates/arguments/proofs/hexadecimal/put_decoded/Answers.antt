use Rattle.std.proofs.Common.{◌<◌, length, arith, rules, add-one}
use Rattle.std.proofs.lemmas.Grind.{common_steps}
use Rattle.arguments.specs.Hexadecimal.{bytes_of}
use Rattle.arguments.proofs.HexadecimalLaws.{bytes_length, put_next}
use Rattle.arguments.proofs.hexadecimal.put_decoded.Goals as goal

pub loop-k-preserved : goal.loop-k-preserved
loop-k-preserved c =
    let bs = bytes_of c.args.digits.now in
    let k = c.loop-k.k in
    let here : k < length bs = rw bytes_length (search rules) in
    rw (c.loop-k.invariant, c.byte_at.ensures, add-one k) (put_next bs c.args.out.now k here (search rules))

pub returns : goal.returns
returns c = grind (arith, common_steps, bytes_length)
