use Rattle.arguments.proofs.HexadecimalLaws.{byte_here}
use Rattle.arguments.proofs.hexadecimal.byte_at.Goals as goal

pub returns : goal.returns
returns c =
    rw (c.hex_digit_of.ensures.value, c.hex_digit_of-2.ensures.value) (byte_here c.args.digits.now c.args.k c.requires.within)
