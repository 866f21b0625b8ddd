-- `Text::push_decimal`: the fewest digits that hold the number are its text.
use Rattle.std.proofs.Common.{◌≡◌, arith, length, rules}
use Rattle.std.specs.Fmt.{decimal as std_decimal}
use Rattle.text.proofs.DecimalLaws.{std_text, std_long, ends_with}
use Rattle.text.proofs.Text.push_decimal.Goals as goal

pub write_digits-requires : goal.write_digits-requires
write_digits-requires g c =
    let long = std_long c.args.n c.places.result c.ranges.n.fits c.places.ensures.digit_count in
    (omega (arith, long), search rules)

pub returns-clause-text : goal.returns-clause-text
returns-clause-text g c =
    let w = c.write_digits.ensures in
    let long : length (std_decimal c.args.n) ≡ c.places.result = std_long c.args.n c.places.result c.ranges.n.fits c.places.ensures.digit_count in
    let start : c.write_digits.result ≡ c.self.inside.len = omega (arith, long, w.start) in
    rw (std_text c.args.n c.ranges.n.fits, ← long, ← c.self.view_is) (ends_with _ _ _ _ _ (rw start at w.before) (rw start at w.written) (search rules))
