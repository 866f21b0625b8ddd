-- `hex::put_digits`: a turn puts the digits of one byte more.
use Rattle.std.proofs.Common.{rules, arith, ◌≡◌, refl, List, ℕ, ◌+◌, ◌*◌, ◌<◌, ◌++◌, [], ◌∷◌, length, take}
use native.Mathlib.Nat.{mod-eq_of_lt}
use Rattle.std.proofs.lemmas.Grind.{common_steps}
use Rattle.std.specs.Prelude.{slice_set}
use Rattle.text.specs.Text.{hex_text}
use Rattle.text.proofs.TextLaws.{fields_next, two_a_byte}
use Rattle.text.proofs.hex.put_digits.Goals as goal

two_more :
    (s : List ℕ) (i n a b : ℕ) → n ≡ i + 2 → i + 1 < length s →
    take n (slice_set (slice_set s i a) (i + 1) b) ≡ take i s ++ a ∷ b ∷ []
two_more s i n a b e h = grind (arith, common_steps)

pub loop-k-init : goal.loop-k-init
unfolding hex_text
loop-k-init c = refl

pub loop-k-preserved : goal.loop-k-preserved
loop-k-preserved c =
    let next = fields_next two_a_byte c.args.bytes.now c.loop-k.k 0 c.loop-k-test.true in
    let two = two_more c.loop-k.places (2 * c.loop-k.k) (2 * (c.loop-k.k + 1)) c.digit.result c.digit-in-loop-k.result (omega arith) (search rules) in
    rw (next, ← c.loop-k.invariant, two) (search (rules, c.digit.ensures, c.digit-in-loop-k.ensures, mod-eq_of_lt))
