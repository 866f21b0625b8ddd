-- `write::put_tag`: a tag below 256 is its own byte, and the length follows.
use native.Mathlib.Nat.{mod-eq_of_lt}
use borrow.Author.Rules.{rules}
use Rattle.sets.specs.Numbers.{bytes}
use Rattle.sets.proofs.PutLaws.{put_first, put_next}
use Rattle.card_writing.proofs.write.put_tag.Goals as goal

pub returns : goal.returns
unfolding bytes
returns c =
    let v = c.args.tag in
    let to_tag = put_first {s = c.args.s.now} c.args.at 1 v c.put.ensures in
    let to_size = put_next 2 c.args.size to_tag c.put-2.ensures in
    rw (mod-eq_of_lt {n = v} {m = 256} (search rules)) at to_size.stored
