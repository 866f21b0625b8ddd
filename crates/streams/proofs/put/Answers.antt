use Rattle.std.proofs.Common.{◌-◌, ◌++◌, arith, length, take, drop, sym, ap, subst, ◌∙◌, length-take}
use Rattle.std.proofs.Math.Seq.{take-add, take-take}
use Rattle.std.proofs.KnownBytes.{Appends-trans}
use Rattle.std.specs.Io.KnownBytes.{Appends}
use Rattle.streams.proofs.put.Goals as goal

pub loop-at-preserved : goal.loop-at-preserved
loop-at-preserved g c =
    let at = c.loop-at.at in
    let n = c.in_ok-n.n in
    let xs = c.args.bytes.now in
    let fits = rw c.in_ok-n.ensures at c.write.ensures.bound in
    let written = rw c.in_ok-n.ensures at c.write.ensures.bytes in
    let most = length-take (length xs - at) (drop at xs) in
    let joined = ap (λ l. take at xs ++ l) (take-take n (length xs - at) (drop at xs) (omega arith)) ∙ sym (take-add at n xs) in
    (omega arith, subst (Appends _ _) joined (Appends-trans _ _ _ _ _ c.loop-at.invariant.1 written))
