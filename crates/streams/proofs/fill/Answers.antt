use Rattle.std.proofs.Common.{◌≡◌, ℕ, ◌+◌, ◌≤◌, List, ◌++◌, rules, length, take, sym, ap, subst, ◌∙◌}
use Rattle.std.proofs.Math.Seq.{take-append-add}
use Rattle.std.proofs.lemmas.List.{length-take-le, take-append-le}
use Rattle.std.proofs.KnownBytes.{Consumes-trans}
use Rattle.std.specs.Io.KnownBytes.{Consumes}
use Rattle.streams.proofs.fill.Goals as goal

-- the bytes before place i, and then n of those that a read put there
take_read : (xs ys zs : List ℕ) (i n : ℕ) → i ≤ length xs → n ≤ length ys → take (i + n) (take i xs ++ (ys ++ zs)) ≡ take i xs ++ take n ys
take_read xs ys zs i n room fits =
    ap (λ k. take (k + n) (take i xs ++ (ys ++ zs))) (sym (length-take-le i xs room)) ∙ take-append-add (take i xs) (ys ++ zs) n ∙ ap (λ l. take i xs ++ l) (take-append-le n ys zs fits)

pub loop-done-preserved : goal.loop-done-preserved
loop-done-preserved g c =
    let fits = rw c.in_ok-n.ensures at c.read.ensures.bound in
    let read = rw c.in_ok-n.ensures at c.read.ensures.bytes in
    let joined = take_read c.loop-done.buf c.read.new.buf _ c.loop-done.done c.in_ok-n.n (search rules) fits.0 in
    (search rules, search rules, subst (Consumes _ _) (sym joined) (Consumes-trans _ _ _ _ _ c.loop-done.invariant.2 read.0))
