use Prim.Native.Nat.{ℕ, ◌+◌}
use mathlib.Core.List.{List}
use lib.ListN.{length}
use Rattle.sets.proofs.PutLaws.{OneEach, Filled}
use Rattle.card.specs.Grammar.{field}
use Rattle.card_writing.proofs.write.put_fields.Given as goal

abbrev pub invariant-loop-i : goal.invariant-loop-i
invariant-loop-i g l =
    (fields : List g.row.V.Denot → List ℕ) → OneEach fields (λ v. field g.V.Value.TAG (g.V.Value.bytes v)) →
    Filled fields (3 + g.V.Value.SIZE) l.values (length l.values) l.fn.s l.at l.i l.s
