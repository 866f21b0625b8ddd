-- `table::put_table`: after i turns the lines of the first i records stand.
use Prim.Native.Nat.{◌+◌, ◌*◌, ◌≤◌}
use mathlib.Core.Path.{◌≡◌}
use mathlib.Core.List.{◌++◌}
use lib.ListN.{length}
use Rattle.ledger.specs.State.{view}
use Rattle.program_access.specs.Table.{record_texts}
use Rattle.program_access.specs.Promises.{after_of}
use Rattle.program_access.proofs.table.Table.put_table.Given as goal

abbrev pub invariant-loop-i : goal.invariant-loop-i
invariant-loop-i g l =
    (length l.out ≤ length l.fn.out + 144 * l.i)
    × (l.out ≡ l.fn.out ++ record_texts (view l.self.ledger.now) (after_of l.self) l.self.requester l.i)
