-- `Text::push_numbers`: after i turns the first number and i more stand.
use Prim.Native.Nat.{◌+◌, ◌*◌, ◌≤◌}
use mathlib.Core.List.{◌++◌}
use mathlib.Core.Path.{◌≡◌}
use lib.ListN.{get_or, take, length}
use Rattle.text.specs.Text.{decimal, next_text}
use Rattle.text.proofs.Text.push_numbers.Given as goal

abbrev pub invariant-loop-n : goal.invariant-loop-n
invariant-loop-n g l =
    (length l.self ≤ length l.fn.self + (20 + 21 * l.n-index))
    × (l.self ≡ l.fn.self ++ decimal (get_or l.numbers 0 0) ++ next_text (take l.n-index l.rest))
