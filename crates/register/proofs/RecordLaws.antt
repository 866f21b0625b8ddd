-- Laws of the records that a register counts: the first n of a list.
use Prim.Native.Nat.{ℕ, ◌<◌}
use mathlib.Core.Path.{◌≡◌, ap, ◌∙◌}
use mathlib.Core.List.{List}
use lib.ListN.{take, get_or, get_or-map}
use lib.Seq.{get_or-take}
use Rattle.register.specs.declared.Record.{Record}
use Rattle.register.specs.Register.{no_record}
use Rattle.register.specs.Records.{parents}
use Rattle.register.specs.Tree.{parent_of}

pub parent_at :
    (n : ℕ) (l : List Record) (x : ℕ) → x < n → parent_of (parents (take n l)) x ≡ (get_or l x no_record).parent
parent_at n l x h =
    get_or-map (λ r. r.parent) (take n l) x no_record ∙ ap (λ (r : Record). r.parent) (get_or-take n l x no_record h)
