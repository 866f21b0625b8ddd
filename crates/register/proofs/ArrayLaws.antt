-- What owning an array of structs tells of its list: the length of its image under a map.
use Prim.Native.Nat.{ℕ}
use mathlib.Core.Path.{◌≡◌, sym, ◌∙◌}
use mathlib.Core.List.{List, map}
use lib.ListN.{length, length-map}

pub long_mapped : (A B : Type 0) (f : A → B) (l : List A) (n : ℕ) → length (map f l) ≡ n → length l ≡ n
long_mapped A B f l n e = sym (length-map l f) ∙ e
