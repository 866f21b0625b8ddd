-- What a program that ends by a write has printed, with its status.
use Rattle.std.proofs.Common.{ℕ, List, Result, Ok, Err, Option, refl, inl, inr}
use Rattle.streams.specs.declared.Failed.{Failed}
use Rattle.streams.specs.Writes.{Puts, PutsLast, status_of}

pub last_put :
    (written : Result (Unit {0}) Failed) (before after : Option (List ℕ)) (bytes : List ℕ) →
    Puts written before after bytes → PutsLast (status_of written) before after bytes
last_put (Ok done) before after bytes puts = inl (refl, puts)
last_put (Err e) before after bytes puts = inr (refl, puts)
