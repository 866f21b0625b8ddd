-- What is stored is read back: `ledger_of (stored_of l) ≡ l`.
use Prim.Native.Nat.{ℕ, zero, suc}
use mathlib.Core.Path.{◌≡◌, refl}
use mathlib.Core.Bool.{Bool, true, false, not}
use mathlib.Core.List.{List, [], ◌∷◌, map}
use lib.Dec.{eqb}
use Rattle.sets.specs.Quantifiers.{one_if}
use Rattle.register.specs.Records.{reach_of, reach_number}
use Rattle.register.proofs.ReachLaws.{reach_read}
use Rattle.directive.specs.declared.Subject.{Subject}
use Rattle.directive.specs.declared.Subject.TheVariants.{Person, Role}
use Rattle.directive.specs.Matching.{subject_named, is_role, number_of}
use Rattle.active.specs.declared.Active.{Active}
use Rattle.emergency.specs.declared.Token.{Token}
use Rattle.ledger.specs.declared.Ledger.{Ledger}
use Rattle.ledger_stored.specs.Stored.{directive_of, active_of, stored_active, token_of, stored_token, ledger_of, stored_of}

bit_back : (b : Bool) → not (eqb (one_if b) 0) ≡ b
bit_back true = refl
bit_back false = refl

subject_back : (s : Subject) → subject_named (is_role s) (number_of s) ≡ s
subject_back (Person n) = refl
subject_back (Role n) = refl

-- a number comes back through its reach, past the last too
pub reach_kept : (n : ℕ) → reach_number (reach_of n) ≡ n
reach_kept zero = refl
reach_kept (suc zero) = refl
reach_kept (suc (suc zero)) = refl
reach_kept (suc (suc (suc zero))) = refl
reach_kept (suc (suc (suc (suc n)))) = refl

active_back : (a : Active) → active_of (stored_active a) ≡ a
unfolding active_of directive_of stored_active
active_back a =
    let s = a.directive.subject in
    rw (bit_back a.directive.permit, bit_back (is_role s), subject_back s, reach_read a.directive.reach) refl

token_back : (k : Token) → token_of (stored_token k) ≡ k
unfolding token_of stored_token
token_back k = refl

module _ {A B : Type 0} (f : A → B) (g : B → A) (back : (x : A) → g (f x) ≡ x) where
  all_back : (l : List A) → map g (map f l) ≡ l
  all_back [] = refl
  all_back (x ∷ l) = rw (back x, all_back l) refl

pub ledger_back : (l : Ledger) → ledger_of (stored_of l) ≡ l
unfolding ledger_of stored_of
ledger_back l =
    rw (all_back stored_active active_of active_back l.active.entries, all_back stored_token token_of token_back l.tokens.tokens) refl
