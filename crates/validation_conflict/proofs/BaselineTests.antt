-- The test of each record, by its number, in the order of the code.
use Prim.Native.Nat.{ℕ, zero, suc, ◌+◌, ◌%◌, ◌<◌, ◌≤◌}
use mathlib.Core.Path.{◌≡◌, refl, sym, ap, ap₂, ◌∙◌}
use mathlib.Core.Bool.{Bool, ◌&&◌, ◌||◌, not, or-false, or_assoc}
use mathlib.Core.List.{List, [], ◌∷◌}
use native.Mathlib.Nat.{add-zero, zero-add}
use native.Mathlib.Omega.{arith}
use lib.ListN.{length, get_or}
use lib.Dec.{eqb}
use Rattle.std.specs.List.{list_any, enumerate_from}
use Rattle.sets.specs.Quantifiers.{some_below, some_of}
use Rattle.sets.specs.RecordSets.{contains}
use Rattle.sets.proofs.BitLaws.{some_bits, some_low_bits}
use Rattle.sets.proofs.Ranges.{some_same}
use Rattle.register.specs.declared.Record.{Record}
use Rattle.register.specs.Register.{Contents, no_record}
use Rattle.directive.specs.declared.Directive.{Directive}
use Rattle.directive.specs.Selection.{selects}
use Rattle.active.specs.declared.Active.{Active}
use Rattle.active.specs.Active.{active_in}
use Rattle.active.proofs.ListLaws.{selects_own}
use Rattle.validation_meaning.specs.Meaning.{has_baseline}
use Rattle.validation_meaning.specs.Search.{from_origin, for_purpose}

-- some number below n + 1 passes: the first, or one of the others
some_first : (n : ℕ) (p : ℕ → Bool) → some_below (suc n) p ≡ p 0 || some_below n (λ k. p (suc k))
unfolding some_below
some_first zero p = sym (or-false (p 0))
some_first (suc n) p = rw (some_first n p) (or_assoc (p 0) (some_below n (λ k. p (suc k))) (p (suc n)))

module _ {A : Type 0} (q : ℕ → A → Bool) (d : A) where
  some_numbered :
      (n : ℕ) (l : List A) →
      list_any (λ e. q e.0 e.1) (enumerate_from n l) ≡ some_below (length l) (λ k. q (n + k) (get_or l k d))
  unfolding some_below
  some_numbered n [] = refl
  some_numbered n (a ∷ l) =
      rw (some_numbered (n + 1) l)
      (ap₂ ◌||◌ (ap (λ k. q k a) (sym (add-zero n)))
      (some_same _ (λ k. q (n + suc k) (get_or l k d)) (length l)
      (λ k h. let e : n + 1 + k ≡ n + suc k = omega arith in ap (λ i. q i (get_or l k d)) e))
      ∙ sym (some_first (length l) (λ k. q (n + k) (get_or (a ∷ l) k d))))

module _ (g : Contents) (patient person : ℕ) where
  -- the code's test of a record and its number
  abbrev pub own : Active → ℕ → Record → Bool
  own a x r = contains a.selected x && (eqb r.author person || eqb patient person)

  pub some_own :
      {a : Active} {b : Bool} → length g.records ≤ 128 → a ≡ active_in g.records a.directive →
      b ≡ list_any (λ e. own a e.0 e.1) (enumerate_from 0 g.records) →
      b ≡ some_of (length g.records) (selects g.records a.directive) (has_baseline g patient person)
  unfolding some_of
  some_own {a} few is_a e =
      e
      ∙ some_numbered (own a) no_record 0 g.records
      ∙ some_same _ (λ k. selects g.records a.directive k && has_baseline g patient person k) (length g.records)
      (λ k h. rw (zero-add k) (ap (λ (b : Bool). b && has_baseline g patient person k) (selects_own g.records is_a few k)))

-- the code's tests of two dimensions of a deny
pub some_origin : (d : Directive) → d.subject_origins < 65536 → some_below 16 (from_origin d) ≡ not (eqb d.subject_origins 0)
some_origin d narrow = some_bits 16 d.subject_origins narrow

pub some_purpose : (d : Directive) → some_below 11 (for_purpose d) ≡ not (eqb (d.purposes % 2048) 0)
some_purpose d = some_low_bits 11 d.purposes
