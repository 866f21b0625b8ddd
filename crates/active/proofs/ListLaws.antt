-- Laws of an active list: its entries one by one, and what a change does to its directives and to its invariant.
use Prim.Native.Nat.{ℕ, ◌+◌, ◌-◌, ◌<◌, ◌≤◌}
use mathlib.Core.Path.{◌≡◌, refl, sym, ap, ap₂, ◌∙◌}
use mathlib.Core.Bool.{Bool}
use mathlib.Core.List.{List, [], ◌∷◌, ◌++◌, map, map-append}
use native.Mathlib.Omega.{arith}
use lib.ListN.{length, get_or, length-take, length-map, length-append, get_or-map}
use lib.Seq.{get_or-take, get_or-append_seam}
use Rattle.std.specs.List.{Contains}
use Rattle.sets.specs.Quantifiers.{some_in, keep}
use Rattle.sets.specs.RecordSets.{contains}
use Rattle.sets.proofs.Keep.{keep_map}
use Rattle.sets.proofs.Lists.{map_at, some_map}
use Rattle.register.specs.declared.Record.{Record}
use Rattle.directive.specs.declared.Directive.{Directive}
use Rattle.directive.specs.Nothing.{no_directive}
use Rattle.directive.specs.Places.{active_places}
use Rattle.directive.specs.Selection.{selects}
use Rattle.directive.proofs.SelectLaws.{contains_selected}
use Rattle.active.specs.declared.Active.{Active}
use Rattle.active.specs.declared.ActiveList.{ActiveList}
use Rattle.active.specs.Active.{entries_of, directives_of, active_in, ActiveInvariant, no_active, empty_list}
use Rattle.active.specs.Changes.{Pushed, Keeps}

-- one of the directives passes where the directive of an entry does
pub some_entries :
    (p : Directive → Bool) (l : ActiveList) → some_in (λ a. p a.directive) (entries_of l) ≡ some_in p (directives_of l)
some_entries p l = sym (some_map (λ a. a.directive) p (entries_of l))

-- entry i
module _ (l : ActiveList) (i : ℕ) (h : i < length (directives_of l)) where
  in_count : i < l.count
  in_count = omega (arith, simp (length-map, length-take) at h)

  pub directive_at : (get_or l.entries i no_active).directive ≡ get_or (directives_of l) i no_directive
  directive_at =
      ap (λ (a : Active). a.directive) (sym (get_or-take l.count l.entries i no_active in_count))
      ∙ sym (get_or-map (λ a. a.directive) (entries_of l) i no_active)

-- the entries that count
module _ (l : ActiveList) {rs : List Record} (held : ActiveInvariant rs l) where
  pub entry_at :
      (i : ℕ) (d : Directive) (a : Active) → i < length (entries_of l) →
      get_or (entries_of l) i a ≡ active_in rs (get_or (directives_of l) i d)
  entry_at i d a h =
      ap (λ (es : List Active). get_or es i a) held.selections
      ∙ map_at (active_in rs) (directives_of l) i d a (rw length-map h)

  -- the set of each is what its directive selects
  pub selected_in : {a : Active} → Contains (entries_of l) a → a ≡ active_in rs a.directive
  selected_in {a} (i, h, is) =
      let own : get_or (directives_of l) i a.directive ≡ a.directive =
      map_at (λ b. b.directive) (entries_of l) i a a.directive h ∙ ap (λ (b : Active). b.directive) is in
      sym is ∙ entry_at i a.directive a h ∙ ap (active_in rs) own

-- the set of an entry tells of every number whether its directive selects it
pub selects_own :
    (rs : List Record) {a : Active} → a ≡ active_in rs a.directive → length rs ≤ 128 → (x : ℕ) →
    contains a.selected x ≡ selects rs a.directive x
selects_own rs {a} own few x =
    ap (λ (b : Active). contains b.selected x) own ∙ contains_selected rs a.directive x few

-- the last entry is that of the last directive
pub last_at :
    (l : ActiveList) (ds : List Directive) {rs : List Record} {d : Directive} →
    ActiveInvariant rs l → directives_of l ≡ ds ++ (d ∷ []) →
    (0 < length (entries_of l)) × (get_or (entries_of l) (length (entries_of l) - 1) no_active ≡ active_in rs d)
last_at l ds {rs} {d} held is =
    let long : length (entries_of l) ≡ length ds + 1 =
    sym (length-map (entries_of l) (λ a. a.directive)) ∙ ap length is ∙ length-append ds (d ∷ []) in
    let at : length (entries_of l) - 1 ≡ length ds = omega arith in (
      omega arith,
      entry_at l held (length (entries_of l) - 1) no_directive no_active (omega arith)
          ∙ ap (active_in rs) (rw (is, at) (get_or-append_seam ds d [] no_directive)),
    )

-- one entry more
module _ {l r : ActiveList} {a : Active} (pushed : Pushed l a r) where
  pub directives_pushed : directives_of r ≡ directives_of l ++ (a.directive ∷ [])
  directives_pushed = rw pushed.entries (map-append _ (entries_of l) (a ∷ []))

  pub invariant_pushed :
      {rs : List Record} → ActiveInvariant rs l → l.count < active_places → a ≡ active_in rs a.directive →
      ActiveInvariant rs r
  invariant_pushed {rs} held h own =
      record {
        few = omega (arith, pushed.count);
        selections =
            pushed.entries
            ∙ ap₂ (λ (es : List Active) (b : Active). es ++ (b ∷ [])) held.selections own
            ∙ sym (map-append (active_in rs) (directives_of l) (a.directive ∷ []))
            ∙ ap (map (active_in rs)) (sym directives_pushed);
      }

-- those that pass a test
module _ {p : Directive → Bool} {l r : ActiveList} (kept : Keeps p l r) where
  pub directives_kept : directives_of r ≡ keep p (directives_of l)
  directives_kept = rw kept.entries (sym (keep_map (λ a. a.directive) p (entries_of l)))

  pub invariant_kept : {rs : List Record} → ActiveInvariant rs l → ActiveInvariant rs r
  invariant_kept {rs} held =
      record {
        few = kept.few;
        selections =
            kept.entries
            ∙ ap (keep (λ a. p a.directive)) held.selections
            ∙ keep_map (active_in rs) (λ a. p a.directive) (directives_of l)
            ∙ ap (map (active_in rs)) (sym directives_kept);
      }

pub empty_invariant : (rs : List Record) → ActiveInvariant rs empty_list
unfolding empty_list
empty_invariant rs = record { few = omega arith; selections = refl }

-- where there is no directive the invariant holds over any records
pub none_active : {rs ts : List Record} {l : ActiveList} → directives_of l ≡ [] → ActiveInvariant rs l → ActiveInvariant ts l
none_active {rs} {ts} none held =
    record {
      few = held.few;
      selections = held.selections ∙ ap (map (active_in rs)) none ∙ ap (map (active_in ts)) (sym none);
    }
