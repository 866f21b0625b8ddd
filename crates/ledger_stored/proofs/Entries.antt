-- The stored directives that count are those of the list that they stand for.
use mathlib.Core.Path.{◌≡◌, sym, ap, ◌∙◌}
use mathlib.Core.List.{List, map, map-map}
use lib.ListN.{length-map, take}
use Rattle.std.specs.List.{Contains}
use Rattle.std.proofs.lemmas.List.{take-map}
use Rattle.sets.proofs.Lists.{map_at}
use Rattle.active.specs.Active.{entries_of, directives_of}
use Rattle.ledger_stored.specs.declared.StoredActive.{StoredActive}
use Rattle.ledger_stored.specs.declared.StoredLedger.{StoredLedger}
use Rattle.ledger_stored.specs.Stored.{active_of, active_list}

module _ (t : StoredLedger) {es : List StoredActive} (are : es ≡ take t.active_count t.active) where
  brought_back : map active_of es ≡ entries_of (active_list t)
  brought_back = ap (map active_of) are ∙ sym (take-map active_of t.active_count t.active)

  pub directives_back : map (λ e. (active_of e).directive) es ≡ directives_of (active_list t)
  directives_back = sym (map-map (λ a. a.directive) active_of es) ∙ ap (map (λ a. a.directive)) brought_back

  pub entry_back : {e : StoredActive} → Contains es e → Contains (entries_of (active_list t)) (active_of e)
  entry_back {e} (i, h, is) =
      rw (← brought_back) (i, rw length-map h, map_at active_of es i e (active_of e) h ∙ ap active_of is)
