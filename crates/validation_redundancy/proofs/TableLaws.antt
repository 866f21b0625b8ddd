-- The search over the tables of masks finds what the search of validation_meaning's specs/Search.antt finds.
use Prim.Native.Nat.{ℕ, ◌<◌, ◌≤◌}
use mathlib.Core.Path.{◌≡◌, refl, sym, ap, ◌∙◌}
use mathlib.Core.Bool.{Bool, true, false, ◌&&◌, not, and-true, and-false, and_assoc, and_comm}
use mathlib.Core.Logic.{⊎_elim}
use mathlib.Core.List.{List, [], ◌∷◌, map, map-map}
use native.Mathlib.Decide.{dec_lt}
use native.Mathlib.Omega.{arith}
use borrow.Author.Tests.{lt-ltb, le-ltb, ltb-true}
use lib.ListN.{length, get_or, length-take}
use lib.Dec.{eqb, ltb}
use lib.Bits.{bit_and}
use Rattle.sets.specs.Quantifiers.{pick, implies, all_of, all_in, some_in, keep}
use Rattle.sets.specs.Bits.{bit, set_of}
use Rattle.sets.specs.RecordSets.{contains}
use Rattle.sets.proofs.Quantifiers.{same_test, either_way, and_both, every_of}
use Rattle.sets.proofs.Lists.{some_map, some_alike}
use Rattle.sets.proofs.BitLaws.{set_bit}
use Rattle.register.specs.declared.Record.{Record}
use Rattle.register.specs.Register.{record_places, holding}
use Rattle.directive.specs.declared.Directive.{Directive}
use Rattle.directive.specs.Selection.{selects}
use Rattle.directive.specs.Matching.{in_minutes, applies_to}
use Rattle.directive.proofs.SelectLaws.{selects_past, contains_selected}
use Rattle.active.specs.declared.Active.{Active}
use Rattle.active.specs.declared.ActiveList.{ActiveList}
use Rattle.active.specs.Active.{active_in, entries_of, directives_of}
use Rattle.active.proofs.ListLaws.{selects_own}
use Rattle.validation_redundancy.specs.declared.tables.Tables.{Tables}
use Rattle.validation_meaning.specs.Meaning.{same_effect}
use Rattle.validation_meaning.specs.Search.{from_origin, for_purpose, start, stands_for, covered_at, included_found, redundant_found}
use Rattle.validation_conflict.specs.Given.{Given}
use Rattle.validation_redundancy.specs.Masks.{mask_where, minute_mask, boundaries_of, masks_of, minutes_covered, level_covered, origins_covered, all_covered}
use Rattle.validation_redundancy.proofs.MaskLaws.{five_share}

-- the values below n that pass f, where those are the values below m that pass g
of_same :
    (n m : ℕ) (f g p q : ℕ → Bool) → m ≤ n → ((k : ℕ) → k < n → f k ≡ ltb k m && g k) →
    ((k : ℕ) → k < m → g k ≡ true → p k ≡ q k) → all_of n f p ≡ all_of m g q
of_same n m f g p q h same alike =
    same_test (all_of n f p) (all_of m g q)
    (λ t.
    (every_of m g).make q
    (λ k i.
    sym (alike k i.0 i.1)
    ∙ (every_of n f).read p t k (omega (arith, i.0), same k (omega (arith, i.0)) ∙ rw (lt-ltb k m i.0, i.1))))
    (λ t.
    (every_of n f).make p
    (λ k i.
    let (less, passes) = and_both (ltb k m) (g k) (sym (same k i.0) ∙ i.1) in
    alike k (ltb-true k m less) passes ∙ (every_of m g).read q t k (ltb-true k m less, passes)))

-- the tests of one directive, in the order of the levels and of the definition
in_order : (e x o u s m : Bool) → e && x && o && u && s && m ≡ e && s && (o && u && x && m)
in_order false x o u s m = refl
in_order true x o u false m = rw (and-false (x && o && u))
in_order true x o u true m = ap (λ (b : Bool). b && m) (and-true (x && o && u) ∙ and_assoc x o u ∙ and_comm x (o && u))

-- a test of the minutes that a draft spans, by their masks
spanned :
    (s p q : ℕ → Bool) (f : ℕ → ℕ) → ((m : ℕ) → p (f m) ≡ q m) → (ms : List ℕ) →
    all_in p (map f (keep s ms)) ≡ all_in (λ m. implies (s m) (q m)) ms
unfolding all_in keep
spanned s p q f same [] = refl
spanned s p q f same (m ∷ ms) =
    ⊎_elim
    (λ (e : s m ≡ true). rw (e, same m, spanned s p q f same ms))
    (λ (e : s m ≡ false). rw (e, spanned s p q f same ms))
    (either_way (s m))

-- the table has the masks of the numbers in the set, and 0 for the others
abbrev TableOf : ℕ → (ℕ → Active → Bool) → List Active → List ℕ → Type 0
TableOf set test l table = (k : ℕ) → k < 16 → get_or table k 0 ≡ pick (bit k set) (mask_where (test k) l) 0

-- what the tables of the draft d beside the entries l are, from the clock on
pub record TablesOf (roles : List ℕ) (clock : ℕ) (d : Directive) (l : List Active) (t : Tables) : Type 0 where
  pub by_origin : TableOf d.subject_origins (λ k a. bit k a.directive.subject_origins) l t.by_origin
  pub by_purpose : TableOf d.purposes (λ k a. bit k a.directive.purposes) l t.by_purpose
  pub roles_are : t.roles ≡ set_of 16 (λ r. ltb r (length roles) && stands_for roles d.subject d.subject r)
  pub by_role : TableOf t.roles (λ r a. stands_for roles d.subject a.directive.subject r) l t.by_role
  pub minutes :
      masks_of t.minutes
      ≡ map (minute_mask l) (keep (in_minutes (start clock d) d.until) (boundaries_of (start clock d) l))

module _ (roles : List ℕ) (rs : List Record) (clock : ℕ) (a : Active) (list : ActiveList)
    (given : Given rs a list) (few_roles : length roles ≤ 16) (t : Tables)
    (is : TablesOf roles clock a.directive (entries_of list) t) where
  pub few : length (entries_of list) ≤ 32
  few = simp length-take (omega (arith, given.others.few))

  -- the entries that pass a test of their directive and select record x
  abbrev mask_of : (Directive → Bool) → ℕ → ℕ
  mask_of ok x = mask_where (λ b. ok b.directive && contains b.selected x) (entries_of list)

  -- at one value of each dimension that the draft has, the masks share a bit where a directive that passes the test meets the request
  masks_meet :
      (ok : Directive → Bool) (x o u r m : ℕ) → (o < 16) × (from_origin a.directive o ≡ true) → (u < 16) × (for_purpose a.directive u ≡ true) →
      (r < 16) × (bit r t.roles ≡ true) →
      not
      (eqb
      (bit_and
      (bit_and
      (bit_and (bit_and (mask_of ok x) (get_or t.by_origin o 0)) (get_or t.by_purpose u 0))
      (get_or t.by_role r 0))
      (minute_mask (entries_of list) m)) 0)
      ≡ covered_at (holding roles rs) ok a.directive (directives_of list) x o u r m
  unfolding applies_to
  masks_meet ok x o u r m ho hu hr =
      let by_record : Active → Bool = λ b. ok b.directive && contains b.selected x in
      let by_origin : Active → Bool = λ b. bit o b.directive.subject_origins in
      let by_purpose : Active → Bool = λ b. bit u b.directive.purposes in
      let by_role : Active → Bool = λ b. stands_for roles a.directive.subject b.directive.subject r in
      let by_minute : Active → Bool = λ b. in_minutes b.directive.from b.directive.until m in
      let p : Active → Bool = λ b. by_record b && by_origin b && by_purpose b && by_role b && by_minute b in
      let q : Directive → Bool =
      λ e. ok e && stands_for roles a.directive.subject e.subject r && applies_to (holding roles rs) e x o u m in
      rw (is.by_origin o ho.0, ho.1, is.by_purpose u hu.0, hu.1, is.by_role r hr.0, hr.1)
      (five_share (entries_of list) few by_record by_origin by_purpose by_role by_minute
      ∙ ap (some_in p) given.others.selections
      ∙ some_map (active_in rs) p (directives_of list)
      ∙ some_alike (λ e. p (active_in rs e)) q (directives_of list)
      (λ e _.
      rw (contains_selected rs e x given.few)
      (in_order (ok e) (selects rs e x) (from_origin e o) (for_purpose e u)
      (stands_for roles a.directive.subject e.subject r) (in_minutes e.from e.until m))))

  selects_cut : (x : ℕ) → selects rs a.directive x ≡ ltb x (length rs) && selects rs a.directive x
  selects_cut x =
      elim (dec_lt x (length rs)) [
        | yes h ↦ rw (lt-ltb x (length rs) h)
        | no h ↦ rw (le-ltb x (length rs) (omega arith)) (selects_past rs a.directive x (omega arith))
      ]

  role_bit : (r : ℕ) → r < 16 → bit r t.roles ≡ ltb r (length roles) && stands_for roles a.directive.subject a.directive.subject r
  role_bit r h = ap (bit r) is.roles_are ∙ set_bit 16 r _ ∙ rw (lt-ltb r 16 h)

  -- the search over the tables, by the masks of the entries that pass a test of their directive, is the search for a request that none
  -- of these directives meets
  pub tables_found :
      (ok : Directive → Bool) {b : Bool} → b ≡ all_of record_places (contains a.selected) (λ x. origins_covered a t (mask_of ok x)) →
      b ≡ included_found (holding roles rs) clock ok a.directive (directives_of list)
  unfolding level_covered minutes_covered included_found
  tables_found ok e =
      let d = a.directive in
      e
      ∙ of_same 128 (length rs) (contains a.selected) (selects rs d) _ _ given.few
      (λ x h. selects_own rs given.own given.few x ∙ selects_cut x)
      (λ x hx _.
      of_same 16 16 (from_origin d) (from_origin d) _ _ (omega arith) (λ o h. rw (lt-ltb o 16 h))
      (λ o ho to.
      of_same 11 11 (for_purpose d) (for_purpose d) _ _ (omega arith) (λ u h. rw (lt-ltb u 11 h))
      (λ u hu tu.
      of_same 16 (length roles) (λ r. bit r t.roles) (stands_for roles d.subject d.subject) _ _ few_roles role_bit
      (λ r hr tr.
      let narrowed =
      bit_and
      (bit_and (bit_and (mask_of ok x) (get_or t.by_origin o 0)) (get_or t.by_purpose u 0))
      (get_or t.by_role r 0) in
      let r_in : r < 16 = omega arith in
      ap (all_in (λ m. not (eqb (bit_and narrowed m) 0))) is.minutes
      ∙ spanned (in_minutes (start clock d) d.until) _ (covered_at (holding roles rs) ok d (directives_of list) x o u r)
      (minute_mask (entries_of list))
      (λ m. masks_meet ok x o u r m (ho, to) (omega arith, tu) (r_in, role_bit r r_in ∙ rw (lt-ltb r (length roles) hr, tr)))
      (boundaries_of (start clock d) (entries_of list))
      ∙ ap (all_in _) (ap (λ ms. start clock d ∷ ms) (sym (map-map (λ (e : Directive). e.until) (λ (b : Active). b.directive) (entries_of list))))))))

  -- so the tables of a draft find whether it is redundant beside the directives of its effect
  pub redundant_by_tables :
      {b : Bool} → b ≡ all_covered a (entries_of list) t → b ≡ redundant_found (holding roles rs) clock a.directive (directives_of list)
  unfolding all_covered
  redundant_by_tables e = tables_found (same_effect a.directive) e
