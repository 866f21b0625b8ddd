-- Laws of `keep` and `count_in`: what passes stays, what does not pass leaves the list shorter, and what held of the elements
-- still holds.
use Prim.Native.Nat.{ℕ, suc, ◌+◌, ◌<◌, ◌≤◌}
use mathlib.Core.Path.{◌≡◌, refl}
use mathlib.Core.Bool.{Bool, true, false, not}
use mathlib.Core.Logic.{⊎_elim}
use mathlib.Core.List.{List, [], ◌∷◌, ◌++◌, map, append-nil, Memᴰ}
use native.Mathlib.Numerals.{add-one}
use native.Mathlib.Omega.{arith}
use lib.ListN.{length, get_or, take}
use lib.Seq.{take-suc}
use Rattle.sets.specs.Quantifiers.{pick, one_if, all_in, some_in, keep, count_in, pairwise}
use Rattle.sets.proofs.Quantifiers.{either_way, both_ways, never_true, and_both, every_list, some_list}

one_more : {A : Type 0} (b : Bool) (x : A) (l : List A) → length (pick b (x ∷ l) l) ≤ suc (length l)
one_more true x l = omega arith
one_more false x l = omega arith

module _ {A : Type 0} (p : A → Bool) where
  pub keep_short : (l : List A) → length (keep p l) ≤ length l
  unfolding keep
  keep_short [] = omega arith
  keep_short (x ∷ l) = omega (arith, one_more (p x) x (keep p l), keep_short l)

  pub keep_shorter : (l : List A) (a : A) → Memᴰ a l → p a ≡ false → length (keep p l) < length l
  unfolding keep
  keep_shorter [] a m e = elim m [ ]
  keep_shorter (x ∷ l) a (Memᴰ.head q) e = rw (← q, e) (omega (arith, keep_short l))
  keep_shorter (x ∷ l) a (Memᴰ.tail m) e = omega (arith, one_more (p x) x (keep p l), keep_shorter l a m e)

  pub mem_keep : (l : List A) (a : A) → Memᴰ a l → p a ≡ true → Memᴰ a (keep p l)
  unfolding keep
  mem_keep [] a m e = elim m [ ]
  mem_keep (x ∷ l) a (Memᴰ.head q) e = rw (← q, e) (Memᴰ.head refl)
  mem_keep (x ∷ l) a (Memᴰ.tail m) e =
      elim (p x) as (λ b. Memᴰ a (pick b (x ∷ keep p l) (keep p l))) [
        | true ↦ Memᴰ.tail (mem_keep l a m e)
        | false ↦ mem_keep l a m e
      ]

  -- where all pass, all stay
  pub keep_all : (l : List A) → all_in p l ≡ true → keep p l ≡ l
  unfolding all_in keep
  keep_all [] e = refl
  keep_all (x ∷ l) e = let (here, rest) = and_both (p x) _ e in rw (here, keep_all l rest)

  pub all_keep :
      (q r : A → Bool) → ((a : A) → p a ≡ true → q a ≡ true → r a ≡ true) →
      (l : List A) → all_in q l ≡ true → all_in r (keep p l) ≡ true
  unfolding all_in keep
  all_keep q r f [] e = refl
  all_keep q r f (x ∷ l) e =
      let (here, rest) = and_both (q x) _ e in
      let kept = all_keep q r f l rest in
      ⊎_elim
      (λ (t : p x ≡ true). rw (t, f x t here, kept))
      (λ (t : p x ≡ false). rw (t, kept))
      (either_way (p x))

  pub some_keep :
      (q : A → Bool) → ((a : A) → q a ≡ true → p a ≡ true) → (l : List A) → some_in q (keep p l) ≡ some_in q l
  unfolding some_in keep
  some_keep q f [] = refl
  some_keep q f (x ∷ l) =
      let kept = some_keep q f l in
      ⊎_elim
      (λ (t : p x ≡ true). rw (t, kept))
      (λ (t : p x ≡ false). rw (t, kept, never_true (q x) (λ u. both_ways (f x u) t)))
      (either_way (p x))

  pub pairwise_keep :
      (q r : A → A → Bool) → ((a b : A) → q a b ≡ true → r a b ≡ true) →
      (l : List A) → pairwise q l ≡ true → pairwise r (keep p l) ≡ true
  unfolding keep pairwise
  pairwise_keep q r f [] e = refl
  pairwise_keep q r f (x ∷ l) e =
      let (here, rest) = and_both (all_in (q x) l) _ e in
      let kept = pairwise_keep q r f l rest in
      ⊎_elim
      (λ (t : p x ≡ true). rw (t, all_keep (q x) (r x) (λ b _. f x b) l here, kept))
      (λ (t : p x ≡ false). rw (t, kept))
      (either_way (p x))

  pub count_keep : (l : List A) → count_in p l + length (keep (λ a. not (p a)) l) ≡ length l
  unfolding keep count_in
  count_keep [] = refl
  count_keep (x ∷ l) =
      let rest = keep (λ a. not (p a)) l in
      elim (p x) as (λ b. one_if b + count_in p l + length (pick (not b) (x ∷ rest) rest) ≡ suc (length l)) [
        | true ↦ omega (arith, count_keep l)
        | false ↦ omega (arith, count_keep l)
      ]

  -- where r holds of any two elements, and of no two that pass, at most one passes
  pub count_once :
      (r : A → A → Bool) → ((a b : A) → p a ≡ true → p b ≡ true → r a b ≡ false) →
      (l : List A) → pairwise r l ≡ true → count_in p l ≡ one_if (some_in p l)
  unfolding all_in some_in count_in pairwise
  count_once r f [] e = refl
  count_once r f (x ∷ l) e =
      let (here, rest) = and_both (all_in (r x) l) _ e in
      let fewer = count_once r f l rest in
      ⊎_elim
      (λ (t : p x ≡ true).
      let others : some_in p l ≡ false = never_true (some_in p l) (λ u.
      let (a, m, v) = (some_list l).read p u in both_ways ((every_list l).read (r x) here a m) (f x a t v))
      in
      rw (t, fewer, others))
      (λ (t : p x ≡ false). rw (t, fewer) (omega arith))
      (either_way (p x))

-- what passes of two lists, and of the first elements of a list with one more
module _ {A : Type 0} (p : A → Bool) where
  keep_append : (s t : List A) → keep p (s ++ t) ≡ keep p s ++ keep p t
  unfolding keep
  keep_append [] t = refl
  keep_append (a ∷ s) t =
      ⊎_elim
      (λ (e : p a ≡ true). rw (e, keep_append s t))
      (λ (e : p a ≡ false). rw (e, keep_append s t))
      (either_way (p a))

  pub keep_snoc : (l : List A) (a : A) → keep p (l ++ (a ∷ [])) ≡ pick (p a) (keep p l ++ (a ∷ [])) (keep p l)
  unfolding keep
  keep_snoc l a =
      ⊎_elim
      (λ (e : p a ≡ true). rw (keep_append l (a ∷ []), e))
      (λ (e : p a ≡ false). rw (keep_append l (a ∷ []), e) (append-nil (keep p l)))
      (either_way (p a))

  pub keep_next :
      (l : List A) (i : ℕ) (d : A) → i < length l →
      keep p (take (i + 1) l) ≡ pick (p (get_or l i d)) (keep p (take i l) ++ (get_or l i d ∷ [])) (keep p (take i l))
  keep_next l i d h = rw (add-one, take-suc l i d) (keep_snoc (take i l) (get_or l i d))

-- what passes of a list's images
pub keep_map :
    {A B : Type 0} (f : A → B) (p : B → Bool) (l : List A) → keep p (map f l) ≡ map f (keep (λ a. p (f a)) l)
unfolding keep
keep_map f p [] = refl
keep_map f p (a ∷ l) =
    ⊎_elim
    (λ (e : p (f a) ≡ true). rw (e, keep_map f p l))
    (λ (e : p (f a) ≡ false). rw (e, keep_map f p l))
    (either_way (p (f a)))
