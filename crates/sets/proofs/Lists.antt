-- Laws of a list of no elements, of a count past a list's end and of a list's images. Laws of tests over lists: of the parts of a
-- list, of its places, of one element more, of negation, of any two elements, and of two tests that agree on its elements.
use Prim.Native.Nat.{ℕ, zero, suc, ◌<◌}
use mathlib.Core.Path.{◌≡◌, refl, ap, sym, ◌∙◌}
use mathlib.Core.Bool.{Bool, true, false, ◌&&◌, ◌||◌, not, and-true, and_assoc, and_comm, or-false, or_assoc}
use mathlib.Core.Logic.{◌⊎◌, inl, inr}
use mathlib.Core.List.Memᴰ
use mathlib.Core.List.{List, [], ◌∷◌, ◌++◌, map, Memᴰ}
use native.Mathlib.Omega.{arith}
use borrow.Author.Tests.{not-true}
use lib.ListN.{length, get_or, take, drop, take-append-drop}
use Rattle.sets.specs.Quantifiers.{all_in, some_in, keep, pairwise}
use Rattle.sets.proofs.Quantifiers.{and_both, every_list}

module _ {A : Type 0} where
  pub none_in : (l : List A) → length l ≡ 0 → l ≡ []
  none_in [] e = refl
  none_in (a ∷ l) e = absurd (omega arith)

  -- a count past the end takes what is there, and leaves nothing
  pub take_held : (n : ℕ) (l : List A) → take (length (take n l)) l ≡ take n l
  take_held zero l = refl
  take_held (suc n) [] = refl
  take_held (suc n) (x ∷ l) = ap (λ r. x ∷ r) (take_held n l)

  pub drop_held : (n : ℕ) (l : List A) → drop (length (take n l)) l ≡ drop n l
  drop_held zero l = refl
  drop_held (suc n) [] = refl
  drop_held (suc n) (x ∷ l) = drop_held n l

-- place i of a list's images, whatever stands past its end
pub map_at :
    {A B : Type 0} (f : A → B) (l : List A) (i : ℕ) (d : A) (e : B) → i < length l → get_or (map f l) i e ≡ f (get_or l i d)
map_at f [] i d e h = absurd (omega arith)
map_at f (x ∷ l) zero d e h = refl
map_at f (x ∷ l) (suc i) d e h = map_at f l i d e (omega arith)

-- a test of some of a list's images
pub some_map : {A B : Type 0} (f : A → B) (p : B → Bool) (l : List A) → some_in p (map f l) ≡ some_in (λ a. p (f a)) l
unfolding some_in
some_map f p [] = refl
some_map f p (x ∷ l) = rw (some_map f p l)

module _ {A : Type 0} (p : A → Bool) where
  pub all_append : (s t : List A) → all_in p (s ++ t) ≡ all_in p s && all_in p t
  unfolding all_in
  all_append [] t = refl
  all_append (a ∷ s) t = rw (all_append s t, and_assoc (p a) (all_in p s) (all_in p t))

  pub all_snoc : (l : List A) (a : A) → all_in p l ≡ true → p a ≡ true → all_in p (l ++ (a ∷ [])) ≡ true
  unfolding all_in
  all_snoc l a e t = rw (all_append l (a ∷ []), e, t)

  -- what holds of a whole list holds of its first n elements, and of the others
  all_parts : (n : ℕ) (s : List A) → all_in p s ≡ true → (all_in p (take n s) ≡ true) × (all_in p (drop n s) ≡ true)
  all_parts n s e =
      and_both (all_in p (take n s)) _ (sym (all_append (take n s) (drop n s)) ∙ ap (all_in p) (take-append-drop n s) ∙ e)

  pub all_take : (n : ℕ) (s : List A) → all_in p s ≡ true → all_in p (take n s) ≡ true
  all_take n s e = (all_parts n s e).0

  pub all_drop : (n : ℕ) (s : List A) → all_in p s ≡ true → all_in p (drop n s) ≡ true
  all_drop n s e = (all_parts n s e).1

  -- what holds at each place holds of the list
  pub all_places : (d : A) (l : List A) → ((k : ℕ) → k < length l → p (get_or l k d) ≡ true) → all_in p l ≡ true
  unfolding all_in
  all_places d [] f = refl
  all_places d (x ∷ l) f = rw (f 0 (omega arith), all_places d l (λ k h. f (suc k) (omega arith)))

  -- none passes where each fails
  pub all_not : (l : List A) → all_in (λ a. not (p a)) l ≡ not (some_in p l)
  unfolding all_in some_in
  all_not [] = refl
  all_not (a ∷ l) =
      rw (all_not l) (elim (p a) as (λ b. not b && not (some_in p l) ≡ not (b || some_in p l)) [ true ↦ refl | false ↦ refl ])

  pub some_snoc : (l : List A) (a : A) → some_in p (l ++ (a ∷ [])) ≡ some_in p l || p a
  unfolding some_in
  some_snoc [] a = or-false (p a)
  some_snoc (x ∷ l) a = rw (some_snoc l a, or_assoc (p x) (some_in p l) (p a))

pub and_middle : (a b c d : Bool) → a && b && (c && d) ≡ a && c && (b && d)
and_middle true b c d = rw (← and_assoc b c d, and_comm b c, and_assoc c b d)
and_middle false b c d = refl

-- with one element more
pub pairwise_snoc :
    {A : Type 0} (r : A → A → Bool) (l : List A) (a : A) →
    pairwise r (l ++ (a ∷ [])) ≡ pairwise r l && all_in (λ x. r x a) l
unfolding all_in pairwise
pairwise_snoc r [] a = refl
pairwise_snoc r (x ∷ l) a =
    rw (all_append (r x) l (a ∷ []), pairwise_snoc r l a, and-true (r x a))
    (and_middle (all_in (r x) l) (r x a) (pairwise r l) (all_in (λ x. r x a) l))

-- where no earlier one is in the relation r to it
pub apart_snoc :
    {A : Type 0} (r : A → A → Bool) (l : List A) (a : A) →
    pairwise (λ x y. not (r x y)) l ≡ true → some_in (λ x. r x a) l ≡ false →
    pairwise (λ x y. not (r x y)) (l ++ (a ∷ [])) ≡ true
apart_snoc r l a e t = rw (pairwise_snoc (λ x y. not (r x y)) l a, e, all_not (λ x. r x a) l, t)

-- where no two are in the relation r, none before an element is in it to that one
pub apart_before :
    {A : Type 0} (r : A → A → Bool) (l : List A) (a : A) (after : List A) →
    pairwise (λ x y. not (r x y)) (l ++ a ∷ after) ≡ true → some_in (λ x. r x a) l ≡ false
unfolding some_in pairwise
apart_before r [] a after e = refl
apart_before r (x ∷ l) a after e =
    let (here, rest) = and_both (all_in (λ y. not (r x y)) (l ++ a ∷ after)) _ e in
    let apart = (every_list (l ++ a ∷ after)).read (λ y. not (r x y)) here a (Memᴰ.append_right l (Memᴰ.head refl)) in
    rw (not-true (r x a) apart, apart_before r l a after rest)

-- any two elements are one, or in the relation
pub pairwise_at :
    {A : Type 0} (r : A → A → Bool) → ((a b : A) → r a b ≡ r b a) → (l : List A) → pairwise r l ≡ true →
    (a b : A) → Memᴰ a l → Memᴰ b l → (a ≡ b) ⊎ (r a b ≡ true)
unfolding pairwise
pairwise_at r back [] e a b i _ = elim i [ ]
pairwise_at r back (x ∷ l) e a b (Memᴰ.head i) (Memᴰ.head j) = inl (i ∙ sym j)
pairwise_at r back (x ∷ l) e a b (Memᴰ.head i) (Memᴰ.tail j) =
    inr (rw i ((every_list l).read (r x) (and_both (all_in (r x) l) _ e).0 b j))
pairwise_at r back (x ∷ l) e a b (Memᴰ.tail i) (Memᴰ.head j) =
    inr (rw (back a b, j) ((every_list l).read (r x) (and_both (all_in (r x) l) _ e).0 a i))
pairwise_at r back (x ∷ l) e a b (Memᴰ.tail i) (Memᴰ.tail j) =
    pairwise_at r back l (and_both (all_in (r x) l) _ e).1 a b i j

module _ {A : Type 0} (p q : A → Bool) where
  pub some_alike : (l : List A) → ((a : A) → Memᴰ a l → p a ≡ q a) → some_in p l ≡ some_in q l
  unfolding some_in
  some_alike [] f = refl
  some_alike (x ∷ l) f = rw (f x (Memᴰ.head refl), some_alike l (λ a m. f a (Memᴰ.tail m)))

  pub keep_alike : (l : List A) → ((a : A) → Memᴰ a l → p a ≡ q a) → keep p l ≡ keep q l
  unfolding keep
  keep_alike [] f = refl
  keep_alike (x ∷ l) f = rw (f x (Memᴰ.head refl), keep_alike l (λ a m. f a (Memᴰ.tail m)))
