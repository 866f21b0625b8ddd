-- Laws of bytes that are put into a buffer, a part at once or one after another: numbers, any bytes, and the fields of a list's elements.
use Prim.Native.Nat.{ℕ, suc, ◌+◌, ◌-◌, ◌*◌, ◌≤◌, ◌<◌}
use mathlib.Core.Path.{◌≡◌, refl, ap, ◌∙◌}
use mathlib.Core.Bool.{true}
use mathlib.Core.List.{List, [], ◌∷◌, ◌++◌, append_assoc, append-nil}
use native.Mathlib.Nat.{add-zero, add-suc, suc-add, mul-zero, mul-one, mul-add}
use native.Mathlib.Numerals.{add-one}
use native.Mathlib.Omega.{arith}
use borrow.Rule.Slice.PartMut.{put_mid}
use lib.ListN.{length, take, get_or, set, length-append}
use lib.Seq.{sets, sets-eq, set_comm, length-sets, take-suc, drop-drop}
use Rattle.sets.specs.Quantifiers.{all_in}
use Rattle.sets.specs.Numbers.{bytes, is_bytes}
use Rattle.sets.proofs.Lists.{all_append}
use Rattle.sets.proofs.Numbers.{length_bytes}

-- a run of stores after a run of stores
sets_append :
    {A : Type 0} (l : List A) (i : ℕ) (vs ws : List A) →
    sets (sets l i vs) (i + length vs) ws ≡ sets l i (vs ++ ws)
sets_append l i [] ws = rw add-zero
sets_append l i (v ∷ vs) ws = rw (add-suc, ← (suc-add i (length vs))) (sets_append (set l i v) (suc i) vs ws)

-- the last element may be stored first
pub sets_last :
    {A : Type 0} (vs : List A) (s : List A) (i : ℕ) (a : A) →
    sets (set s (i + length vs) a) i vs ≡ sets s i (vs ++ (a ∷ []))
sets_last [] s i a = rw add-zero
sets_last (v ∷ vs) s i a =
    rw (set_comm s (i + suc (length vs)) i a v (λ e. omega arith), add-suc, ← (suc-add i (length vs)))
    (sets_last vs (set s i v) (suc i) a)

-- the bytes that are copied into a part of s
pub put_part :
    (s v : List ℕ) (i e : ℕ) → e ≡ i + length v → e ≤ length s → put_mid i (e - i) s v ≡ sets s i v
put_part s v i e long fits =
    let size : e - i ≡ length v = omega arith in
    rw (sets-eq v s i (omega arith), size, drop-drop (length v) i s, append_assoc (take i s) v _)

-- t is s with the n bytes b from place i on
pub record Put (s : List ℕ) (i : ℕ) (b : List ℕ) (n : ℕ) (t : List ℕ) : Type 0 where
  pub stored : t ≡ sets s i b
  pub long : length b ≡ n

pub put_first : {s t : List ℕ} (i k v : ℕ) → t ≡ sets s i (bytes k v) → Put s i (bytes k v) k t
put_first i k v e = record { stored = e; long = length_bytes k v }

-- any bytes after them, and a number's
pub put_more :
    {s t u b : List ℕ} {i n : ℕ} (v : List ℕ) →
    Put s i b n t → u ≡ sets t (i + n) v → Put s i (b ++ v) (n + length v) u
put_more {s} {b} {i} v p e =
    record {
      stored = e ∙ rw (p.stored, ← p.long) (sets_append s i b v);
      long = rw (length-append, p.long);
    }

pub put_next :
    {s t u b : List ℕ} {i n : ℕ} (k v : ℕ) →
    Put s i b n t → u ≡ sets t (i + n) (bytes k v) → Put s i (b ++ bytes k v) (n + k) u
put_next k v p e = rw (length_bytes k v) at (put_more (bytes k v) p e)

-- the fields of a list: those of its elements, one after another
pub record OneEach {A : Type 0} (fields : List A → List ℕ) (one : A → List ℕ) : Type 0 where
  pub none : fields [] ≡ []
  pub more : (a : A) (l : List A) → fields (a ∷ l) ≡ one a ++ fields l

pub one_a_byte : OneEach {A = ℕ} (λ l. l) (λ b. b ∷ [])
one_a_byte = record { none = refl; more = λ b l. refl }

-- t is s with the fields of the first k of n elements of l from place i on, m bytes each
pub record Filled {A : Type 0} (fields : List A → List ℕ) (m : ℕ) (l : List A) (n : ℕ) (s : List ℕ) (i k : ℕ) (t : List ℕ) : Type 0 where
  pub held : n ≤ length l
  pub up_to : k ≤ n
  pub put : Put s i (fields (take k l)) (m * k) t
  pub kept : length t ≡ length s

module _ {A : Type 0} {fields : List A → List ℕ} {one : A → List ℕ} (each : OneEach fields one) where
  pub fields_snoc : (l : List A) (a : A) → fields (l ++ (a ∷ [])) ≡ fields l ++ one a
  fields_snoc [] a = rw (each.more, each.none, append-nil)
  fields_snoc (x ∷ l) a = rw (each.more x (l ++ (a ∷ [])), each.more x l, fields_snoc l a, append_assoc)

  pub fields_length : (m : ℕ) → ((a : A) → length (one a) ≡ m) → (l : List A) → length (fields l) ≡ m * length l
  fields_length m f [] = rw each.none (omega arith)
  fields_length m f (a ∷ l) = rw (each.more, length-append, f a, fields_length m f l) (omega arith)

  pub fields_bytes : ((a : A) → is_bytes (one a) ≡ true) → (l : List A) → is_bytes (fields l) ≡ true
  unfolding all_in
  fields_bytes f [] = rw each.none
  fields_bytes f (a ∷ l) = rw (each.more, all_append, f a, fields_bytes f l)

  pub filled_none :
      {m : ℕ} (l : List A) (n : ℕ) → n ≤ length l → (s : List ℕ) (i : ℕ) → Filled fields m l n s i 0 s
  filled_none {m} l n h s i =
      record {
        held = h;
        up_to = omega arith;
        put = record { stored = rw each.none; long = rw (each.none, mul-zero m) };
        kept = refl;
      }

  -- the next field stands after the k before
  pub filled_next :
      {l : List A} {m n : ℕ} {s t u : List ℕ} {i k : ℕ} → ((a : A) → length (one a) ≡ m) → (d : A) →
      Filled fields m l n s i k t → k < n → u ≡ sets t (i + m * k) (one (get_or l k d)) →
      Filled fields m l n s i (k + 1) u
  filled_next {l} {m} {t} {i} {k} size d p h e =
      let a = get_or l k d in
      record {
        held = p.held;
        up_to = omega arith;
        put =
            rw (mul-add, mul-one, add-one k, take-suc l k d (omega (arith, p.held)), fields_snoc)
            (rw (size a) at (put_more (one a) p.put e));
        kept = ap length e ∙ length-sets t (i + m * k) (one a) ∙ p.kept;
      }

pub filled_all :
    {A : Type 0} {fields : List A → List ℕ} {m : ℕ} {l : List A} {n : ℕ} {s t : List ℕ} {i k : ℕ} →
    Filled fields m l n s i k t → n ≤ k → Put s i (fields (take n l)) (m * n) t
filled_all {n} {k} p h =
    let e : k ≡ n = omega (arith, p.up_to) in
    rw e at p.put
