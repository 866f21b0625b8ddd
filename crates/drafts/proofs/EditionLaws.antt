-- Laws of the 25 bytes that the 23 bytes of edition 1 stand for: the numbers before the purposes, the purposes, and the numbers after them.
use Prim.Native.Nat.{ℕ, ◌+◌, ◌-◌, ◌≤◌}
use mathlib.Core.Path.{◌≡◌, sym, ap, ◌∙◌}
use mathlib.Core.List.{List, ◌++◌}
use native.Mathlib.Omega.{arith}
use lib.Dec.{lit≤}
use lib.ListN.{length, take, drop, length-append, take-append-drop}
use lib.Seq.{length-take-le, drop-drop}
use Rattle.sets.specs.Numbers.{number_from, number_at, bytes}
use Rattle.sets.proofs.Numbers.{length_bytes, number_at_left, number_at_right}
use Rattle.drafts.specs.Form.{every_purpose, first_edition_size, numbers_of, draft_of, with_purposes}

module _ (s : List ℕ) (h : length s ≡ first_edition_size) where
  fifteen : length (take 15 s) ≡ 15
  fifteen = length-take-le 15 s (omega arith)

  seventeen : length (take 15 s ++ bytes 2 every_purpose) ≡ 17
  seventeen = rw (length-append, fifteen, length_bytes)

  before_purposes : (i n : ℕ) → i + n ≤ 15 → number_at i n (with_purposes s) ≡ number_at i n s
  unfolding with_purposes
  before_purposes i n l =
      number_at_left i n (take 15 s ++ bytes 2 every_purpose) (drop 15 s) (omega (arith, seventeen))
      ∙ number_at_left i n (take 15 s) (bytes 2 every_purpose) (omega (arith, fifteen))
      ∙ sym (number_at_left i n (take 15 s) (drop 15 s) (omega (arith, fifteen)))
      ∙ ap (number_at i n) (take-append-drop 15 s)

  at_purposes : number_at 15 2 (with_purposes s) ≡ every_purpose
  unfolding with_purposes bytes number_from
  at_purposes =
      number_at_left 15 2 (take 15 s ++ bytes 2 every_purpose) (drop 15 s) (omega (arith, seventeen))
      ∙ number_at_right 15 2 (take 15 s) (bytes 2 every_purpose) (omega (arith, fifteen))
      ∙ rw fifteen

  after_purposes : (i n : ℕ) → number_at (17 + i) n (with_purposes s) ≡ number_at (15 + i) n s
  unfolding with_purposes
  after_purposes i n =
      let front = take 15 s ++ bytes 2 every_purpose in
      let e : 17 + i - length front ≡ i = omega (arith, seventeen) in
      number_at_right (17 + i) n front (drop 15 s) (omega (arith, seventeen)) ∙ rw (e, drop-drop i 15 s)

  -- edition 1 means every purpose
  pub edition_one : draft_of (with_purposes s) ≡ numbers_of every_purpose 15 s
  unfolding numbers_of draft_of
  edition_one =
      rw (
        before_purposes 0 2 (lit≤ tt),
        before_purposes 2 1 (lit≤ tt),
        before_purposes 3 1 (lit≤ tt),
        before_purposes 4 2 (lit≤ tt),
        before_purposes 6 2 (lit≤ tt),
        before_purposes 8 1 (lit≤ tt),
        before_purposes 9 1 (lit≤ tt),
        before_purposes 10 2 (lit≤ tt),
        before_purposes 12 2 (lit≤ tt),
        before_purposes 14 1 (lit≤ tt),
        at_purposes,
        after_purposes 0 4,
        after_purposes 4 4,
      )
