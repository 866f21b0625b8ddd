-- What stands in a buffer that was filled from an input whose bytes are known.
use Rattle.std.proofs.Common.{ℕ, ◌≤◌, ◌<◌, ◌≡◌, ◌++◌, List, length, take, Option, None, Some, IfSome, arith, subst, sym, ap, ◌∙◌, ⊎_elim, append-nil}
use Rattle.std.proofs.lemmas.List.{take_all, take-append-le, length-take-le}
use Rattle.std.proofs.lemmas.Bool.{cases_lt}
use Rattle.std.specs.Io.KnownBytes.{Consumes, IsAtEnd}

-- what stands at the start of the buffer is the start of the input, which has no more where the buffer is not full
pub first_bytes :
    (most : ℕ) (before after : Option (List ℕ)) (n : ℕ) (buffer : List ℕ) (P : List ℕ → Type 0) →
    length buffer ≡ most → n ≤ length buffer → Consumes before after (take n buffer) → (n < length buffer → IsAtEnd after) →
    P (take n buffer) → IfSome before (λ bytes. P (take most bytes))
first_bytes most None after n buffer P all fits taken ended holds = tt
first_bytes most (Some xs) None n buffer P all fits taken ended holds = absurd taken
first_bytes most (Some xs) (Some ys) n buffer P all fits taken ended holds =
    let size = length-take-le n buffer fits in
    let kept : take most (take n buffer) ≡ take n buffer = take_all _ _ (omega arith) in
    let short : n < length buffer → take most xs ≡ take n buffer =
    λ h. ap (take most) (taken ∙ ap (λ l. take n buffer ++ l) (ended h) ∙ append-nil _) ∙ kept in
    let full : length buffer ≤ n → take most xs ≡ take n buffer =
    λ h. ap (take most) taken ∙ take-append-le most (take n buffer) ys (omega arith) ∙ kept in
    subst P (sym (⊎_elim short full (cases_lt n (length buffer)))) holds
