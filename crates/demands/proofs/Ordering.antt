-- Compatible drafts, committed in any two orders on a ledger that keeps the invariant, leave every decide call the same effect
-- and basis, now and after the same advances.
use Prim.Native.Nat.{ℕ, ◌^◌, ◌<◌}
use mathlib.Core.Path.{◌≡◌, refl, sym, ap, ◌∙◌}
use mathlib.Core.Bool.{true}
use mathlib.Core.List.{List, [], ◌∷◌, map, Permᴰ}
use borrow.Author.Tests.{lt-ltb}
use lib.ListN.{take}
use Rattle.sets.specs.Quantifiers.{all_in}
use Rattle.sets.specs.Bits.{in_bits}
use Rattle.sets.specs.Numbers.{is_bytes}
use Rattle.directive.specs.declared.Query.{Query}
use Rattle.validation_meaning.specs.Requests.{persons}
use Rattle.ledger.specs.declared.Ledger.{Ledger}
use Rattle.ledger.specs.Answer.{DecideAnswer}
use Rattle.ledger.specs.State.{view}
use Rattle.ledger_model.specs.Answer.{Answer, values}
use Rattle.ledger_model.specs.Calls.{Call, commit, advance, decided, model_after}
use Rattle.ledger_model.specs.Compatible.{compatible}
use Rattle.ledger.specs.Invariant.{Invariant}
use Rattle.ledger.specs.Promises.{Decides}
use Rattle.ledger_model.proofs.Order.{order_model}
use Rattle.demands.specs.Runs.{Run, committing, advancing, more}
use Rattle.demands.specs.Demands.{effect_and_basis}
use Rattle.demands.proofs.Runs.{run_sound, run_model}

-- what is committed is bytes, and a minute is of 32 bits
pub drafts_bytes :
    {l m : Ledger} {rs : List Answer} (ss : List (List ℕ)) → Run l (map commit ss) rs m → all_in is_bytes ss ≡ true
unfolding all_in
drafts_bytes [] run = refl
drafts_bytes (s ∷ ss) (more (committing _ r e f) rest) = rw (e, drafts_bytes ss rest)

pub advanced_small :
    {l m : Ledger} {rs : List Answer} (minutes : List ℕ) → Run l (map advance minutes) rs m →
    all_in (in_bits 32) minutes ≡ true
unfolding all_in
advanced_small [] run = refl
advanced_small (t ∷ ts) (more (advancing _ r e f) rest) = rw (lt-ltb t (2 ^ 32) e, advanced_small ts rest)

-- what a decide tells after two lists of calls
pub told_after :
    {l m n : Ledger} {cs ds : List Call} {rs xs : List Answer} → Invariant l → Run l cs rs m → Run m ds xs n →
    (q : Query) (a : DecideAnswer) → Decides n q a →
    effect_and_basis a ≡ take 2 (values (decided (model_after (model_after (view l) cs) ds) q))
told_after {ds} h first second q a decides =
    let (_, between) = run_model h first in
    let k = run_sound h first in
    let (_, after) = run_model k second in
    let last = run_sound k second in
    ap (λ x. take 2 (values x)) (decides last ∙ ap (λ v. decided v q) (after ∙ ap (λ v. model_after v ds) between))

pub order_kept :
    (l : Ledger) → Invariant l → (ss ts : List (List ℕ)) (minutes : List ℕ) → compatible (view l) ss ≡ true → Permᴰ ss ts →
    (l₁ m₁ l₂ m₂ : Ledger) (rs₁ xs₁ rs₂ xs₂ : List Answer) →
    Run l (map commit ss) rs₁ l₁ → Run l₁ (map advance minutes) xs₁ m₁ →
    Run l (map commit ts) rs₂ l₂ → Run l₂ (map advance minutes) xs₂ m₂ →
    (q : Query) (a b : DecideAnswer) → q.requester.person < persons → Decides m₁ q a → Decides m₂ q b →
    effect_and_basis a ≡ effect_and_basis b
order_kept l h ss ts minutes beside other l₁ m₁ l₂ m₂ rs₁ xs₁ rs₂ xs₂ one then two later q a b person by_a by_b =
    told_after h one then q a by_a
    ∙ order_model (view l) h.model ss ts (drafts_bytes ss one) beside other minutes (advanced_small minutes then) q
    person
    ∙ sym (told_after h two later q b by_b)
