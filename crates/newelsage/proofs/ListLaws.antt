-- A card and a whole list of calls through the library: by induction on the list.
use Prim.Native.Nat.{ℕ, suc}
use mathlib.Core.Path.{◌≡◌, refl, sym, ap, subst, ◌∙◌}
use mathlib.Core.List.{List, [], ◌∷◌}
use native.Mathlib.Omega.{arith}
use lib.ListN.{length, take, drop, get_or}
use Rattle.ledger_model.specs.Model.{Model}
use Rattle.ledger.specs.declared.Ledger.{Ledger}
use Rattle.ledger.specs.State.{view}
use Rattle.ledger.specs.Invariant.{Invariant}
use Rattle.ledger_stored.specs.declared.StoredLedger.{StoredLedger}
use Rattle.ledger_stored.specs.Stored.{stored_of}
use Rattle.replay_entries.specs.Entries.{Entry, call_entry, said_to}
use Rattle.newelsage.specs.Answers.{Told, told, Holds, Answered, told_said}
use Rattle.newelsage.specs.Lists.{Made, none, more, book_tells, book_after, KeptBy, WholeLists}

-- an answer tells one thing
tells : (answer : List ℕ) (k : Told) → Holds answer k → k ≡ told (get_or answer 0 0) (take (get_or answer 1 0) (drop 2 answer))
tells [] k e = absurd (let short : 0 ≡ suc (suc (length k.values)) = ap length e in omega arith)
tells (a ∷ []) k e = absurd (let short : 1 ≡ suc (suc (length k.values)) = ap length e in omega arith)
tells (a ∷ b ∷ rest) k e =
    let status : k.status ≡ a = sym (ap (λ (w : List ℕ). get_or w 0 0) e) in
    let count : length k.values ≡ b = sym (ap (λ (w : List ℕ). get_or w 1 0) e) in
    let values : k.values ≡ take b rest = sym (ap (drop 2) e) ∙ ap (λ (n : ℕ). take n rest) count in
    rw (status, values) refl

one_told : (status : ℕ) (answer : List ℕ) (j k : Told) → Answered status answer j → Answered status answer k → j ≡ k
one_told status answer j k by_j by_k = tells answer j by_j.answer ∙ sym (tells answer k by_k.answer)

kept : (l : Ledger) {t last : StoredLedger} {es : List Entry} {ks : List Told} → t ≡ stored_of l → Invariant l → Made t es ks last → KeptBy (view l) es ks last
kept l is invariant none = record { answers = refl; ledger = l; stored = is; book = refl; invariant = invariant }
kept l is invariant (more {es = es} {ks = ks} size tag v status answer k fits calls tells_k made) =
    let on = (calls.whole fits).ledger l is invariant in
    let rest = kept on.next on.stored on.invariant made in
    record {
      answers =
          ap (λ (x : Told). x ∷ ks) (one_told status answer k (told_said (said_to (view l) (call_entry tag v) [])) tells_k on.told)
          ∙ ap (λ (xs : List Told). told_said (said_to (view l) (call_entry tag v) []) ∷ xs) (rest.answers ∙ ap (λ (m : Model). book_tells m es) on.model);
      ledger = rest.ledger;
      stored = rest.stored;
      book = rest.book ∙ ap (λ (m : Model). book_after m es) on.model;
      invariant = rest.invariant;
    }

pub whole_lists : WholeLists
whole_lists t first last size card status answer es ks fits reads made =
    let on = reads.whole fits in
    subst (λ (m : Model). KeptBy m es ks last) on.model (kept on.next on.stored on.invariant made)
