-- No request from the clock on is matched by both a permit and a deny among the active of a sound model.
use mathlib.Core.Path.{◌≡◌, ap, ◌∙◌}
use mathlib.Core.Bool.{true, false, not}
use mathlib.Core.Logic.{⊎_elim}
use mathlib.Core.List.{Memᴰ}
use borrow.Author.Tests.{not-true}
use Rattle.sets.proofs.Quantifiers.{both_ways}
use Rattle.sets.proofs.Lists.{pairwise_at}
use Rattle.directive.specs.declared.Directive.{Directive}
use Rattle.directive.specs.declared.Request.{Request}
use Rattle.directive.specs.Matching.{matches}
use Rattle.validation_meaning.specs.Requests.{InRange}
use Rattle.validation_meaning.specs.Meaning.{conflict}
use Rattle.validation_meaning.proofs.ConflictLaws.{conflict_make, conflict_sym}
use Rattle.ledger_model.specs.Model.{Model}
use Rattle.ledger_model.specs.Invariant.{ModelInvariant}

pub no_clash_at :
    (m : Model) → ModelInvariant m → (d e : Directive) → Memᴰ d m.active → Memᴰ e m.active →
    d.permit ≡ true → e.permit ≡ false → (q : Request) → InRange m.register m.clock q →
    matches m.register d q ≡ true → matches m.register e q ≡ true → ⊥
no_clash_at m h d e i j permit deny q range by_d by_e =
    let clash = conflict m.register m.clock in
    let back = conflict_sym m.register m.clock in
    ⊎_elim
    (λ same. both_ways permit (ap (λ a. a.permit) same ∙ deny))
    (λ apart.
    both_ways
    (conflict_make m.register m.clock d e (rw (permit, deny))
    (record { common = q; in_range = range; by_first = by_d; by_second = by_e }))
    (not-true (clash d e) apart))
    (pairwise_at (λ d e. not (clash d e)) (λ d e. ap not (back d e)) m.active h.no_clash d e i j)
