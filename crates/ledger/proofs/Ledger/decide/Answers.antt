-- `Ledger::decide`: the directives that match are those of the active list.
use mathlib.Core.Path.{◌≡◌, refl}
use borrow.Author.Rules.{rules}
use Rattle.sets.specs.Quantifiers.{keep}
use Rattle.register.specs.Register.{holding}
use Rattle.directive.specs.Matching.{matches, request_at}
use Rattle.directive.specs.Lowest.{best_of}
use Rattle.ledger.specs.State.{view}
use Rattle.ledger.proofs.CallLaws.{records_few}
use Rattle.ledger.proofs.Ledger.decide.Goals as goal

pub returns : goal.returns
returns c invariant =
    let l = c.args.self.now in
    let m = view l in
    c.decide_by.ensures.decision m refl refl
    (λ best said.
    let few = records_few invariant.shape in
    let held = invariant.shape.active_held in
    let found : best ≡ best_of (keep (λ d. matches (holding c.roles-roles.result.now m.register.records) d (request_at c.args.q l.clock)) m.active) =
    search rules in
    rw c.roles-roles.ensures.value at found)
