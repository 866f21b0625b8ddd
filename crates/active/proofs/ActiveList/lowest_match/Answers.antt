-- `ActiveList::lowest_match`: the test of an entry of the list is that of its directive.
use borrow.Author.Rules.{rules}
use Rattle.register.specs.Register.{holding}
use Rattle.directive.specs.Matching.{matches}
use Rattle.active.proofs.ListLaws.{selected_in}
use Rattle.active.proofs.ActiveList.lowest_match.Goals as goal

pub returns : goal.returns
returns c rs few held =
    let args = c.args in
    rw (← c.as_slice.ensures.value)
    (c.lowest_met.ensures (λ a. a.directive) (λ d. matches (holding args.parents.now rs) d args.q)
    (λ a r inside said.
    let own = selected_in args.self.now held (rw c.as_slice.ensures.value at inside) in
    search rules))
