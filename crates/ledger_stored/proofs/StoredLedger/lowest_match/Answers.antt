-- `StoredLedger::lowest_match`: the test of a stored entry is that of the directive of the entry that it stands for.
use borrow.Author.Rules.{rules}
use Rattle.register.specs.Register.{holding}
use Rattle.directive.specs.Matching.{matches}
use Rattle.active.proofs.ListLaws.{selected_in}
use Rattle.ledger_stored.specs.Stored.{active_of, active_list}
use Rattle.ledger_stored.proofs.Entries.{directives_back, entry_back}
use Rattle.ledger_stored.proofs.StoredLedger.lowest_match.Goals as goal

pub returns : goal.returns
returns c rs few held =
    let args = c.args in
    let self = args.self.now in
    let are = c.entries.ensures in
    rw (← directives_back self are)
    (c.lowest_met.ensures (λ e. (active_of e).directive) (λ d. matches (holding args.parents.now rs) d args.q)
    (λ e r inside said.
    let own = selected_in (active_list self) held (entry_back self are inside) in
    search rules))
