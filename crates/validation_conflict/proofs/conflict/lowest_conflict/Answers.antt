-- `conflict::lowest_conflict`: the test of an entry of the list is that of its directive.
use mathlib.Core.Path.{◌≡◌, sym, ap, ◌∙◌}
use mathlib.Core.List.{List}
use borrow.Author.Rules.{rules}
use Rattle.sets.specs.Quantifiers.{keep}
use Rattle.sets.proofs.Lists.{keep_alike}
use Rattle.register.specs.declared.Record.{Record}
use Rattle.register.specs.Register.{holding}
use Rattle.directive.specs.Lowest.{best_of}
use Rattle.active.specs.Active.{directives_of}
use Rattle.active.proofs.ListLaws.{selected_in}
use Rattle.validation_meaning.specs.Search.{conflict_found}
use Rattle.validation_meaning.proofs.Exact.{conflict_exact}
use Rattle.validation_conflict.specs.Given.{Given}
use Rattle.validation_conflict.proofs.conflict.lowest_conflict.Goals as goal

pub returns : goal.returns
returns c =
    let args = c.args in
    let d = args.a.now.directive in
    let l = args.list.now in
    let found :
    (rs : List Record) → Given rs args.a.now l →
    c.lowest_met.result ≡ best_of (keep (conflict_found (holding args.parents.now rs) args.clock d) (directives_of l)) =
    λ rs given. rw (← c.as_slice.ensures.value)
    (c.lowest_met.ensures (λ e. e.directive) (conflict_found (holding args.parents.now rs) args.clock d)
    (λ e r inside said.
    let own = selected_in l given.others (rw c.as_slice.ensures.value at inside) in
    search rules))
    in
    record {
      searched = found;
      meant = λ rs given a_role fit all_fit.
          found rs given
          ∙ ap best_of
          (sym
          (keep_alike _ _ (directives_of l)
          (λ e m. conflict_exact (holding args.parents.now rs) args.clock a_role d e fit (all_fit e m))));
    }
