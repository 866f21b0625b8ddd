-- `roles::covered_set` is the set of the roles that pass one test.
use borrow.Author.Rules.{rules}
use Rattle.register.specs.Roles.{covers}
use Rattle.register.proofs.roles.covered_set.Goals as goal

pub returns : goal.returns
returns c = c.set_where.ensures (covers c.args.parents.now c.args.r) (λ q b h. search rules)
