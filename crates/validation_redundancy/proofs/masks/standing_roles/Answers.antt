-- `masks::standing_roles` is the set of the roles that pass one test.
use borrow.Author.Rules.{rules}
use Rattle.validation_meaning.specs.Search.{stands_for}
use Rattle.validation_redundancy.proofs.masks.standing_roles.Goals as goal

pub returns-in-Person : goal.returns-in-Person
returns-in-Person c = c.set_where.ensures (stands_for c.args.parents.now c.args.s c.args.t) (λ r b h. search rules)
