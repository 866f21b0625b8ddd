-- A call of itself has a role of lower number.
use Rattle.register.proofs.roles.+covers.Given as goal

abbrev pub decreases-covers : goal.decreases-covers
decreases-covers l = l.q
