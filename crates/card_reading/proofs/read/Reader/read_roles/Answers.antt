-- `Reader::read_roles`: the ledger, which has no roles yet, puts question 4.
use mathlib.Core.Path.{refl}
use borrow.Author.Tests.{eqb-true, leb-true}
use lib.ListN.{length}
use Rattle.std.specs.Prelude.{Ok, Err}
use Rattle.std.proofs.lemmas.Result.{err_from_is_err_and}
use Rattle.sets.proofs.Quantifiers.{and_left, and_right}
use Rattle.ledger_model.specs.Questions.{first_no}
use Rattle.card_reading.proofs.ReaderLaws.{enrols}
use Rattle.card_reading.proofs.read.Reader.read_roles.Goals as goal

pub enrol_roles-requires : goal.enrol_roles-requires
enrol_roles-requires c =
    (leb-true (length c.args.v.now) 16 (search (and_left, and_right)), eqb-true _ 0 (search (and_left, and_right)))

pub returns-in_err-enrol_roles : goal.returns-in_err-enrol_roles
unfolding first_no
returns-in_err-enrol_roles c invariant =
    let p = err_from_is_err_and c.from_residual.result c.from_residual.ensures.1 in
    rw (p.1, p.2) (enrols (Err _) (c.in_err-enrol_roles.ensures invariant) (rw c.requires) refl)

pub returns : goal.returns
unfolding first_no
returns c invariant = enrols (Ok _) (c.in_ok-enrol_roles.ensures invariant) (rw c.requires) refl
