-- `Reader::read_record`: question 3, and then the ledger, which has roles and no directives, puts question 4.
use mathlib.Core.Path.{◌≡◌, refl}
use borrow.Author.Tests.{eqb-true, lt-ltb, le-ltb}
use lib.ListN.{length}
use Rattle.std.specs.Prelude.{Ok, Err}
use Rattle.std.proofs.lemmas.Result.{err_from_is_err_and}
use Rattle.sets.proofs.Quantifiers.{and_left, and_right}
use Rattle.ledger.specs.State.{view}
use Rattle.ledger_model.specs.Questions.{first_no}
use Rattle.card.specs.declared.ReadRefusal.TheVariants.{TooManyRecords}
use Rattle.card.proofs.ReadSound.{some_in_lem}
use Rattle.card_reading.proofs.ReaderLaws.{refuses, enrols}
use Rattle.card_reading.proofs.read.Reader.read_record.Goals.{After-records}
use Rattle.card_reading.proofs.read.Reader.read_record.Goals as goal

-- how many records there are
counted : (c : After-records) → length c.records.result.now ≡ length (view c.args.self.now.ledger).register.records
counted c = rw (c.records.ensures.value, c.register.ensures)

pub returns-then-records-ge-RECORDS : goal.returns-then-records-ge-RECORDS
unfolding first_no
returns-then-records-ge-RECORDS c invariant =
    let many = rw (counted (goal.at.returns-then-records-ge-RECORDS c).After-records) at c.if-records-ge-RECORDS.true in
    refuses TooManyRecords invariant (rw (c.requires, le-ltb _ 128 many))

pub enrol_record-requires : goal.enrol_record-requires
enrol_record-requires c =
    let ledger = c.args.self.now.ledger in
    let few = rw (counted (goal.at.enrol_record-requires c).After-records) at c.if-records-ge-RECORDS.false in
    (few, some_in_lem (view ledger).register.roles (search and_left), eqb-true _ 0 (search (and_left, and_right)))

pub returns-in_err-enrol_record : goal.returns-in_err-enrol_record
unfolding first_no
returns-in_err-enrol_record c invariant =
    let p = err_from_is_err_and c.from_residual.result c.from_residual.ensures.1 in
    let few = rw (counted (goal.at.returns-in_err-enrol_record c).After-records) at c.if-records-ge-RECORDS.false in
    rw (p.1, p.2)
    (enrols (Err _) (rw c.from_bytes.ensures at (c.in_err-enrol_record.ensures invariant))
    (rw (c.requires, lt-ltb _ 128 few)) refl)

pub returns : goal.returns
unfolding first_no
returns c invariant =
    let few = rw (counted (goal.at.returns c).After-records) at c.if-records-ge-RECORDS.false in
    enrols (Ok _) (rw c.from_bytes.ensures at (c.in_ok-enrol_record.ensures invariant))
    (rw (c.requires, lt-ltb _ 128 few)) refl
