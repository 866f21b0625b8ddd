-- `Reader::read_head`: the edition is one that there is, and a ledger begins with the patient and the clock; or question 4 is missed.
use mathlib.Core.Path.{sym, ap, ◌∙◌}
use Rattle.std.proofs.lemmas.Result.{err_from_is_err_and}
use Rattle.ledger_model.specs.Questions.{first_no}
use Rattle.ledger_model.specs.Model.{beginning}
use Rattle.card.specs.declared.ReadRefusal.TheVariants.{OutOfRange}
use Rattle.card.specs.declared.form.Head.{Head}
use Rattle.card.proofs.FormLaws.{edition_there, edition_missing}
use Rattle.card_reading.proofs.ReaderLaws.{refuses, accepts}
use Rattle.card_reading.proofs.read.Reader.read_head.Goals as goal

pub returns-in_err-edition : goal.returns-in_err-edition
unfolding first_no
returns-in_err-edition c invariant =
    let p = err_from_is_err_and c.from_residual.result c.from_residual.ensures.1 in
    let edition = ap (λ (h : Head). h.edition) c.from_bytes-head.ensures in
    let none = edition_missing c.from_bytes-head.result.edition c.in_err-edition.field-0.0 (sym c.in_err-edition.was ∙ c.try_from.ensures) in
    rw (p.1, p.2) (refuses OutOfRange invariant (rw (c.requires, rw edition at none)))

pub returns : goal.returns
unfolding first_no
returns c invariant =
    let edition = ap (λ (h : Head). h.edition) c.from_bytes-head.ensures in
    let is = edition_there _ _ (sym c.in_ok-edition.was ∙ c.try_from.ensures) in
    accepts _ c.begin-self.ensures.invariant (rw (c.requires, rw edition at is.there)) (is.number ∙ edition)
    (c.begin-self.ensures.ledger ∙ ap (λ (h : Head). beginning h.patient h.clock) c.from_bytes-head.ensures)
