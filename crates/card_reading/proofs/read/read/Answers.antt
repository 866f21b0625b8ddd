-- `read::read`: at every turn what is left of the card, with what was read so far, gives the whole outcome. A turn is one field.
use mathlib.Core.Path.{sym, ◌∙◌}
use borrow.Author.Tests.{eqb-true, eqb-false}
use native.Mathlib.Omega.{arith}
use Rattle.std.proofs.lemmas.Result.{err_from_is_err_and}
use Rattle.card_reading.proofs.Rest.{none_read, size_cut, value_cut, field_refused, field_read, end_refused, end_read}
use Rattle.card_reading.proofs.read.read.Goals as goal

pub loop-rest-init : goal.loop-rest-init
loop-rest-init c = none_read _ c.empty.ensures

pub returns-then-after-size : goal.returns-then-after-size
returns-then-after-size c =
    value_cut c.loop-rest.invariant (omega arith) c.from-size.result (c.from-size.ensures ∙ c.from_be_bytes.ensures)
    (omega arith)

pub returns-in_err-read_field : goal.returns-in_err-read_field
returns-in_err-read_field c =
    let inv = c.loop-rest.invariant in
    let p = err_from_is_err_and c.from_residual.result c.from_residual.ensures.1 in
    rw (p.1, p.2)
    (field_refused inv (omega arith) c.from-size.result (c.from-size.ensures ∙ c.from_be_bytes.ensures) (omega arith)
    c.split_at.ensures.front c.read_field.new.self _ (c.in_err-read_field.ensures inv.invariant))

pub loop-rest-preserved : goal.loop-rest-preserved
loop-rest-preserved c =
    let inv = c.loop-rest.invariant in
    field_read inv (omega arith) c.from-size.result (c.from-size.ensures ∙ c.from_be_bytes.ensures) (omega arith)
    c.split_at.ensures.front c.read_field.new.self c.split_at.ensures.back _ (c.in_ok-read_field.ensures inv.invariant)

pub returns-then-not-is_empty : goal.returns-then-not-is_empty
returns-then-not-is_empty c =
    size_cut c.loop-rest.invariant (omega (arith, eqb-false _ 0 (sym c.if-not-is_empty.ensures))) (omega arith)

pub returns-then-not-is_complete : goal.returns-then-not-is_complete
returns-then-not-is_complete c =
    end_refused c.loop-rest.invariant (eqb-true _ 0 (sym c.if-not-is_empty.ensures)) (sym c.if-not-is_complete.ensures)

pub returns : goal.returns
returns c = end_read c.loop-rest.invariant (eqb-true _ 0 (sym c.if-not-is_empty.ensures)) (sym c.if-not-is_complete.ensures)
