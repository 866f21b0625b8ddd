-- `write::put_fields`: after i turns the fields of the first i values stand one after another.
use mathlib.Core.Path.{◌∙◌}
use native.Mathlib.Omega.{arith}
use lib.ListN.{length}
use lib.Seq.{take_all}
use Rattle.sets.proofs.PutLaws.{filled_none, filled_next, filled_all}
use Rattle.card.proofs.Fields.{length_field}
use Rattle.card_writing.proofs.write.put_fields.Goals as goal

pub loop-i-init : goal.loop-i-init
loop-i-init g c fields each = filled_none each _ _ (omega arith) _ _

pub loop-i-preserved : goal.loop-i-preserved
loop-i-preserved g c fields each =
    filled_next each (λ v. length_field g.V.Value.TAG (g.V.Value.bytes v) ∙ rw (g.met.V.Value.sized v)) c.index-values-i.result
    (c.loop-i.invariant fields each) c.loop-i-test.true
    (rw (c.from.ensures, c.SIZE.ensures, c.index-values-i.is) at c.put_field.ensures)

pub returns : goal.returns
returns g c fields each =
    rw (take_all (length c.args.values.now) c.args.values.now (omega arith)) at
    (filled_all (c.loop-i.invariant fields each) c.loop-i-test.false).stored
