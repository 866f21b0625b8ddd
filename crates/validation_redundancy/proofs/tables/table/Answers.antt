-- `tables::table` writes the masks in turn.
use mathlib.Core.Path.{◌∙◌}
use native.Mathlib.Decide.{ℕ_discrete}
use native.Mathlib.Omega.{arith}
use lib.ListN.{length-set}
use lib.Seq.{get_or-set_same, get_or-set_other}
use Rattle.validation_redundancy.proofs.tables.table.Goals.{then-has, else-has}
use Rattle.validation_redundancy.proofs.tables.table.Goals as goal

pub loop-k-preserved : goal.loop-k-preserved
loop-k-preserved g c =
    let now = c.loop-k in
    let (long, after, before) = now.invariant in
    elim c.if-has.branch [
      | then-has w ↦ rw (w.table-is, w.from.ensures) (
        length-set now.table now.k w.mask.result ∙ long,
        λ k h. get_or-set_other now.table now.k k w.mask.result 0 (λ q. omega arith) ∙ after k (omega arith),
        λ f e k h.
            elim (ℕ_discrete k now.k) [
              | yes q ↦ rw (q, get_or-set_same now.table now.k w.mask.result 0 (omega arith), ← c.has.ensures, w.if-has.true) (e now.k w.mask.result w.mask.ensures)
              | no d ↦ get_or-set_other now.table now.k k w.mask.result 0 d ∙ before f e k (omega arith)
            ],
      )
      | else-has w ↦ rw w.table-is (
        long,
        λ k h. after k (omega arith),
        λ f e k h.
            elim (ℕ_discrete k now.k) [
              | yes q ↦ rw (q, ← c.has.ensures, w.if-has.false) (after now.k (omega arith))
              | no d ↦ before f e k (omega arith)
            ],
      )
    ]

pub returns : goal.returns
returns g c f e k h = c.loop-k.invariant.2 f e k (omega arith)
