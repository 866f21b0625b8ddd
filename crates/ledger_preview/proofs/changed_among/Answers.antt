-- `changed_among`: after x turns the set has those of the records below x that change.
use mathlib.Core.Path.{◌≡◌, sym, ◌∙◌}
use native.Mathlib.Omega.{arith}
use borrow.Author.Rules.{rules}
use borrow.Author.Tests.{le-ltb}
use Rattle.sets.proofs.FillLaws.{below_next, below_all}
use Rattle.ledger_preview.proofs.changed_among.Invariants.{changes}
use Rattle.ledger_preview.proofs.changed_among.Goals as goal
use Rattle.ledger_preview.proofs.changed_among.Goals.{then-contains, else-contains}

pub loop-x-init : goal.loop-x-init
loop-x-init c =
    record {
      in_words = search rules;
      low = search rules;
      high = search rules;
      so_far = λ before after k h. c.empty-found.ensures k ∙ rw (le-ltb k 0 (search rules));
    }

pub loop-x-preserved : goal.loop-x-preserved
loop-x-preserved c =
    let now = c.loop-x in
    record {
      in_words = search rules;
      low = search rules;
      high = search rules;
      so_far = λ before after.
          let changed : c.if-contains.changes ≡ changes c.args.before.now c.args.after.now c.args.w c.args.among now.x =
          elim c.if-contains.branch [
            | then-contains w ↦
                rw (w.changes-is, sym c.contains.ensures ∙ w.if-contains.true) (w.changes_at-changes.ensures before after)
            | else-contains w ↦
                rw (w.changes-is, w.if-contains.false, sym c.contains.ensures ∙ w.if-contains.false)
          ] in
          below_next _ _ _ now.x c.if-contains.changes (now.invariant.so_far before after) changed c.with_where-found.ensures;
    }

pub returns : goal.returns
returns c before after =
    let now = c.loop-x in
    below_all _ _ now.x now.invariant.low now.invariant.high (now.invariant.so_far before after) (λ k h l. absurd (omega arith))
