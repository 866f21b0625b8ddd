use Prim.Native.Nat.{ℕ, ◌-◌, ◌^◌, ◌<◌, ◌≤◌}
use mathlib.Core.Bool.{Bool, ◌&&◌}
use Rattle.sets.specs.declared.record_set.RecordSet.{RecordSet}
use Rattle.sets.specs.RecordSets.{contains}
use Rattle.sets.proofs.FillLaws.{HasBelow}
use Rattle.directive.specs.declared.Requester.{Requester}
use Rattle.ledger_model.specs.Preview.{decision_changes}
use Rattle.ledger.specs.declared.Ledger.{Ledger}
use Rattle.ledger.specs.State.{view}
use Rattle.ledger.specs.Invariant.{Invariant}
use Rattle.ledger_preview.proofs.changed_among.Given as goal

abbrev pub changes : Ledger → Ledger → Requester → RecordSet → ℕ → Bool
changes before after w among x = contains among x && decision_changes (view before) (view after) w x

-- what is known before a turn
pub record Compared (before after : Ledger) (w : Requester) (among found : RecordSet) (x : ℕ) : Type 0 where
  pub in_words : x ≤ 128
  pub low : found.low < 2 ^ 64
  pub high : found.high < 2 ^ 64
  pub so_far : Invariant before → Invariant after → HasBelow found x (changes before after w among)

abbrev pub invariant-loop-x : goal.invariant-loop-x
invariant-loop-x l = Compared l.before l.after l.w l.among l.found l.x

abbrev pub decreases-loop-x : goal.decreases-loop-x
decreases-loop-x l = 128 - l.x
