-- Demand 3, clause by clause, of the ledger after any list of calls on the ledger of an accepted card.
use Rattle.ledger.specs.State.{view}
use Rattle.ledger_model.proofs.Clash.{no_clash_at}
use Rattle.demands.specs.Demands.{Demand3}
use Rattle.demands.proofs.Runs.{run_sound, run_model}
use Rattle.demands.proofs.Counting.{run_balance}
use Rattle.demands.proofs.Exactness.{draft_exact}
use Rattle.demands.proofs.Decisions.{decided_kept, patient_permitted, author_permitted}
use Rattle.demands.proofs.Ordering.{order_kept}

pub demand3 : Demand3
demand3 card r cs rs l _ _ reads run =
    let begun = reads.invariant in
    let h = run_sound begun run in
    let same = run_model begun run in
    record {
      answers_kept = rw (← reads.ledger) same.0;
      ledger_kept = rw (← reads.ledger) same.1;
      balance = rw (← reads.ledger) (run_balance begun run);
      decided_kept = decided_kept l h;
      patient_permitted = patient_permitted l h;
      author_permitted = author_permitted l h;
      no_clash = no_clash_at (view l) h.model;
      exact = λ s r _ commits passed. draft_exact l h s r commits passed;
      order = order_kept l h;
    }
