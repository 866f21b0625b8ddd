-- Demand 2: decisions, briefs and cards are those of document 01, the directives say what XACML 3.0 says, and cards make their
-- round trips.
use Rattle.ledger.specs.State.{view}
use Rattle.demands.specs.Demands.{Demand2}
use Rattle.demands.proofs.Runs.{meant_sound}
use Rattle.demands.proofs.Cards.{read_written, written_read}
use Rattle.demands.proofs.Combining.{by_deny_overrides, by_permit_overrides, by_combined}

pub demand2 : Demand2
demand2 =
    record {
      decisions = λ l q a k decides. decides (meant_sound l k);
      briefs = λ l n p a k briefs. briefs (meant_sound l k);
      cards_read = λ card r e reads. (reads.answer, reads.ledger);
      cards_written = λ l before a after k writes. let fills = writes (meant_sound l k) in (fills.answer, fills.buffer);
      as_deny_overrides = λ l q k person passed. by_deny_overrides (view l) (meant_sound l k).model q person passed;
      as_permit_overrides = λ l q k person passed. by_permit_overrides (view l) (meant_sound l k).model q person passed;
      combined = λ l q a k person decides passed stranger reader.
          by_combined l (meant_sound l k) q a person decides passed stranger reader;
      read_written = read_written;
      written_read = written_read;
    }
