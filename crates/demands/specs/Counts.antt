-- "accepted and revoked count the commits and revokes of the list that succeeded, and expired adds up the directive counts
-- that advances reported."
use Rattle.std.specs.Prelude.{ℕ, ◌+◌, List, [], ◌∷◌, slice_index_or}
use Rattle.sets.specs.Quantifiers.{one_if}
use Rattle.ledger_model.specs.Answer.{Answer, accepted, values}
use Rattle.ledger_model.specs.Calls.{Call, commit, revoke, advance, issue}

pub record Counts : Type 0 where
  pub accepted : ℕ
  pub revoked : ℕ
  pub expired : ℕ

abbrev pub counting : ℕ → ℕ → ℕ → Counts
counting x y z = record { accepted = x; revoked = y; expired = z }

-- what a call with its answer adds; an advance reports the directives first
abbrev pub counts_of : Call → Answer → Counts
counts_of (commit s) a = counting (one_if (accepted a)) 0 0
counts_of (revoke n) a = counting 0 (one_if (accepted a)) 0
counts_of (advance t) a = counting 0 0 (slice_index_or (values a) 0 0)
counts_of (issue n p states minutes) a = counting 0 0 0

abbrev pub plus : Counts → Counts → Counts
plus x y = counting (x.accepted + y.accepted) (x.revoked + y.revoked) (x.expired + y.expired)

-- what the calls with their answers add up to
unfoldable pub totals : List Call → List Answer → Counts
totals [] rs = counting 0 0 0
totals (c ∷ cs) [] = counting 0 0 0
totals (c ∷ cs) (a ∷ rs) = plus (counts_of c a) (totals cs rs)
