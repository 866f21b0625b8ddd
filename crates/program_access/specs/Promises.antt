-- What the parts of `access` promise.
use Rattle.std.specs.Prelude.{ℕ, ◌≡◌, ◌⊎◌, Bool, List, [], ◌++◌, Option, Some, None, IfSome}
use Rattle.std.specs.Io.KnownBytes.{Appends, Keeps}
use Rattle.sets.specs.RecordSets.{record_set_of}
use Rattle.directive.specs.declared.Requester.{Requester}
use Rattle.ledger_model.specs.Model.{Model}
use Rattle.ledger_model.specs.Preview.{decision_changes}
use Rattle.ledger.specs.State.{view}
use Rattle.streams.specs.declared.Status.{Status}
use Rattle.streams.specs.declared.Status.TheVariants.{Failed}
use Rattle.streams.specs.Writes.{PutsPart}
use Rattle.program_access.specs.declared.table.Change.{Change}
use Rattle.program_access.specs.declared.table.Table.{Table}
use Rattle.program_access.specs.Arguments.{status_for}
use Rattle.program_access.specs.Table.{count_text, access_text, is_table}

-- the text that is appended, and how the program ends: the text is a table, or not
pub record Prints (t : List ℕ) (b : Bool) (before : List ℕ) (end : Status) (after : List ℕ) : Type 0 where
  pub text : after ≡ before ++ t
  pub status : end ≡ status_for b

-- what `access` shows for a card, a draft and a requester
abbrev pub Shows : List ℕ → Option (List ℕ) → Requester → List ℕ → Status → List ℕ → Type 0
Shows card d w before end after = Prints (access_text card d w) (is_table card d w) before end after

-- the set of a change has the records whose decision changes
abbrev pub HasChanges : Table → Type 0
HasChanges t =
    IfSome t.change (λ c. c.records ≡ record_set_of (decision_changes (view t.ledger.now) (view c.after.now) t.requester))

-- the model after a change; without one, the model itself
abbrev pub changed_by : Option Change → Model → Model
changed_by None m = m
changed_by (Some c) m = view c.after.now

abbrev pub after_of : Table → Model
after_of t = changed_by t.change (view t.ledger.now)

-- what stands after a table's lines: with a change, the count
abbrev pub counted : Option Change → Model → Requester → List ℕ
counted None m w = []
counted (Some c) m w = count_text m (view c.after.now) w

abbrev pub end_text : Table → List ℕ
end_text t = counted t.change (view t.ledger.now) t.requester

-- nothing is written where a read failed, and not all of the text where the write failed
abbrev pub Fails : List ℕ → Option (List ℕ) → Option (List ℕ) → Type 0
Fails text before after = Keeps before after ⊎ PutsPart before after text

-- How the program ends for a card, a draft and a requester, and what is written, where the bytes that the output holds are known. No contract
-- can say which reads and writes fail.
abbrev pub Answers : List ℕ → Option (List ℕ) → Requester → Status → Option (List ℕ) → Option (List ℕ) → Type 0
Answers card d w status before after =
    ((status ≡ status_for (is_table card d w)) × Appends before after (access_text card d w))
    ⊎ ((status ≡ Failed) × Fails (access_text card d w) before after)
