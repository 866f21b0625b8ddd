-- The answer to a list of questions where one is the first that is missed.
use mathlib.Core.Path.{◌≡◌}
use mathlib.Core.Bool.{false}
use mathlib.Core.List.{List}
use Rattle.sets.specs.Quantifiers.{all_in}
use Rattle.ledger_model.specs.Answer.{Answer, refused}
use Rattle.ledger_model.specs.Questions.{Question, first_no, passes}
use Rattle.demands.specs.Demands.{FirstMissed, here, later}

pub first_missed :
    {qs : List Question} {q : Question} → FirstMissed qs q → (a : Answer) → first_no qs a ≡ refused q.number q.adds
unfolding first_no
first_missed (here e) a = rw e
first_missed (later e rest) a = rw (e, first_missed rest a)

pub missed_fails : {qs : List Question} {q : Question} → FirstMissed qs q → passes qs ≡ false
unfolding all_in
missed_fails (here e) = rw e
missed_fails (later e rest) = rw (e, missed_fails rest)
