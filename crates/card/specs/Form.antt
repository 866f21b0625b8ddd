-- The bytes of a card's head, and the editions.
use Rattle.std.specs.Prelude.{ℕ, List, ◌++◌, nat_eq, Result, Ok, Err}
use Rattle.sets.specs.Quantifiers.{pick}
use Rattle.sets.specs.Numbers.{number_at, bytes}
use Rattle.ledger.specs.declared.enrolment.OutOfRange.{OutOfRange}
use Rattle.card.specs.declared.form.Head.{Head}
use Rattle.card.specs.declared.form.Edition.{Edition}
use Rattle.card.specs.declared.form.Edition.TheVariants.{First, Second}

-- "edition (1 or 2), patient 2, minute 4 (sets the clock)"
abbrev pub head_size : ℕ
head_size = 7

abbrev pub head_of : List ℕ → Head
head_of v = record { edition = number_at 0 1 v; patient = number_at 1 2 v; clock = number_at 3 4 v }

abbrev pub head_bytes : Head → List ℕ
head_bytes h = bytes 1 h.edition ++ bytes 2 h.patient ++ bytes 4 h.clock

abbrev pub edition_number : Edition → ℕ
edition_number First = 1
edition_number Second = 2

-- the edition of a number, where there is one
abbrev pub edition_of : ℕ → Result Edition OutOfRange
edition_of n = pick (nat_eq n 1) (Ok First) (pick (nat_eq n 2) (Ok Second) (Err (record {})))
