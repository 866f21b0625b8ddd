-- The answer of reading a card is accepted where it misses no question.
use mathlib.Core.Path.{◌≡◌, refl}
use lib.Dec.{eqb}
use Rattle.std.specs.Prelude.{Ok, Err}
use Rattle.ledger_model.specs.Answer.{accepted, refusal}
use Rattle.ledger.proofs.AdmitLaws.{directive_accepted}
use Rattle.card.specs.declared.ReadRefusal.TheVariants.{NotWhole, Misplaced, TooManyRecords, OutOfRange, Directive, Incomplete}
use Rattle.card.specs.Answer.{ReadAnswer, read_answer}

pub read_accepted : (a : ReadAnswer) → accepted (read_answer a) ≡ eqb (refusal (read_answer a)) 0
read_accepted (Ok u) = refl
read_accepted (Err NotWhole) = refl
read_accepted (Err Misplaced) = refl
read_accepted (Err TooManyRecords) = refl
read_accepted (Err OutOfRange) = refl
read_accepted (Err (Directive why)) = directive_accepted why
read_accepted (Err Incomplete) = refl
