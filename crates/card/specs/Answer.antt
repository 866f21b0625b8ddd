-- What reading's and writing's answers mean, in document 01's numbers and values: those of success, and each case of what they are
-- refused for.
use Rattle.std.specs.Prelude.{ℕ, [], ◌∷◌, Result, Ok, Err}
use Rattle.ledger_model.specs.Answer.{Answer, done, refused}
use Rattle.ledger.specs.Answer.{directive_refusal}
use Rattle.card.specs.declared.ReadRefusal.{ReadRefusal}
use Rattle.card.specs.declared.ReadRefusal.TheVariants.{NotWhole, Misplaced, TooManyRecords, OutOfRange, Directive, Incomplete}
use Rattle.card.specs.declared.WriteRefusal.{WriteRefusal}
use Rattle.card.specs.declared.WriteRefusal.TheVariants.{NoRecord, BufferTooShort}

-- The answers: of writing, the length of the card.
abbrev pub ReadAnswer : Type 0
ReadAnswer = Result (Unit {0}) ReadRefusal

abbrev pub WriteAnswer : Type 0
WriteAnswer = Result ℕ WriteRefusal

abbrev pub read_refusal : ReadRefusal → Answer
read_refusal NotWhole = refused 1 []
read_refusal Misplaced = refused 2 []
read_refusal TooManyRecords = refused 3 []
read_refusal OutOfRange = refused 4 []
read_refusal (Directive r) = directive_refusal r
read_refusal Incomplete = refused 5 []

abbrev pub read_answer : ReadAnswer → Answer
read_answer (Ok u) = done []
read_answer (Err r) = read_refusal r

abbrev pub write_refusal : WriteRefusal → Answer
write_refusal NoRecord = refused 23 []
write_refusal BufferTooShort = refused 24 []

-- the length of the card
abbrev pub write_answer : WriteAnswer → Answer
write_answer (Ok n) = done (n ∷ [])
write_answer (Err r) = write_refusal r
