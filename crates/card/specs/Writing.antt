-- Writing a card: "The writer gives edition 2: patient, clock, register, active directives in order, no tokens."
use Rattle.std.specs.Prelude.{ℕ, not, List, [], ◌∷◌, ◌++◌, length, drop, nat_le}
use Rattle.sets.specs.Quantifiers.{pick}
use Rattle.register.specs.declared.Record.{Record}
use Rattle.register.specs.Form.{record_bytes}
use Rattle.directive.specs.declared.Directive.{Directive}
use Rattle.drafts.specs.Form.{directive_bytes}
use Rattle.ledger_model.specs.Model.{Model}
use Rattle.ledger_model.specs.Answer.{Answer, done}
use Rattle.ledger_model.specs.Questions.{Question, ask, first_no, passes}
use Rattle.card.specs.declared.form.Head.{Head}
use Rattle.card.specs.Form.{head_bytes}
use Rattle.card.specs.Grammar.{field}
use Rattle.card.specs.Reading.{is_empty, written_edition}

abbrev pub written_head : Model → Head
written_head m = record { edition = written_edition; patient = m.patient; clock = m.clock }

-- one field a record, in order
unfoldable pub record_fields : List Record → List ℕ
record_fields [] = []
record_fields (r ∷ rs) = field 0x03 (record_bytes r) ++ record_fields rs

-- one field a directive, in order
unfoldable pub directive_fields : List Directive → List ℕ
directive_fields [] = []
directive_fields (d ∷ ds) = field 0x04 (directive_bytes d) ++ directive_fields ds

unfoldable pub card_bytes : Model → List ℕ
card_bytes m =
    field 0x01 (head_bytes (written_head m))
    ++ field 0x02 m.register.roles
    ++ record_fields m.register.records
    ++ directive_fields m.active

-- "Write: has the register a record? 23. Is the buffer long enough? 24."
abbrev pub write_questions : Model → List ℕ → List Question
write_questions m buffer =
    ask 23 (not (is_empty m.register.records))
    ∷ ask 24 (nat_le (length (card_bytes m)) (length buffer))
    ∷ []

-- "It reports the length": the answer
unfoldable pub writing : Model → List ℕ → Answer
writing m buffer = first_no (write_questions m buffer) (done (length (card_bytes m) ∷ []))

-- the buffer after it: "bytes after it keep their content", and a refusal leaves every byte
unfoldable pub buffered : Model → List ℕ → List ℕ
buffered m buffer =
    pick (passes (write_questions m buffer)) (card_bytes m ++ drop (length (card_bytes m)) buffer) buffer
