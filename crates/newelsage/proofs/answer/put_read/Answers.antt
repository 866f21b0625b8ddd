-- `put_read`: a refused directive is told as a refused draft.
use mathlib.Core.Path.{◌≡◌, refl}
use Rattle.ledger_model.specs.Model.{Model}
use Rattle.ledger.specs.declared.answer.DirectiveRefusal.{DirectiveRefusal}
use Rattle.ledger.specs.declared.answer.DirectiveRefusal.TheVariants.{OutOfRange, NotInRegister, NoMinutes, NumberTaken, ListFull, BreaksBaseline, Conflicts}
use Rattle.ledger.specs.Answer.{directive_refusal}
use Rattle.replay_entries.specs.Entries.{says}
use Rattle.newelsage.specs.Answers.{told_of, told_read}
use Rattle.newelsage.proofs.answer.put_read.Goals as goal

pub told_refused : (r : DirectiveRefusal) (m : Model) → told_read (record { answer = directive_refusal r; model = m }) ≡ told_of (directive_refusal r)
told_refused OutOfRange m = refl
told_refused NotInRegister m = refl
told_refused NoMinutes m = refl
told_refused NumberTaken m = refl
told_refused ListFull m = refl
told_refused BreaksBaseline m = refl
told_refused (Conflicts n) m = refl

pub returns-in-Err-Directive : goal.returns-in-Err-Directive
returns-in-Err-Directive c =
    let arm = c.in-Err-Directive in
    let directive = rw arm.is at arm.field-0-is in
    rw (arm.is, directive, told_refused arm.why)
    (c.put_line.ensures (says 0x10 (directive_refusal arm.why)) 0 c.directive_line.ensures)
