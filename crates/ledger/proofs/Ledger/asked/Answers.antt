-- `Ledger::asked` asks the questions 7 to 13 in turn; each return is the first "no", or none.
use mathlib.Core.Path.{◌≡◌, sym, ◌∙◌}
use borrow.Author.Rules.{rules}
use borrow.Author.Tests.{lt-ltb, le-ltb}
use Rattle.std.proofs.lemmas.Result.{err_from_is_err_and}
use Rattle.sets.specs.Quantifiers.{keep}
use Rattle.directive.specs.Lowest.{best_of}
use Rattle.drafts.specs.Form.{directive_of}
use Rattle.drafts.proofs.FormLaws.{Widths, meant_in_ranges, meant_out_of_ranges}
use Rattle.validation_meaning.specs.Search.{conflict_found, breaks_baseline_found}
use Rattle.ledger.specs.State.{view}
use Rattle.ledger.proofs.AdmitLaws.{own_selection}
use Rattle.ledger.specs.Invariant.{Shape}
use Rattle.ledger.proofs.AskLaws.{PassesTo11, no_7, no_8, no_9, no_10, no_11, no_12, no_13, all_passed}
use Rattle.ledger.proofs.CallLaws.{records_few}
use Rattle.ledger.proofs.Ledger.asked.Goals.{Start, After-breaks_baseline, After-lowest_conflict}
use Rattle.ledger.proofs.Ledger.asked.Goals as goal

widths : (c : Start) → Widths c.args.s
widths c =
    record {
      number = search rules;
      subject = search rules;
      subject_origins = search rules;
      root = search rules;
      origins = search rules;
      sensitivities = search rules;
      kinds = search rules;
      purposes = search rules;
      from = search rules;
      until = search rules;
    }

pub returns-in_err-d-clause-answer : goal.returns-in_err-d-clause-answer
returns-in_err-d-clause-answer c shape =
    let p = err_from_is_err_and c.from_residual.result c.from_residual.ensures.1 in
    rw (p.1, p.2)
    (no_7 (view c.args.self.now) c.args.s (meant_out_of_ranges c.args.s _ (sym c.in_err-d.was ∙ c.try_from.ensures)))

pub returns-then-not-in_register-clause-answer : goal.returns-then-not-in_register-clause-answer
returns-then-not-in_register-clause-answer c shape =
    let (kept, is) = meant_in_ranges c.args.s c.in_ok-d.d (sym c.in_ok-d.was ∙ c.try_from.ensures) in
    no_8 (view c.args.self.now) c.args.s kept (rw is at (sym c.in_register.ensures ∙ c.if-not-in_register.true))

pub returns-then-not-has_minutes-clause-answer : goal.returns-then-not-has_minutes-clause-answer
returns-then-not-has_minutes-clause-answer c shape =
    let (kept, is) = meant_in_ranges c.args.s c.in_ok-d.d (sym c.in_ok-d.was ∙ c.try_from.ensures) in
    let there = rw is at (sym c.in_register.ensures ∙ c.if-not-in_register.false) in
    no_9 (view c.args.self.now) c.args.s kept there (rw is at (sym c.has_minutes.ensures ∙ c.if-not-has_minutes.true))

pub returns-then-has_number-clause-answer : goal.returns-then-has_number-clause-answer
returns-then-has_number-clause-answer c shape =
    let (kept, is) = meant_in_ranges c.args.s c.in_ok-d.d (sym c.in_ok-d.was ∙ c.try_from.ensures) in
    let there = rw is at (sym c.in_register.ensures ∙ c.if-not-in_register.false) in
    let minutes = rw is at (sym c.has_minutes.ensures ∙ c.if-not-has_minutes.false) in
    no_10 (view c.args.self.now) c.args.s kept there minutes (rw is at (sym c.has_number.ensures ∙ c.if-has_number.true))

pub returns-then-has_number-clause-widths : goal.returns-then-has_number-clause-widths
returns-then-has_number-clause-widths c = widths (goal.at.returns-then-has_number-clause-widths c).Start

pub returns-then-len-ge-PLACES-clause-answer : goal.returns-then-len-ge-PLACES-clause-answer
returns-then-len-ge-PLACES-clause-answer c shape =
    let (kept, is) = meant_in_ranges c.args.s c.in_ok-d.d (sym c.in_ok-d.was ∙ c.try_from.ensures) in
    let there = rw is at (sym c.in_register.ensures ∙ c.if-not-in_register.false) in
    let minutes = rw is at (sym c.has_minutes.ensures ∙ c.if-not-has_minutes.false) in
    let free = rw is at (sym c.has_number.ensures ∙ c.if-has_number.false) in
    no_11 (view c.args.self.now) c.args.s kept there minutes free (le-ltb _ 32 (rw c.len.ensures.value at c.if-len-ge-PLACES.true))

pub returns-then-len-ge-PLACES-clause-widths : goal.returns-then-len-ge-PLACES-clause-widths
returns-then-len-ge-PLACES-clause-widths c = widths (goal.at.returns-then-len-ge-PLACES-clause-widths c).Start

-- what 7 to 11 found, where 12 is asked
past_11 : (c : After-breaks_baseline) → PassesTo11 (view c.args.self.now) c.args.s
past_11 c =
    let (kept, is) = meant_in_ranges c.args.s c.in_ok-d.d (sym c.in_ok-d.was ∙ c.try_from.ensures) in
    record {
      in_ranges = kept;
      there = rw is at (sym c.in_register.ensures ∙ c.if-not-in_register.false);
      timely = rw is at (sym c.has_minutes.ensures ∙ c.if-not-has_minutes.false);
      free = rw is at (sym c.has_number.ensures ∙ c.if-has_number.false);
      room = lt-ltb _ 32 (rw c.len.ensures.value at c.if-len-ge-PLACES.false);
    }

-- what 12 asks of the directive
asked_12 :
    (c : After-breaks_baseline) →
    c.breaks_baseline.result
    ≡ breaks_baseline_found (view c.args.self.now).register c.args.self.now.patient c.args.self.now.clock (directive_of c.args.s)
asked_12 c =
    let (_, is) = meant_in_ranges c.args.s c.in_ok-d.d (sym c.in_ok-d.was ∙ c.try_from.ensures) in
    rw is at (rw c.new-a.ensures at c.breaks_baseline.ensures.searched)

-- what 13 finds
found_13 :
    (c : After-lowest_conflict) → Shape c.args.self.now →
    c.lowest_conflict.result
    ≡ best_of
    (keep (conflict_found (view c.args.self.now).register c.args.self.now.clock (directive_of c.args.s)) (view c.args.self.now).active)
found_13 c shape =
    let (_, is) = meant_in_ranges c.args.s c.in_ok-d.d (sym c.in_ok-d.was ∙ c.try_from.ensures) in
    let rs = (view c.args.self.now).register.records in
    let own = own_selection rs (directive_of c.args.s) (rw is at c.new-a.ensures) in
    rw is at (rw c.new-a.ensures at (rw c.roles.ensures.value at
    (c.lowest_conflict.ensures.searched rs (record { few = records_few shape; own = own; others = shape.active_held }))))

pub returns-then-breaks_baseline-clause-answer : goal.returns-then-breaks_baseline-clause-answer
returns-then-breaks_baseline-clause-answer c shape =
    let past = (goal.at.returns-then-breaks_baseline-clause-answer c).After-breaks_baseline in
    no_12 (view c.args.self.now) c.args.s (past_11 past) (sym (asked_12 past) ∙ c.if-breaks_baseline.true)

pub returns-then-breaks_baseline-clause-widths : goal.returns-then-breaks_baseline-clause-widths
returns-then-breaks_baseline-clause-widths c = widths (goal.at.returns-then-breaks_baseline-clause-widths c).Start

pub returns-in-Some-clause-answer : goal.returns-in-Some-clause-answer
returns-in-Some-clause-answer c shape =
    let at = goal.at.returns-in-Some-clause-answer c in
    no_13 (view c.args.self.now) c.args.s (past_11 at.After-breaks_baseline)
    (sym (asked_12 at.After-breaks_baseline) ∙ c.if-breaks_baseline.false) c.in-Some.lowest
    (sym (found_13 at.After-lowest_conflict shape) ∙ c.in-Some.is)

pub returns-in-Some-clause-widths : goal.returns-in-Some-clause-widths
returns-in-Some-clause-widths c = widths (goal.at.returns-in-Some-clause-widths c).Start

pub returns-in-None-clause-answer : goal.returns-in-None-clause-answer
returns-in-None-clause-answer c shape =
    let at = goal.at.returns-in-None-clause-answer c in
    all_passed (view c.args.self.now) c.args.s (past_11 at.After-breaks_baseline)
    (sym (asked_12 at.After-breaks_baseline) ∙ c.if-breaks_baseline.false)
    (sym (found_13 at.After-lowest_conflict shape) ∙ c.in-None.is)

pub returns-in-None-clause-widths : goal.returns-in-None-clause-widths
returns-in-None-clause-widths c = widths (goal.at.returns-in-None-clause-widths c).Start
