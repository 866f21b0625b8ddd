-- `Ledger::enrol_record`: a record that fits, of its fields' widths, keeps the register's invariant.
use Prim.Native.Nat.{◌^◌}
use mathlib.Core.Path.{◌≡◌, sym, ap, ◌∙◌}
use mathlib.Core.Bool.{true}
use native.Mathlib.Numerals.{add-one}
use native.Mathlib.Omega.{arith}
use borrow.Author.Rules.{rules}
use borrow.Author.Tests.{lt-ltb}
use lib.ListN.{length}
use lib.Seq.{take-suc-set, length-take-le}
use Rattle.sets.proofs.Lists.{none_in}
use Rattle.register.specs.Form.{record_widths}
use Rattle.register.proofs.ArrayLaws.{long_mapped}
use Rattle.ledger.specs.declared.Ledger.{Ledger}
use Rattle.ledger.specs.State.{view}
use Rattle.ledger.specs.Invariant.{Invariant}
use Rattle.ledger_model.proofs.Enrolled.{sound_record}
use Rattle.ledger.proofs.EnrolLaws.{out_of_range, enrolled}
use Rattle.ledger.proofs.Ledger.enrol_record.Goals.{Start}
use Rattle.ledger.proofs.Ledger.enrol_record.Goals as goal

-- as many records as are counted
counted :
    {l : Ledger} → length l.register.records ≡ 128 → Invariant l →
    length (view l).register.records ≡ l.register.record_count
counted {l} long invariant =
    let g = l.register in
    length-take-le g.record_count g.records (omega (arith, long, invariant.shape.records_held))

pub returns-then-not-fits : goal.returns-then-not-fits
returns-then-not-fits c invariant =
    out_of_range invariant (sym (c.fits.ensures _ (sym (ap length c.records-at.ensures.value))) ∙ c.if-not-fits.true)

widths : (c : Start) → record_widths c.args.r ≡ true
unfolding record_widths
widths c =
    let r = c.args.r in
    rw (
      lt-ltb r.parent (2 ^ 8) (search rules),
      lt-ltb r.author (2 ^ 16) (search rules),
      lt-ltb r.origins (2 ^ 16) (search rules),
      lt-ltb r.sensitivities (2 ^ 16) (search rules),
      lt-ltb r.kind (2 ^ 8) (search rules),
      lt-ltb r.labels (2 ^ 16) (search rules),
    )

pub returns : goal.returns
returns c invariant =
    let l = c.args.self.now in
    let r = c.args.r in
    let n = l.register.record_count in
    let long : length l.register.records ≡ 128 = search (rules, long_mapped) in
    let count = counted long invariant in
    let at : length c.records-at.result.now ≡ n = ap length c.records-at.ensures.value ∙ count in
    let fits = sym (c.fits.ensures _ (sym (ap length c.records-at.ensures.value))) ∙ c.if-not-fits.false in
    enrolled invariant _
    fits
    (none_in (view l).active c.requires.2)
    (rw (at, add-one n, take-suc-set l.register.records n r (omega (arith, long, count, c.requires.0))))
    (sound_record (view l).register invariant.model.register r c.requires.1 c.requires.0 fits (widths (goal.at.returns c).Start))
    invariant.shape.roles_held
    (omega (arith, at, count, c.requires.0))
