-- `write::write`: the counts are those of the ledger's lists, and the four parts stand one after another.
use Prim.Native.Nat.{◌+◌, ◌*◌}
use mathlib.Core.Path.{◌≡◌, ap, sym, ◌∙◌}
use native.Mathlib.Omega.{arith}
use borrow.Author.Tests.{eqb-true, eq-eqb}
use lib.ListN.{length, length-map}
use Rattle.sets.proofs.Quantifiers.{both_ways}
use Rattle.active.specs.declared.Active.{Active}
use Rattle.active.specs.Active.{entries_of}
use Rattle.ledger.specs.State.{view}
use Rattle.card.specs.Writing.{record_fields, card_bytes}
use Rattle.card.proofs.Written.{one_a_record, one_a_directive}
use Rattle.card_writing.proofs.WriteLaws.{card_size, put_card, fills_none, fills_short, fills_written, each_mapped}
use Rattle.card_writing.proofs.write.write.Goals.{Else-is_empty, After-as_slice-active}
use Rattle.card_writing.proofs.write.write.Goals as goal

-- the lists that the parts are written from are those of the ledger
record Lists (c : After-as_slice-active) : Type 0 where
  roles : c.roles-roles.result.now ≡ (view c.args.ledger.now).register.roles
  records : c.records-records.result.now ≡ (view c.args.ledger.now).register.records
  active : c.as_slice-active.result.now ≡ entries_of c.args.ledger.now.active

lists : (c : After-as_slice-active) → Lists c
lists c =
    record {
      roles = rw (c.roles-roles.ensures.value, c.register.ensures);
      records = rw (c.records-records.ensures.value, c.register-2.ensures);
      active = rw (c.as_slice-active.ensures.value, c.active.ensures);
    }

-- how many bytes the card has
size :
    (c : After-as_slice-active) →
    13 + length c.roles-roles.result.now + 13 * length c.records-records.result.now + 28 * length c.as_slice-active.result.now
    ≡ length (card_bytes (view c.args.ledger.now))
size c =
    let held = lists c in
    let counted : length c.as_slice-active.result.now ≡ length (view c.args.ledger.now).active = rw (held.active, length-map) in
    omega (arith, card_size (view c.args.ledger.now), ap length held.roles, ap length held.records, counted)

some : (c : Else-is_empty) → length c.records-records.result.now ≡ 0 → ⊥
some c e = both_ways (eq-eqb _ 0 e) (sym c.is_empty.ensures ∙ c.if-is_empty.false)

pub returns-then-is_empty : goal.returns-then-is_empty
returns-then-is_empty c invariant =
    let held = lists (goal.at.returns-then-is_empty c).After-as_slice-active in
    fills_none (rw held.records at (eqb-true _ 0 (sym c.is_empty.ensures ∙ c.if-is_empty.true)))

pub returns-then-buffer-size : goal.returns-then-buffer-size
returns-then-buffer-size c invariant =
    let at = goal.at.returns-then-buffer-size c in
    let held = lists at.After-as_slice-active in
    fills_short (rw held.records at (some at.Else-is_empty)) (omega (arith, size at.After-as_slice-active))

pub returns : goal.returns
returns c invariant =
    let at = goal.at.returns c in
    let held = lists at.After-as_slice-active in
    let each = each_mapped (λ (a : Active). a.directive) one_a_directive in
    fills_written (rw held.records at (some at.Else-is_empty)) _ (size at.After-as_slice-active) c.if-buffer-size.false
    (put_card (view c.args.ledger.now) c.args.buffer.now
    (rw (c.patient.ensures, c.clock.ensures) at c.put_field.ensures)
    (rw held.roles at c.put_roles_field.ensures)
    (rw (held.roles, held.records) at (c.put_fields.ensures record_fields one_a_record))
    (rw (held.roles, held.records, held.active) at (c.put_fields-2.ensures _ each)))
