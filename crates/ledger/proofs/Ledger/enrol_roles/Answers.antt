-- `Ledger::enrol_roles`: a tree of at most 16 keeps the invariant of a register without records.
use Prim.Native.Nat.{ℕ}
use mathlib.Core.Path.{sym, ap, ◌∙◌}
use native.Mathlib.Omega.{arith}
use mathlib.Core.List.{List}
use lib.ListN.{length}
use Rattle.std.proofs.Math.Seq.{take-append_seam}
use Rattle.register.specs.Register.{holding}
use Rattle.ledger.specs.State.{view}
use Rattle.ledger_model.proofs.Enrolled.{no_records, no_directives, sound_roles}
use Rattle.ledger.proofs.EnrolLaws.{enrolled}
use Rattle.ledger.proofs.Ledger.enrol_roles.Goals as goal

pub returns : goal.returns
returns c invariant =
    let l = c.args.self.now in
    let records = no_records (view l).register invariant.model.register c.requires.1 in
    let tree = sym c.is_tree.ensures ∙ c.if-not-is_tree.false in
    enrolled invariant _
    tree
    (no_directives (view l) invariant.model c.requires.1)
    (rw c.copy_from_slice.ensures.after (ap (λ (roles : List ℕ). holding roles (view l).register.records) (take-append_seam c.args.parents.now _)))
    (sound_roles (view l).register invariant.model.register c.args.parents.now c.requires.0 tree
    (λ h. omega (arith, ap length records)))
    c.requires.0
    invariant.shape.records_held
