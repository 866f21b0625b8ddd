-- The models by which a card's comes about are sound: a patient and a clock and nothing else, then roles, then one record more.
use Prim.Native.Nat.{ℕ, zero, suc, ◌^◌, ◌<◌, ◌≤◌}
use mathlib.Core.Path.{◌≡◌, refl, ap}
use mathlib.Core.Bool.{true}
use mathlib.Core.List.{List, [], ◌∷◌, ◌++◌}
use native.Mathlib.Numerals.{add-one}
use native.Mathlib.Omega.{arith}
use borrow.Author.Tests.{ltb-true, lt-ltb}
use lib.ListN.{length, length-append, take, get_or-append}
use lib.Seq.{take-append-le, take-append_seam, get_or-append_seam}
use Rattle.sets.specs.Quantifiers.{all_below, all_in, pairwise}
use Rattle.sets.proofs.Ranges.{all_same}
use Rattle.sets.proofs.Quantifiers.{and_left, and_right}
use Rattle.sets.proofs.Lists.{none_in, all_snoc}
use Rattle.register.specs.declared.Record.{Record}
use Rattle.register.specs.Register.{Contents, role_places, record_places, no_record}
use Rattle.register.specs.Tree.{is_tree}
use Rattle.register.specs.Records.{record_at}
use Rattle.register.specs.Form.{record_fits, record_widths}
use Rattle.directive.specs.declared.Directive.{Directive}
use Rattle.ledger_model.specs.Model.{Model, beginning, empty_model, with_register}
use Rattle.ledger_model.specs.Invariant.{RegisterInvariant, stands, ModelInvariant}

pub beginning_sound : (patient clock : ℕ) → patient < 2 ^ 16 → clock < 2 ^ 32 → ModelInvariant (beginning patient clock)
unfolding all_below all_in pairwise is_tree
beginning_sound patient clock p t =
    record {
      patient_in = lt-ltb patient (2 ^ 16) p;
      clock_in = lt-ltb clock (2 ^ 32) t;
      register =
          record {
            roles_few = omega arith;
            roles_tree = refl;
            records_few = omega arith;
            records_fit = refl;
            records_wide = refl;
            roles_with_records = λ h. absurd (omega arith);
          };
      active_few = omega arith;
      active_stand = refl;
      active_differ = refl;
      baseline_kept = refl;
      no_clash = refl;
      tokens_few = omega arith;
      tokens_live = refl;
      tokens_differ = refl;
    }

pub empty_model_sound : ModelInvariant empty_model
empty_model_sound = beginning_sound 0 0 (omega arith) (omega arith)

-- another register, where there are no directives yet
pub sound_with : (m : Model) (c : Contents) → ModelInvariant m → m.active ≡ [] → RegisterInvariant c → ModelInvariant (with_register m c)
unfolding all_in pairwise
sound_with m c h none register =
    record {
      patient_in = h.patient_in;
      clock_in = h.clock_in;
      register = register;
      active_few = h.active_few;
      active_stand = rw none;
      active_differ = h.active_differ;
      baseline_kept = rw none;
      no_clash = rw none;
      tokens_few = h.tokens_few;
      tokens_live = h.tokens_live;
      tokens_differ = h.tokens_differ;
    }

module _ (c : Contents) (h : RegisterInvariant c) where
  -- other roles
  pub sound_roles :
      (s : List ℕ) → length s ≤ role_places → is_tree s ≡ true → (0 < length c.records → 0 < length s) →
      RegisterInvariant (record { roles = s; records = c.records })
  sound_roles s few tree with_records =
      record {
        roles_few = few;
        roles_tree = tree;
        records_few = h.records_few;
        records_fit = h.records_fit;
        records_wide = h.records_wide;
        roles_with_records = with_records;
      }

  -- one record more
  pub sound_record :
      (r : Record) → 0 < length c.roles → length c.records < record_places → record_fits c.records r ≡ true →
      record_widths r ≡ true → RegisterInvariant (record { roles = c.roles; records = c.records ++ (r ∷ []) })
  unfolding all_below
  sound_record r role place fits wide =
      let rs = c.records in
      let more = rs ++ (r ∷ []) in
      let earlier =
      all_same (λ x. record_fits (take x rs) (record_at rs x)) (λ x. record_fits (take x more) (record_at more x)) (length rs)
      (λ x h. rw (take-append-le x rs (r ∷ []) (omega arith), get_or-append rs (r ∷ []) no_record x h))
      in
      record {
        roles_few = h.roles_few;
        roles_tree = h.roles_tree;
        records_few = rw length-append (omega arith);
        records_fit =
            rw (
              length-append,
              add-one,
              take-append_seam rs (r ∷ []),
              get_or-append_seam rs r [] no_record,
              fits,
              ← earlier,
              h.records_fit,
            );
        records_wide = all_snoc record_widths rs r h.records_wide wide;
        roles_with_records = λ _. role;
      }

-- without roles there are no records, and so no directives
pub no_records : (c : Contents) → RegisterInvariant c → length c.roles ≡ 0 → c.records ≡ []
no_records c h e = none_in c.records (by (length c.records) h.roles_with_records)
  where
    by : (n : ℕ) → (0 < n → 0 < length c.roles) → n ≡ 0
    by zero f = refl
    by (suc n) f = absurd (omega (arith, f (omega arith)))

none_stand : (m : Model) (ds : List Directive) → all_in (stands m) ds ≡ true → length m.register.records ≡ 0 → ds ≡ []
unfolding all_in
none_stand m [] e z = refl
none_stand m (d ∷ ds) e z =
    absurd (omega (arith, ltb-true d.«record» (length m.register.records) (search (and_left, and_right))))

pub no_directives : (m : Model) → ModelInvariant m → length m.register.roles ≡ 0 → m.active ≡ []
no_directives m h e =
    none_stand m m.active h.active_stand (ap length (no_records m.register h.register e))
