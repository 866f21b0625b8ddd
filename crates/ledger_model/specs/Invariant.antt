-- What the model of every ledger that document 01 means satisfies: "the empty one, what reading gives, and what the calls make
-- of these".
use Rattle.std.specs.Prelude.{ℕ, ◌<◌, ◌≤◌, ◌≡◌, Bool, true, ◌&&◌, not, length, take, nat_eq, nat_lt}
use Rattle.sets.specs.Quantifiers.{all_below, all_in, pairwise}
use Rattle.sets.specs.Bits.{in_bits, non_empty_set}
use Rattle.register.specs.Register.{Contents, role_places, record_places}
use Rattle.register.specs.Tree.{is_tree}
use Rattle.register.specs.Records.{record_at}
use Rattle.register.specs.Form.{record_fits, record_widths}
use Rattle.directive.specs.declared.Directive.{Directive}
use Rattle.directive.specs.Places.{active_places}
use Rattle.drafts.specs.Form.{well_formed}
use Rattle.validation_meaning.specs.Meaning.{conflict, breaks_baseline}
use Rattle.emergency.specs.declared.Token.{Token}
use Rattle.emergency.specs.Tokens.{token_places}
use Rattle.ledger_model.specs.Model.{Model}
use Rattle.ledger_model.specs.Questions.{in_register, has_minutes}

-- at most 16 roles and 128 records, each within its ranges, and roles wherever there are records
pub record RegisterInvariant (c : Contents) : Type 0 where
  pub roles_few : length c.roles ≤ role_places
  pub roles_tree : is_tree c.roles ≡ true
  pub records_few : length c.records ≤ record_places
  pub records_fit : all_below (length c.records) (λ x. record_fits (take x c.records) (record_at c.records x)) ≡ true
  pub records_wide : all_in record_widths c.records ≡ true
  pub roles_with_records : 0 < length c.records → 0 < length c.roles

-- an active directive has passed 7, 8 and 9, and has not run out
abbrev pub stands : Model → Directive → Bool
stands m d = well_formed d && in_register m.register d && has_minutes m.clock d

-- a token is live, of the widths of its numbers, and has a state
abbrev pub token_stands : ℕ → Token → Bool
token_stands clock t =
    nat_lt clock t.until
    && in_bits 16 t.number
    && in_bits 16 t.person
    && non_empty_set 8 t.states
    && in_bits 32 t.until

pub record ModelInvariant (m : Model) : Type 0 where
  pub patient_in : in_bits 16 m.patient ≡ true
  pub clock_in : in_bits 32 m.clock ≡ true
  pub register : RegisterInvariant m.register
  pub active_few : length m.active ≤ active_places
  pub active_stand : all_in (stands m) m.active ≡ true
  pub active_differ : pairwise (λ d e. not (nat_eq d.number e.number)) m.active ≡ true
  pub baseline_kept : all_in (λ d. not (breaks_baseline m.register m.patient m.clock d)) m.active ≡ true
  pub no_clash : pairwise (λ d e. not (conflict m.register m.clock d e)) m.active ≡ true
  pub tokens_few : length m.tokens ≤ token_places
  pub tokens_live : all_in (token_stands m.clock) m.tokens ≡ true
  pub tokens_differ : pairwise (λ t k. not (nat_eq t.number k.number)) m.tokens ≡ true
