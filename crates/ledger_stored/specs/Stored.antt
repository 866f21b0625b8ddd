-- The ledger that a stored one stands for, and how a ledger is stored. No definition of document 01 rests on it.
use Rattle.std.specs.Prelude.{ℕ, not, map, nat_eq}
use Rattle.sets.specs.Quantifiers.{one_if}
use Rattle.register.specs.Records.{reach_number, reach_of}
use Rattle.directive.specs.declared.Directive.{Directive}
use Rattle.directive.specs.Matching.{subject_named, is_role, number_of}
use Rattle.active.specs.declared.Active.{Active}
use Rattle.active.specs.declared.ActiveList.{ActiveList}
use Rattle.emergency.specs.declared.Token.{Token}
use Rattle.ledger.specs.declared.Ledger.{Ledger}
use Rattle.ledger.specs.State.{ledger_from}
use Rattle.ledger_stored.specs.declared.StoredActive.{StoredActive}
use Rattle.ledger_stored.specs.declared.StoredToken.{StoredToken}
use Rattle.ledger_stored.specs.declared.StoredLedger.{StoredLedger}

-- what a stored ledger begins with: a name, and in the two lowest bytes the version of its layout
abbrev pub the_stamp : ℕ
the_stamp = 0x4E6577656C730001

-- how many bytes a stored ledger has
abbrev pub the_size : ℕ
the_size = 2928

-- A kind other than 0 is a role's, an effect other than 0 is permit, and a reach past the last takes nothing and is kept.
unfoldable pub directive_of : StoredActive → Directive
directive_of t =
    record {
      number = t.number;
      permit = not (nat_eq t.permit 0);
      subject = subject_named (not (nat_eq t.kind 0)) t.subject;
      subject_origins = t.subject_origins;
      «record» = t.«record»;
      reach = reach_of t.reach;
      origins = t.origins;
      sensitivities = t.sensitivities;
      kinds = t.kinds;
      purposes = t.purposes;
      from = t.from;
      until = t.until;
    }

unfoldable pub active_of : StoredActive → Active
active_of t = record { directive = directive_of t; selected = record { low = t.low; high = t.high } }

unfoldable pub stored_active : Active → StoredActive
stored_active a =
    record {
      low = a.selected.low;
      high = a.selected.high;
      from = a.directive.from;
      until = a.directive.until;
      number = a.directive.number;
      subject = number_of a.directive.subject;
      subject_origins = a.directive.subject_origins;
      origins = a.directive.origins;
      sensitivities = a.directive.sensitivities;
      purposes = a.directive.purposes;
      permit = one_if a.directive.permit;
      kind = one_if (is_role a.directive.subject);
      «record» = a.directive.«record»;
      reach = reach_number a.directive.reach;
      kinds = a.directive.kinds;
      unused_1 = 0;
      unused_2 = 0;
      unused_3 = 0;
    }

unfoldable pub token_of : StoredToken → Token
token_of t = record { number = t.number; person = t.person; states = t.states; until = t.until }

unfoldable pub stored_token : Token → StoredToken
stored_token k =
    record {
      until = k.until;
      number = k.number;
      person = k.person;
      states = k.states;
      unused_1 = 0;
      unused_2 = 0;
    }

-- the active list that a stored ledger stands for
abbrev pub active_list : StoredLedger → ActiveList
active_list t = record { entries = map active_of t.active; count = t.active_count }

unfoldable pub ledger_of : StoredLedger → Ledger
ledger_of t =
    ledger_from t.patient t.clock t.register (active_list t)
    (record { tokens = map token_of t.tokens; count = t.token_count })

unfoldable pub stored_of : Ledger → StoredLedger
stored_of l =
    record {
      stamp = the_stamp;
      clock = l.clock;
      patient = l.patient;
      unused = 0;
      register = l.register;
      active = map stored_active l.active.entries;
      active_count = l.active.count;
      tokens = map stored_token l.tokens.tokens;
      token_count = l.tokens.count;
    }
