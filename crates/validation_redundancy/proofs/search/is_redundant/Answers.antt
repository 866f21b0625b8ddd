-- `search::is_redundant` searches the tables, and so finds what is meant.
use Prim.Native.Nat.{◌<◌}
use mathlib.Core.Path.{◌≡◌, sym, ◌∙◌}
use mathlib.Core.List.{List}
use native.Mathlib.Omega.{arith}
use borrow.Author.Rules.{rules}
use lib.ListN.{length, length-map}
use Rattle.register.specs.declared.Record.{Record}
use Rattle.register.specs.Register.{holding}
use Rattle.active.specs.Active.{entries_of, directives_of}
use Rattle.validation_meaning.specs.Search.{redundant_found}
use Rattle.validation_meaning.proofs.Exact.{redundant_exact}
use Rattle.validation_conflict.specs.Given.{Given}
use Rattle.validation_redundancy.specs.declared.tables.Tables.{Tables}
use Rattle.validation_redundancy.proofs.TableLaws.{TablesOf, few, redundant_by_tables}
use Rattle.validation_redundancy.proofs.search.is_redundant.Goals as goal

pub returns : goal.returns
returns c =
    let args = c.args in
    let roles = args.parents.now in
    let a = args.a.now in
    let list = args.list.now in
    let tables : Tables =
    record {
      by_origin = c.table-by_origin.result;
      by_purpose = c.table-by_purpose.result;
      roles = c.standing_roles-roles.result;
      by_role = c.table-by_role.result;
      minutes = c.minutes_of-minutes.result;
    } in
    let are : TablesOf roles args.clock a.directive (entries_of list) tables =
    record {
      by_origin = c.table-by_origin.ensures _ (λ k m h. search rules);
      by_purpose = c.table-by_purpose.ensures _ (λ k m h. search rules);
      roles_are = c.standing_roles-roles.ensures;
      by_role = c.table-by_role.ensures _ (λ k m h. search rules);
      minutes = c.minutes_of-minutes.ensures.masks;
    } in
    let found : (rs : List Record) → Given rs a list → c.all_covered.result ≡ redundant_found (holding roles rs) args.clock a.directive (directives_of list) =
    λ rs given. redundant_by_tables roles rs args.clock a list given c.requires tables are c.all_covered.ensures in
    record {
      searched = found;
      meant = λ rs given fit.
          let fewer : length (directives_of list) < 65536 = rw length-map (omega (arith, few roles rs args.clock a list given c.requires tables are)) in
          found rs given ∙ sym (redundant_exact _ args.clock a.directive (directives_of list) fit fewer);
    }
