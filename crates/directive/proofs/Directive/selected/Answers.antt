-- `Directive::selected`: after x turns the two sets have the descendants and the selected records below x.
use mathlib.Core.Path.{◌≡◌, sym, ap, ◌∙◌}
use native.Mathlib.Omega.{arith}
use borrow.Author.Rules.{rules}
use borrow.Author.Tests.{le-ltb}
use mathlib.Core.Bool.{◌&&◌}
use mathlib.Core.List.{List}
use Prim.Native.Nat.{◌<◌}
use lib.ListN.{length, get_or, get_or-map}
use Rattle.register.specs.declared.Record.{Record}
use Rattle.register.specs.Register.{no_record, contents}
use Rattle.register.specs.Records.{descendant, parents, reaches}
use Rattle.register.specs.Tree.{parent_of}
use Rattle.directive.specs.Selection.{passes_filters, selects}
use Rattle.sets.proofs.FillLaws.{below_next, below_all}
use Rattle.directive.proofs.SelectLaws.{descends, reached, selects_here, selects_past}
use Rattle.directive.proofs.Directive.selected.Goals.{After-takes-takes}
use Rattle.directive.proofs.Directive.selected.Goals as goal

pub loop-x-init : goal.loop-x-init
loop-x-init c =
    record {
      few = search rules;
      low = search rules;
      high = search rules;
      descendants = λ k h. c.empty-below.ensures k ∙ rw (le-ltb k 0 (search rules));
      selection = λ k h. c.empty-chosen.ensures k ∙ rw (le-ltb k 0 (search rules));
    }

pub loop-x-preserved : goal.loop-x-preserved
loop-x-preserved c =
    let d = c.args.self.now in
    let rs = (contents c.args.register.now).records in
    let now = c.loop-x in
    let there : now.x < length rs = omega (arith, ap length c.records-r-items.ensures.value) in
    let parent : parent_of (parents rs) now.x ≡ c.from-p.result =
    get_or-map (λ (r : Record). r.parent) rs now.x no_record
    ∙ sym (c.from-p.ensures ∙ ap (λ (l : List Record). (get_or l now.x no_record).parent) c.records-r-items.ensures.value) in
    let below : c.is_below-descendant.result ≡ descendant rs d.«record» now.x =
    descends rs now.x _ parent now.below d.«record» (omega arith) now.invariant.descendants
    (rw c.from-root.ensures at c.is_below-descendant.ensures) in
    let taken : c.takes-takes.result ≡ selects rs d now.x =
    c.takes-takes.ensures
    ∙ rw (c.is_parent-child.ensures, c.from-root.ensures, below, reached rs now.x _ parent d.reach d.«record»)
    (ap (λ (l : List Record). reaches rs d.reach d.«record» now.x && passes_filters (get_or l now.x no_record) d) c.records-r-items.ensures.value)
    ∙ sym (selects_here rs d now.x there) in
    record {
      few = now.invariant.few;
      low = search rules;
      high = search rules;
      descendants = below_next _ _ _ now.x _ now.invariant.descendants below c.with_where-below.ensures;
      selection = below_next _ _ _ now.x _ now.invariant.selection taken c.with_where-chosen.ensures;
    }

pub returns : goal.returns
returns c =
    let now = c.loop-x in
    below_all _ _ now.x now.invariant.low now.invariant.high now.invariant.selection
    (λ k h l.
    selects_past (contents c.args.register.now).records c.args.self.now k
    (omega (arith, ap length c.records-r-items.ensures.value)))
