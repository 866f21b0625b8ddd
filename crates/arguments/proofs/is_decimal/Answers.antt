use Rattle.std.proofs.Common.{◌≡◌, true, rules, tests, arith, sym, ◌∙◌}
use Rattle.std.specs.Char.{is_ascii_digit}
use Rattle.std.specs.List.{list_all}
use Rattle.std.proofs.lemmas.Bool.Decides.{nat_tests}
use Rattle.std.proofs.lemmas.Iterator.{YieldsList-from_slice}
use Rattle.std.proofs.lemmas.Iterator.Search.{all_from_yields_List}
use Rattle.arguments.proofs.is_decimal.Goals as goal

pub returns-then-all : goal.returns-then-all
returns-then-all c =
    let text = c.args.text.now in
    let all = all_from_yields_List is_ascii_digit _ _ c.all.result c.all.ensures.ran (YieldsList-from_slice text cc) (λ x b q k. search (rules, tests)) in
    let passed : list_all is_ascii_digit text ≡ true = sym all ∙ c.if-all.true in
    rw passed (grind (arith, nat_tests))
