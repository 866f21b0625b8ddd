-- `TokenList::has_number`: `any` tells of the tokens that count whether one has the number.
use mathlib.Core.Path.{ap, ◌∙◌}
use mathlib.Core.Bool.{Bool}
use borrow.Author.Rules.{rules}
use Rattle.std.proofs.Common.{tests}
use Rattle.std.proofs.lemmas.Iterator.{YieldsList-from_slice}
use Rattle.std.proofs.lemmas.Iterator.Search.{any_from_yields_List}
use lib.Dec.{eqb}
use Rattle.sets.specs.Quantifiers.{some_in}
use Rattle.emergency.specs.declared.Token.{Token}
use Rattle.emergency.proofs.TokenLaws.{any_token}
use Rattle.emergency.proofs.TokenList.has_number.Goals as goal

pub returns : goal.returns
returns c =
    let has : Token → Bool = λ k. eqb k.number c.args.number in
    let tokens = c.as_slice.result.now in
    any_from_yields_List has _ _ _ c.any.ensures.ran (YieldsList-from_slice tokens cc) (λ x b q k. search (rules, tests))
    ∙ any_token has tokens
    ∙ ap (some_in has) c.as_slice.ensures.value
