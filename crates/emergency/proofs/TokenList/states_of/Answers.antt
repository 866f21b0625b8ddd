-- `TokenList::states_of`: the first of the tokens with the number for the person is the first of those kept.
use mathlib.Core.Path.{ap, ◌∙◌}
use mathlib.Core.Bool.{Bool, ◌&&◌}
use mathlib.Core.List.{List}
use borrow.Author.Rules.{rules}
use Rattle.std.specs.Option.{option_map}
use Rattle.std.proofs.Common.{tests}
use Rattle.std.proofs.lemmas.Iterator.{YieldsList-from_slice}
use Rattle.std.proofs.lemmas.Iterator.Search.{find_from_yields_List}
use lib.Dec.{eqb}
use Rattle.sets.specs.Quantifiers.{keep}
use Rattle.emergency.specs.declared.Token.{Token}
use Rattle.emergency.specs.Tokens.{states_of}
use Rattle.emergency.proofs.TokenLaws.{first_kept, states_read}
use Rattle.emergency.proofs.TokenList.states_of.Goals as goal

pub returns : goal.returns
returns c =
    let has : Token → Bool = λ k. eqb k.number c.args.number && eqb k.person c.args.person in
    let tokens = c.as_slice.result.now in
    states_read c.find.result c.map.result (λ k v r. search (rules, tests)) c.map.ensures.cases
    ∙ ap (option_map (λ k. k.states))
    (find_from_yields_List has _ _ c.find.result c.find.ensures.ran (YieldsList-from_slice tokens cc) (λ x b q k. search (rules, tests)))
    ∙ first_kept has tokens
    ∙ ap (λ (l : List Token). states_of (keep has l)) c.as_slice.ensures.value
