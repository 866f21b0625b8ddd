-- The token list of a ledger: its view, and what the walks over it give. No promise of a call rests on what they give.
use Rattle.std.specs.Prelude.{ℕ, ◌+◌, ◌≤◌, ◌≡◌, not, List, [], ◌∷◌, ◌++◌, take, replicate, nat_le, Option, None, Some}
use Rattle.sets.specs.Quantifiers.{keep}
use Rattle.emergency.specs.declared.Token.{Token}
use Rattle.emergency.specs.declared.TokenList.{TokenList}

-- "Fewer than 4 live?"
abbrev pub token_places : ℕ
token_places = 4

-- the view: "tokens stand in order of issue"
abbrev pub tokens_of : TokenList → List Token
tokens_of l = take l.count l.tokens

-- what stands where there is no token
abbrev pub no_token : Token
no_token = record { number = 0; person = 0; states = 0; until = 0 }

unfoldable pub empty_tokens : TokenList
empty_tokens = record { tokens = replicate token_places no_token; count = 0 }

-- "issue puts its token last"
pub record Pushed (l : TokenList) (t : Token) (r : TokenList) : Type 0 where
  pub count : r.count ≡ l.count + 1
  pub tokens : tokens_of r ≡ tokens_of l ++ (t ∷ [])

-- advance to minute t "takes out .. the tokens with until <= clock"
pub record LiveOf (t : ℕ) (l r : TokenList) : Type 0 where
  pub few : r.count ≤ token_places
  pub tokens : tokens_of r ≡ keep (λ k. not (nat_le k.until t)) (tokens_of l)

-- the states of the first of these tokens
abbrev pub states_of : List Token → Option ℕ
states_of [] = None
states_of (t ∷ ts) = Some t.states
