-- `Ledger::brief`: where the invariant holds every token is live; one that is found answers question 22, and the brief is that of
-- its states.
use Prim.Native.Nat.{ℕ}
use mathlib.Core.Path.{◌≡◌, refl, sym, ap, ◌∙◌}
use mathlib.Core.Bool.{Bool, true, false, ◌&&◌}
use mathlib.Core.Logic.{⊎_elim}
use mathlib.Core.List.{List, [], ◌∷◌}
use native.Mathlib.Omega.{arith}
use lib.Dec.{eqb}
use Rattle.sets.specs.Quantifiers.{some_in, keep}
use Rattle.sets.proofs.Quantifiers.{either_way}
use Rattle.register.specs.declared.Record.{Record}
use Rattle.emergency.specs.declared.Token.{Token}
use Rattle.std.specs.Prelude.{Option, Some, None}
use Rattle.emergency.specs.Tokens.{states_of}
use Rattle.emergency.specs.Emergency.{brief_of}
use Rattle.ledger_model.specs.Model.{Model}
use Rattle.ledger.specs.State.{view}
use Rattle.ledger_model.specs.Answer.{done, refused}
use Rattle.ledger_model.specs.Questions.{first_no, live_tokens}
use Rattle.ledger_model.specs.Calls.{brief_by, briefed}
use Rattle.ledger_model.proofs.Soundness.{live_all}
use Rattle.ledger.proofs.Ledger.brief.Goals as goal

abbrev is_found : Option ℕ → Bool
is_found (Some s) = true
is_found None = false

some_found : (q : Token → Bool) (ts : List Token) → some_in q ts ≡ is_found (states_of (keep q ts))
unfolding some_in keep
some_found q [] = refl
some_found q (t ∷ ts) =
    ⊎_elim
    (λ (e : q t ≡ true). rw e)
    (λ (e : q t ≡ false). rw e (some_found q ts))
    (either_way (q t))

brief_found : (rs : List Record) (ts : List Token) (s : ℕ) → states_of ts ≡ Some s → brief_by rs ts ≡ brief_of rs s
brief_found rs [] s e = let z : ◌≡◌ {A = ℕ} 0 1 = cc in absurd (omega arith)
brief_found rs (t ∷ ts) s e = let f : t.states ≡ s = cc in rw f

module _ (m : Model) (n p : ℕ) where
  abbrev asked : Token → Bool
  asked t = eqb t.number n && eqb t.person p

  found : (s : ℕ) → states_of (keep asked (live_tokens m)) ≡ Some s → briefed m n p ≡ done (brief_of m.register.records s)
  unfolding briefed first_no
  found s e =
      let there = some_found asked (live_tokens m) ∙ ap is_found e in
      rw (there, brief_found m.register.records (keep asked (live_tokens m)) s e)

  nothing : states_of (keep asked (live_tokens m)) ≡ None → briefed m n p ≡ refused 22 []
  unfolding briefed first_no
  nothing e = rw (some_found asked (live_tokens m) ∙ ap is_found e)

pub returns-in-Some : goal.returns-in-Some
returns-in-Some c invariant =
    let is = sym c.states_of.ensures ∙ c.in-Some.is in
    rw c.brief_over.ensures
    (sym (found (view c.args.self.now) c.args.number c.args.person _ (rw (live_all _ invariant.model) is)))

pub returns-in-None : goal.returns-in-None
returns-in-None c invariant =
    let is = sym c.states_of.ensures ∙ c.in-None.is in
    sym (nothing (view c.args.self.now) c.args.number c.args.person (rw (live_all _ invariant.model) is))
