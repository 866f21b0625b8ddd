-- What the directives say is what XACML 3.0's deny-overrides and permit-overrides say, since all that match are of one effect.
use Prim.Native.Nat.{◌<◌}
use mathlib.Core.Path.{◌≡◌, refl, sym, ◌∙◌}
use mathlib.Core.Bool.{Bool, true, false}
use mathlib.Core.Logic.{⊎_elim}
use mathlib.Core.List.{List, [], ◌∷◌, map, Memᴰ}
use Rattle.sets.specs.Quantifiers.{pick, some_in, keep}
use Rattle.sets.proofs.Quantifiers.{same_test, either_way, some_list}
use Rattle.register.specs.Register.{Contents}
use Rattle.directive.specs.declared.Directive.{Directive}
use Rattle.directive.specs.declared.Request.{Request}
use Rattle.directive.specs.declared.Query.{Query}
use Rattle.directive.specs.Matching.{matches, request_at}
use Rattle.validation_meaning.specs.Requests.{persons, InRange}
use Rattle.ledger.specs.declared.Ledger.{Ledger}
use Rattle.ledger.specs.Answer.{DecideAnswer}
use Rattle.ledger_model.specs.Model.{Model}
use Rattle.ledger.specs.State.{view}
use Rattle.directive.specs.Lowest.{lowest}
use Rattle.ledger_model.specs.Decision.{matching, is_patient, is_author, decision}
use Rattle.ledger_model.specs.Xacml.{Result, Permit, Deny, NotApplicable, is_permit, is_deny, deny_overrides, permit_overrides, result_of, results, directives_say, effect_of}
use Rattle.ledger_model.specs.Questions.{passes, decide_questions}
use Rattle.ledger_model.specs.Invariant.{ModelInvariant}
use Rattle.ledger.specs.Invariant.{Invariant}
use Rattle.ledger.specs.Promises.{Decides}
use Rattle.ledger_model.proofs.Lowest.{lowest_is}
use Rattle.ledger_model.proofs.Clash.{no_clash_at}
use Rattle.ledger_model.proofs.Saying.{in_range_now, said_effect}
use Rattle.demands.specs.Demands.{effect_and_basis, effect_values}
use Rattle.demands.proofs.Decisions.{decided_kept}

module _ {A : Type 0} (p : A → Bool) where
  -- what is kept is of the list, and passes
  keep_read : (l : List A) (a : A) → Memᴰ a (keep p l) → Memᴰ a l × (p a ≡ true)
  unfolding keep
  keep_read [] a i = elim i [ ]
  keep_read (x ∷ l) a i =
      let further : Memᴰ a (keep p l) → Memᴰ a (x ∷ l) × (p a ≡ true) =
      λ j. let (there, passed) = keep_read l a j in (mathlib.Core.List.Memᴰ.tail there, passed)
      in
      ⊎_elim
      (λ (e : p x ≡ true). ⊎_elim (λ same. (mathlib.Core.List.Memᴰ.head same, rw same e)) further (mathlib.Core.List.Memᴰ.cases_cons (rw e at i)))
      (λ (e : p x ≡ false). further (rw e at i))
      (either_way (p x))

  -- where the test says the same of all
  some_same : (l : List A) (x : A) → Memᴰ x l → ((a : A) → Memᴰ a l → p a ≡ p x) → some_in p l ≡ p x
  some_same l x i f =
      same_test (some_in p l) (p x)
      (λ t. let (a, j, e) = (some_list l).read p t in sym (f a j) ∙ e)
      ((some_list l).make p x i)

-- all active directives that match a request in range are of one effect
one_effect :
    (m : Model) → ModelInvariant m → (d e : Directive) → Memᴰ d m.active → Memᴰ e m.active →
    (q : Request) → InRange m.register m.clock q →
    matches m.register d q ≡ true → matches m.register e q ≡ true → d.permit ≡ e.permit
one_effect m h d e i j q range by_d by_e =
    same_test d.permit e.permit
    (λ permits.
    ⊎_elim (λ t. t) (λ denies. absurd (no_clash_at m h d e i j permits denies q range by_d by_e)) (either_way e.permit))
    (λ permits.
    ⊎_elim (λ t. t) (λ denies. absurd (no_clash_at m h e d j i permits denies q range by_e by_d)) (either_way d.permit))

-- the effect of a directive, as a result
effect : Directive → Result
effect d = pick d.permit Permit Deny

-- of what does not match, a result's test says nothing
module _ (f : Result → Bool) (silent : f NotApplicable ≡ false) where
  some_results :
      (c : Contents) (q : Request) (ds : List Directive) →
      some_in f (map (result_of c q) ds) ≡ some_in (λ d. f (effect d)) (keep (λ d. matches c d q) ds)
  unfolding some_in keep effect
  some_results c q [] = refl
  some_results c q (d ∷ ds) =
      ⊎_elim
      (λ (e : matches c d q ≡ true). rw (e, some_results c q ds))
      (λ (e : matches c d q ≡ false). rw (e, silent, some_results c q ds))
      (either_way (matches c d q))

  some_said :
      (ds : List Directive) → ((d e : Directive) → Memᴰ d ds → Memᴰ e ds → d.permit ≡ e.permit) →
      some_in (λ d. f (effect d)) ds ≡ f (directives_say ds)
  unfolding some_in effect
  some_said [] g = sym silent
  some_said (d ∷ ds) g =
      let least = (lowest_is d ds).among in
      some_same (λ d. f (effect d)) (d ∷ ds) (lowest d ds) least (λ a i. rw (g a (lowest d ds) i least))

-- a result that is combined alone stays what it is
by_deny : (r : Result) → r ≡ pick (is_deny r) Deny (pick (is_permit r) Permit NotApplicable)
by_deny Permit = refl
by_deny Deny = refl
by_deny NotApplicable = refl

by_permit : (r : Result) → r ≡ pick (is_permit r) Permit (pick (is_deny r) Deny NotApplicable)
by_permit Permit = refl
by_permit Deny = refl
by_permit NotApplicable = refl

module _
    (m : Model) (h : ModelInvariant m) (q : Query) (person : q.requester.person < persons)
    (passed : passes (decide_questions m q) ≡ true)
  where
    results_say :
        (f : Result → Bool) → f NotApplicable ≡ false → some_in f (results m q) ≡ f (directives_say (matching m q))
    results_say f silent =
        let now = request_at q m.clock in
        let read = keep_read (λ d. matches m.register d now) m.active in
        some_results f silent m.register now m.active
        ∙ some_said f silent (matching m q) λ d e i j.
        one_effect m h d e (read d i).0 (read e j).0 now (in_range_now m h q person passed) (read d i).1 (read e j).1

    pub by_deny_overrides : directives_say (matching m q) ≡ deny_overrides (results m q)
    unfolding deny_overrides
    by_deny_overrides = rw (results_say is_deny refl, results_say is_permit refl) (by_deny (directives_say (matching m q)))

    pub by_permit_overrides : directives_say (matching m q) ≡ permit_overrides (results m q)
    unfolding permit_overrides
    by_permit_overrides = rw (results_say is_deny refl, results_say is_permit refl) (by_permit (directives_say (matching m q)))

-- "outside the baseline a combined NotApplicable leads to basis 4", and another result to its effect and basis 3
pub by_combined :
    (l : Ledger) → Invariant l → (q : Query) (a : DecideAnswer) → q.requester.person < persons → Decides l q a →
    passes (decide_questions (view l) q) ≡ true → is_patient (view l) q ≡ false → is_author (view l) q ≡ false →
    (effect_and_basis a ≡ effect_values (effect_of (view l) q (deny_overrides (results (view l) q))))
    × (effect_and_basis a ≡ effect_values (effect_of (view l) q (permit_overrides (results (view l) q))))
unfolding decision
by_combined l h q a person decides passed stranger reader =
    let said : effect_and_basis a ≡ effect_values (effect_of (view l) q (directives_say (matching (view l) q))) =
    rw (decided_kept l h q a decides passed, stranger, reader) (said_effect (view l) q (matching (view l) q)) in (
      rw (← (by_deny_overrides (view l) h.model q person passed)) said,
      rw (← (by_permit_overrides (view l) h.model q person passed)) said,
    )
