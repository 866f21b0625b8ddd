-- `decision::decide_by`: question 17, then the first two bases; otherwise the directives decide.
use Prim.Native.Nat.{ℕ}
use mathlib.Core.Path.{◌≡◌, sym, ap, ◌∙◌}
use mathlib.Core.Bool.{Bool, true, false}
use mathlib.Core.Logic.{inl, inr}
use mathlib.Core.List.{[], ◌∷◌}
use borrow.Author.Tests.{eq-eqb, ne_eqb}
use Rattle.register.specs.declared.Record.{Record}
use Rattle.register.specs.Records.{record_at}
use Rattle.register.specs.Register.{Contents, contents}
use Rattle.directive.specs.declared.Query.{Query}
use Rattle.ledger_model.specs.Model.{Model}
use Rattle.ledger_model.specs.Answer.{done, refused}
use Rattle.ledger_model.specs.Decision.{is_patient, is_author, decision}
use Rattle.ledger_model.specs.Questions.{first_no, is_in_range}
use Rattle.ledger_model.specs.Calls.{decided}
use Rattle.ledger.specs.Opening.{Undecided}
use Rattle.ledger.proofs.decision.decide_by.Goals as goal

module _ (m : Model) (q : Query) where
  outside : is_in_range m.register q ≡ false → refused 17 [] ≡ decided m q
  unfolding decided first_no decision
  outside e = rw e

  module _ (inside : is_in_range m.register q ≡ true) where
    patient : is_patient m q ≡ true → done (1 ∷ 1 ∷ []) ≡ decided m q
    unfolding decided first_no decision
    patient e = rw (inside, e)

    author : is_patient m q ≡ false → is_author m q ≡ true → done (1 ∷ 2 ∷ []) ≡ decided m q
    unfolding decided first_no decision
    author p e = rw (inside, p, e)

-- the record asked for, of the model's register
module _ (m : Model) (q : Query) {g : Contents} (held : m.register ≡ g) where
  ranged : (b : Bool) → is_in_range g q ≡ b → is_in_range m.register q ≡ b
  ranged b e = ap (λ (x : Contents). is_in_range x q) held ∙ e

  field :
      {r : Record} (part : Record → ℕ) → r ≡ record_at g.records q.«record» →
      part r ≡ part (record_at m.register.records q.«record»)
  field part e = ap part e ∙ ap (λ (x : Contents). part (record_at x.records q.«record»)) (sym held)

pub returns-then-not-in_range : goal.returns-then-not-in_range
returns-then-not-in_range g c =
    let q = c.args.q in
    let refusal =
    λ (m : Model) (held : m.register ≡ contents c.args.register.now). outside m q (ranged m q held false (sym c.in_range.ensures ∙ c.if-not-in_range.true)) in
    record {
      before_directives = λ m same held. inl (refusal m held);
      decision = λ m same held lowest. refusal m held;
    }

pub returns-then-q-patient : goal.returns-then-q-patient
returns-then-q-patient g c =
    let q = c.args.q in
    let first =
    λ (m : Model) (same : m.patient ≡ c.args.patient) (held : m.register ≡ contents c.args.register.now). patient m q
    (ranged m q held true (sym c.in_range.ensures ∙ c.if-not-in_range.false))
    (eq-eqb _ _ (c.if-q-patient.true ∙ sym same)) in
    record {
      before_directives = λ m same held. inl (first m same held);
      decision = λ m same held lowest. first m same held;
    }

pub returns-then-q-record : goal.returns-then-q-record
returns-then-q-record g c =
    let q = c.args.q in
    let second =
    λ (m : Model) (same : m.patient ≡ c.args.patient) (held : m.register ≡ contents c.args.register.now). author m q
    (ranged m q held true (sym c.in_range.ensures ∙ c.if-not-in_range.false))
    (ne_eqb _ _ (λ e. c.if-q-patient.false (e ∙ same)))
    (eq-eqb _ _ (c.if-q-record.true ∙ field m q held (λ r. r.author) (c.record_at-record.ensures ∙ rw c.from.ensures))) in
    record {
      before_directives = λ m same held. inl (second m same held);
      decision = λ m same held lowest. second m same held;
    }

pub returns : goal.returns
returns g c =
    let q = c.args.q in
    let asked = c.record_at-record.ensures ∙ rw c.from.ensures in
    let past : (m : Model) → m.patient ≡ c.args.patient → m.register ≡ contents c.args.register.now → Undecided m q c.record_at-record.result.origins =
    λ m same held. record {
      inside = ranged m q held true (sym c.in_range.ensures ∙ c.if-not-in_range.false);
      no_patient = ne_eqb _ _ (λ e. c.if-q-patient.false (e ∙ same));
      no_author = ne_eqb _ _ (λ e. c.if-q-record.false (e ∙ sym (field m q held (λ r. r.author) asked)));
      default = field m q held (λ r. r.origins) asked;
    } in
    record {
      before_directives = λ m same held. inr (rw (sym asked) (past m same held));
      decision = λ m same held lowest.
          c.by_directives.ensures m (past m same held) (lowest c.lowest_match.result (rw c.at.ensures at c.lowest_match.ensures));
    }
