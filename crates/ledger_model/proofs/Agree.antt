-- The reference model by what is meant and by what is found agree.
use Prim.Native.Nat.{ℕ, ◌<◌}
use mathlib.Core.Path.{◌≡◌, refl, sym, ◌∙◌}
use mathlib.Core.Bool.{true}
use mathlib.Core.Logic.{⊎_elim}
use mathlib.Core.List.{List, Memᴰ}
use native.Mathlib.Omega.{arith}
use borrow.Author.Tests.{ltb-true}
use lib.ListN.{length}
use lib.Dec.{eqb}
use Rattle.sets.specs.Quantifiers.{all_in}
use Rattle.sets.specs.Numbers.{is_bytes}
use Rattle.sets.proofs.Quantifiers.{either_way, and_left, and_right, every_list}
use Rattle.sets.proofs.Lists.{some_alike, keep_alike}
use Rattle.register.specs.Register.{Contents}
use Rattle.directive.specs.declared.Subject.{Subject}
use Rattle.directive.specs.declared.Subject.TheVariants.{Person, Role}
use Rattle.directive.specs.declared.Directive.{Directive}
use Rattle.drafts.specs.declared.Draft.{Draft}
use Rattle.drafts.specs.Form.{draft_size, draft_of, directive_of}
use Rattle.directive.specs.Matching.{number_of}
use Rattle.drafts.proofs.FormLaws.{number_of_named, formed, Widths, bytes_wide}
use Rattle.validation_meaning.specs.Requests.{persons}
use Rattle.validation_meaning.specs.Meaning.{conflict}
use Rattle.validation_meaning.specs.Search.{conflict_found, SubjectIn, Fit}
use Rattle.validation_meaning.specs.Judgement.{meant}
use Rattle.validation_meaning.specs.Searched.{searched}
use Rattle.validation_meaning.proofs.Exact.{conflict_exact, baseline_exact, redundant_exact}
use Rattle.ledger_model.specs.Model.{Model}
use Rattle.ledger_model.specs.Questions.{questions_before, has_subject, in_register, directive_questions, draft_questions}
use Rattle.ledger_model.specs.Calls.{committed_draft_by, committed_by}
use Rattle.ledger_model.specs.Invariant.{stands, ModelInvariant}
use Rattle.ledger_model.proofs.Questions.{Alike, alike_same, alike_append, alike_outcome}
use Rattle.ledger_model.proofs.Passed.{passed_read, committed_bytes, committed_other}

-- What the search asks of a model: a role wherever there is a record, and active directives that it can judge.
pub record Searchable (m : Model) : Type 0 where
  pub a_role : 0 < length m.register.records → 0 < length m.register.roles
  pub fit : (e : Directive) → Memᴰ e m.active → Fit m.register e
  pub few : length m.active < persons

subject_in : (c : Contents) (s : Subject) → number_of s < persons → has_subject c s ≡ true → SubjectIn c s
subject_in c (Person n) h e = h
subject_in c (Role n) h e = ltb-true n _ e

-- a draft that passes question 8 means a directive that the search can judge
pub draft_fit : (c : Contents) (s : Draft) → Widths s → in_register c (directive_of s) ≡ true → Fit c (directive_of s)
unfolding directive_of
draft_fit c s wide e =
    record {
      subject_in = subject_in c (directive_of s).subject
          (rw (number_of_named (eqb s.subject_kind 1) s.subject) wide.subject) (and_left _ _ e);
      until_in = omega (arith, wide.until);
    }

-- Where 8 is passed, the search is exact in 12 and 13; elsewhere both refuse alike.
pub questions_agree :
    (m : Model) → Searchable m → (s : Draft) → Widths s →
    Alike (directive_questions meant m s) (directive_questions searched m s)
unfolding all_in questions_before directive_questions
questions_agree m h s wide =
    alike_append
    {qs = questions_before 9 (directive_questions meant m s)}
    {rs = questions_before 9 (directive_questions searched m s)}
    (alike_same refl) λ e.
    let d = directive_of s in
    let there : in_register m.register d ≡ true = search (and_left, and_right) in
    let fit = draft_fit m.register s wide there in
    let some_record = ltb-true d.«record» (length m.register.records) (search and_right) in
    let role = h.a_role (omega arith) in
    let by_meaning = conflict m.register m.clock d in
    let by_search = conflict_found m.register m.clock d in
    let same : (a : Directive) → Memᴰ a m.active → by_meaning a ≡ by_search a =
    λ a i. conflict_exact m.register m.clock role d a fit (h.fit a i)
    in
    alike_same
    (rw (
      baseline_exact m.register m.patient m.clock role d fit,
      some_alike by_meaning by_search m.active same,
      keep_alike by_meaning by_search m.active same,
    ))

pub committed_draft_agree :
    (m : Model) → Searchable m → (s : Draft) → Widths s → committed_draft_by meant m s ≡ committed_draft_by searched m s
unfolding committed_draft_by draft_questions
committed_draft_agree m h s wide =
    alike_outcome
    (alike_append (questions_agree m h s wide) λ passed.
    let fit = draft_fit m.register s wide (passed_read meant m s passed).there in
    alike_same (rw (redundant_exact m.register m.clock (directive_of s) m.active fit h.few)))
    m _

pub committed_agree :
    (m : Model) → Searchable m → (s : List ℕ) → is_bytes s ≡ true → committed_by meant m s ≡ committed_by searched m s
committed_agree m h s e =
    ⊎_elim
    (λ size.
    committed_bytes meant m s size
    ∙ committed_draft_agree m h (draft_of s) (bytes_wide s e)
    ∙ sym (committed_bytes searched m s size))
    (λ other. committed_other meant m s other ∙ sym (committed_other searched m s other))
    (either_way (eqb (length s) draft_size))

stands_fit : (m : Model) (e : Directive) → stands m e ≡ true → Fit m.register e
stands_fit m e h =
    let form = formed e (search (and_left, and_right)) in
    record {
      subject_in = subject_in m.register e.subject form.subject (search (and_left, and_right));
      until_in = omega (arith, form.until);
    }

pub searchable_of :
    (m : Model) → (0 < length m.register.records → 0 < length m.register.roles) →
    all_in (stands m) m.active ≡ true → length m.active < persons → Searchable m
searchable_of m a_role stand few =
    record {
      a_role = a_role;
      fit = λ e i. stands_fit m e ((every_list m.active).read (stands m) stand e i);
      few = few;
    }

pub sound_searchable : (m : Model) → ModelInvariant m → Searchable m
sound_searchable m h =
    searchable_of m h.register.roles_with_records h.active_stand (omega (arith, h.active_few))
