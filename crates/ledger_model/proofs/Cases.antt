-- K1 to K12 hold. The search computes the whole table at once, with a test that each item can be judged by it.
use mathlib.Core.Path.{◌≡◌, refl, ap, ◌∙◌}
use mathlib.Core.Bool.{Bool, true, ◌&&◌}
use mathlib.Core.List.{List, [], ◌∷◌, map, Memᴰ}
use borrow.Author.Tests.{ltb-true, lt-ltb}
use lib.ListN.{length}
use lib.Count.{ones}
use lib.Dec.{ltb}
use Rattle.sets.specs.Quantifiers.{implies, all_below, some_below, count_below, all_of, some_of, all_in, some_in, keep, count_in}
use Rattle.sets.specs.Bits.{set_of}
use Rattle.sets.specs.Numbers.{number_from, bytes, is_bytes}
use Rattle.sets.proofs.Quantifiers.{and_left, and_right, implies_at}
use Rattle.register.specs.Tree.{above_by}
use Rattle.register.specs.Roles.{covers}
use Rattle.register.specs.Records.{reaches}
use Rattle.directive.specs.Selection.{passes_filters, selects}
use Rattle.directive.specs.Matching.{applies_to, matches}
use Rattle.drafts.specs.Form.{numbers_of, draft_of, keeps_ranges, directive_of, directive_bytes, well_formed}
use Rattle.validation_meaning.specs.Requests.{persons}
use Rattle.validation_meaning.specs.Search.{overlap, conflict_found, breaks_baseline_found, included_found}
use Rattle.validation_meaning.specs.Judgement.{meant}
use Rattle.validation_meaning.specs.Searched.{searched}
use Rattle.ledger_model.specs.Model.{Model}
use Rattle.emergency.specs.Emergency.{scope, disclosed}
use Rattle.directive.specs.Lowest.{lowest}
use Rattle.ledger_model.specs.Answer.{Answer}
use Rattle.ledger_model.specs.Decision.{decision}
use Rattle.ledger_model.specs.Questions.{first_no, directive_questions, draft_questions, bytes_questions}
use Rattle.ledger_model.specs.Calls.{committed_by, advanced, issued, decided, briefed, drafted, commit, revoke, advance, issue}
use Rattle.ledger_model.specs.Invariant.{stands}
use Rattle.ledger_model.specs.Cases.{Item, call, deciding, briefing, item_by, answers_by, Case, run, selection, sample_records, sample, Holds, drafting, cases, CasesHold}
use Rattle.ledger_model.proofs.Agree.{Searchable, searchable_of, committed_agree}

-- the search can judge what is put to m
searchable : Model → Bool
searchable m =
    implies (ltb 0 (length m.register.records)) (ltb 0 (length m.register.roles))
    && all_in (stands m) m.active
    && ltb (length m.active) persons

searchable_read : (m : Model) → searchable m ≡ true → Searchable m
unfolding searchable
searchable_read m e =
    searchable_of m
    (λ a.
    ltb-true 0 (length m.register.roles)
    (implies_at (ltb 0 (length m.register.records)) _ (search (and_left, and_right))
    (lt-ltb 0 (length m.register.records) a)))
    (search (and_left, and_right))
    (ltb-true (length m.active) persons (search (and_left, and_right)))

-- a draft is of bytes
written : Item → Bool
written (call (commit s)) = is_bytes s
written (call (revoke n)) = true
written (call (advance t)) = true
written (call (issue n p states minutes)) = true
written (deciding q) = true
written (briefing n p) = true

item_agrees : (m : Model) → Searchable m → (i : Item) → written i ≡ true → item_by meant m i ≡ item_by searched m i
unfolding written
item_agrees m h (call (commit s)) e = committed_agree m h s e
item_agrees m h (call (revoke n)) e = refl
item_agrees m h (call (advance t)) e = refl
item_agrees m h (call (issue n p states minutes)) e = refl
item_agrees m h (deciding q) e = refl
item_agrees m h (briefing n p) e = refl

-- each item can be judged, after those before it
judged : Model → List Item → Bool
judged m [] = true
judged m (i ∷ is) = searchable m && written i && judged (item_by searched m i).model is

judged_agree : (m : Model) (is : List Item) → judged m is ≡ true → answers_by meant m is ≡ answers_by searched m is
unfolding judged answers_by
judged_agree m [] e = refl
judged_agree m (i ∷ is) e =
    let same = item_agrees m (searchable_read m (search (and_left, and_right))) i (search (and_left, and_right)) in
    rw (same, judged_agree (item_by searched m i).model is (search (and_left, and_right)))

-- What is found of a case, and what the case says: whether its items can be judged, their answers, which records are selected.
record Told : Type 0 where
  ready : Bool
  answers : List Answer
  selected : List Bool

found : Case → Told
found (run ss) =
    let is = map (λ s. s.item) ss in
    record { ready = judged sample is; answers = answers_by searched sample is; selected = [] }
found (selection s xs) =
    record { ready = true; answers = []; selected = map (selects sample_records (drafted s)) (0 ∷ 1 ∷ 2 ∷ []) }

stated : Case → Told
stated (run ss) = record { ready = true; answers = map (λ s. s.gives) ss; selected = [] }
stated (selection s xs) = record { ready = true; answers = []; selected = xs }

holds : (k : Case) → found k ≡ stated k → Holds k
unfolding found stated
holds (run ss) e = judged_agree sample _ (ap (λ t. t.ready) e) ∙ ap (λ t. t.answers) e
holds (selection s xs) e = ap (λ t. t.selected) e

all_found : map found cases ≡ map stated cases
unfolding found stated judged answers_by written searchable cases sample sample_records drafting
    all_below some_below count_below all_of some_of all_in some_in keep count_in set_of number_from bytes
    above_by covers reaches passes_filters selects applies_to matches numbers_of draft_of directive_of directive_bytes keeps_ranges well_formed
    overlap conflict_found breaks_baseline_found included_found
    scope disclosed ones lowest decision first_no directive_questions draft_questions bytes_questions
    committed_by advanced issued decided briefed
all_found = refl

-- two functions that give the same list give the same of each element
same_at : {A B : Type 0} (f g : A → B) (l : List A) → map f l ≡ map g l → (a : A) → Memᴰ a l → f a ≡ g a
same_at f g [] e a m = elim m [ ]
same_at f g (x ∷ l) e a (Memᴰ.head q) = rw q (cc)
same_at f g (x ∷ l) e a (Memᴰ.tail i) = same_at f g l (cc) a i

pub every_case : CasesHold
every_case k i = holds k (same_at found stated cases all_found k i)
