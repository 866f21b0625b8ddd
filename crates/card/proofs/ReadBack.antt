-- A written card is accepted, and what is read of it is what was written.
use Prim.Native.Nat.{ℕ, ◌<◌}
use mathlib.Core.Path.{◌≡◌, refl, sym, ap, ◌∙◌}
use mathlib.Core.Bool.{Bool, true}
use mathlib.Core.List.Memᴰ
use mathlib.Core.List.{List, [], ◌∷◌, ◌++◌, append_assoc, append-nil}
use native.Mathlib.Omega.{arith}
use borrow.Author.Tests.{not-true, lt-ltb, le-leb, eq-eqb}
use lib.ListN.{length, length-append, take}
use lib.Seq.{take-append_seam, get_or-append_seam, append_snoc}
use lib.Dec.{eqb}
use Rattle.sets.specs.Quantifiers.{all_in}
use Rattle.sets.specs.Numbers.{number_at}
use Rattle.sets.proofs.Quantifiers.{and_left, and_right, every_below, every_list}
use Rattle.sets.proofs.Lists.{apart_before, some_alike}
use Rattle.sets.proofs.PutLaws.{OneEach}
use Rattle.register.specs.declared.Record.{Record}
use Rattle.register.specs.Register.{role_places, record_places, no_record}
use Rattle.register.specs.Records.{record_at}
use Rattle.register.specs.Form.{record_size, record_bytes, record_fits, record_widths}
use Rattle.register.proofs.FormLaws.{length_record, record_decode_encode}
use Rattle.directive.specs.declared.Directive.{Directive}
use Rattle.drafts.specs.Form.{draft_size, draft_of, directive_bytes, well_formed}
use Rattle.drafts.proofs.FormLaws.{length_directive, decode_encode, ranges_kept}
use Rattle.validation_meaning.specs.Meaning.{conflict}
use Rattle.validation_meaning.specs.Judgement.{meant}
use Rattle.validation_meaning.proofs.ConflictLaws.{conflict_sym}
use Rattle.ledger_model.specs.Model.{Model, with_tokens}
use Rattle.ledger_model.specs.Questions.{passes, in_register, has_minutes}
use Rattle.ledger_model.specs.Invariant.{stands, ModelInvariant}
use Rattle.ledger_model.proofs.Passed.{passed_make}
use Rattle.card.specs.Grammar.{tag_of, field}
use Rattle.card.specs.Form.{head_bytes}
use Rattle.card.specs.Reading.{Progress, nothing_read, written_edition, has_place, value_questions, field_questions, with_head, with_field}
use Rattle.card.specs.Writing.{written_head, record_fields, directive_fields, card_bytes}
use Rattle.card.proofs.FormLaws.{length_head, head_decode_encode}
use Rattle.card.proofs.Fields.{value_written, after_written, whole_written}
use Rattle.card.proofs.Accepted.{Accepted, ended, one_more}
use Rattle.card.proofs.ReadSound.{filled}
use Rattle.card.proofs.Written.{one_a_record, one_a_directive}

-- a field that is written passes where its value does
accept_field :
    {q : Progress} (p : Progress) (tag : ℕ) (v rest : List ℕ) → length v < 65536 →
    has_place p (tag_of tag) (length v) ≡ true → passes (value_questions meant p (tag_of tag) v) ≡ true →
    Accepted (with_field p (tag_of tag) v) rest q → Accepted p (field tag v ++ rest) q
unfolding field_questions all_in
accept_field {q} p tag v rest short placed passed accepted =
    let value = value_written tag v rest short in
    one_more {q = q} p (field tag v ++ rest)
    (rw (whole_written tag v rest short, value, placed) passed)
    (rw (value, after_written tag v rest short) accepted)

-- an element of a list, and what stands before it
module _ {A : Type 0} {l : List A} (before : List A) (a : A) (after : List A) (e : l ≡ before ++ a ∷ after) where
  all_here : (p : A → Bool) → all_in p l ≡ true → p a ≡ true
  all_here p t = (every_list l).read p t a (rw e (Memᴰ.append_right before (Memᴰ.head refl)))

  fewer_before : length before < length l
  fewer_before = rw (e, length-append) (omega arith)

-- Fields for the elements of a list, where `at` is what was read with those before: if each is accepted, all are.
module _ {A : Type 0} {fields : List A → List ℕ} {one : A → List ℕ} (each : OneEach fields one)
    (at : List A → Progress) (l : List A) (q : Progress)
    (accept : (before : List A) (a : A) (after : List A) → l ≡ before ++ a ∷ after → (rest : List ℕ) →
    Accepted (at (before ++ (a ∷ []))) rest q → Accepted (at before) (one a ++ rest) q) where
  accept_from :
      (before after : List A) → l ≡ before ++ after → (rest : List ℕ) →
      Accepted (at l) rest q → Accepted (at before) (fields after ++ rest) q
  accept_from before [] e rest accepted = rw (each.none, ← append-nil before, ← e) accepted
  accept_from before (a ∷ after) e rest accepted =
      rw (each.more, append_assoc)
      (accept before a after e (fields after ++ rest)
      (accept_from (before ++ (a ∷ [])) after (e ∙ sym (append_snoc before a after)) rest accepted))

-- what was read of m's card with these roles, records and directives
abbrev partly : Model → List ℕ → List Record → List Directive → Progress
partly m ps rs ds =
    record {
      edition = written_edition;
      model =
          record {
            patient = m.patient;
            clock = m.clock;
            register = record { roles = ps; records = rs };
            active = ds;
            tokens = [];
          };
    }

head_read : (m : Model) → ModelInvariant m → with_head (head_bytes (written_head m)) ≡ partly m [] [] []
head_read m h =
    let same = head_decode_encode (written_head m) refl h.patient_in h.clock_in in
    rw (ap (λ x. x.edition) same, ap (λ x. x.patient) same, ap (λ x. x.clock) same)

module _ (m : Model) (h : ModelInvariant m) (a_record : 0 < length m.register.records) (q : Progress) where
  -- a record passes 3 and 4 after those before it
  accept_record :
      (before : List Record) (r : Record) (after : List Record) → m.register.records ≡ before ++ r ∷ after →
      (rest : List ℕ) → Accepted (partly m m.register.roles (before ++ (r ∷ [])) []) rest q →
      Accepted (partly m m.register.roles before []) (field 0x03 (record_bytes r) ++ rest) q
  unfolding all_in
  accept_record before r after e rest accepted =
      let register = h.register in
      let a_role = register.roles_with_records a_record in
      let size = length_record r in
      let same = record_decode_encode r (all_here before r after e record_widths register.records_wide) in
      let fewer = fewer_before before r after e in
      let fit : record_fits (take (length before) m.register.records) (record_at m.register.records (length before)) ≡ true =
      (every_below _).read _ register.records_fit (length before) fewer
      in
      let fits : record_fits before r ≡ true =
      rw (e, take-append_seam before (r ∷ after), get_or-append_seam before r after no_record) at fit
      in
      accept_field (partly m m.register.roles before []) 0x03 (record_bytes r) rest (omega arith)
      (rw (filled m.register.roles a_role, eq-eqb (length (record_bytes r)) record_size size))
      (rw (lt-ltb (length before) record_places (omega (arith, register.records_few)), same, fits))
      (rw same accepted)

  -- a directive passes 7 to 13 after those before it
  accept_directive :
      (before : List Directive) (d : Directive) (after : List Directive) → m.active ≡ before ++ d ∷ after →
      (rest : List ℕ) → Accepted (partly m m.register.roles m.register.records (before ++ (d ∷ []))) rest q →
      Accepted (partly m m.register.roles m.register.records before) (field 0x04 (directive_bytes d) ++ rest) q
  accept_directive before d after e rest accepted =
      let size = length_directive d in
      let stood = all_here before d after e (stands m) h.active_stand in
      let formed : well_formed d ≡ true = search (and_left, and_right) in
      let there : in_register m.register d ≡ true = search (and_left, and_right) in
      let minutes : has_minutes m.clock d ≡ true = search (and_left, and_right) in
      let same = decode_encode d formed in
      let clash = conflict m.register m.clock in
      let free = apart_before (λ x y. eqb x.number y.number) before d after (rw e at h.active_differ) in
      let clear =
      some_alike (clash d) (λ x. clash x d) before (λ x _. conflict_sym m.register m.clock d x)
      ∙ apart_before clash before d after (rw e at h.no_clash)
      in
      accept_field _ 0x04 (directive_bytes d) rest (omega arith)
      (rw (filled m.register.records a_record, eq-eqb (length (directive_bytes d)) draft_size size))
      (passed_make meant _ (draft_of (directive_bytes d))
      (record {
        ranges = ranges_kept d formed;
        there = rw same there;
        minutes = rw same minutes;
        free = rw same free;
        room = omega (arith, fewer_before before d after e, h.active_few);
        spared = rw same (not-true _ (all_here before d after e _ h.baseline_kept));
        clear = rw same clear;
      }))
      (rw same accepted)

pub accept_card :
    (m : Model) → ModelInvariant m → 0 < length m.register.records →
    Accepted nothing_read (card_bytes m) (record { edition = written_edition; model = with_tokens m [] })
unfolding all_in card_bytes
accept_card m h a_record =
    let ps = m.register.roles in
    let rs = m.register.records in
    let start = field 0x01 (head_bytes (written_head m)) in
    let directives = directive_fields m.active in
    let q = partly m ps rs m.active in
    let roles_few = h.register.roles_few in
    let a_role = h.register.roles_with_records a_record in
    let edition : number_at 0 1 (head_bytes (written_head m)) ≡ written_edition = ap (λ p. p.edition) (head_read m h) in
    let from_directives =
    accept_from one_a_directive (partly m ps rs) m.active q (accept_directive m h a_record q) [] m.active refl []
    (ended (rw (filled ps a_role, filled rs a_record)))
    in
    let from_records =
    accept_from one_a_record (λ before. partly m ps before []) rs q (accept_record m h a_record q) [] rs refl directives
    (rw append-nil at from_directives)
    in
    rw (append_assoc (start ++ field 0x02 ps) (record_fields rs) directives, append_assoc start (field 0x02 ps) _)
    (accept_field nothing_read 0x01 (head_bytes (written_head m)) _ (omega (arith, length_head (written_head m))) (rw (length_head (written_head m))) (rw edition)
    (rw (head_read m h)
    (accept_field (partly m [] [] []) 0x02 ps _ (omega arith)
    (rw (le-leb 1 (length ps) a_role, le-leb (length ps) role_places roles_few))
    (rw h.register.roles_tree)
    from_records)))
