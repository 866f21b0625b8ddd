-- Laws of a table: of a card that is read, of the records that change, and of a draft that a commit accepts.
use Prim.Native.Nat.{ℕ, ◌<◌}
use mathlib.Core.Path.{◌≡◌, refl, sym, ap, subst, ◌∙◌}
use mathlib.Core.Bool.{Bool, true, false, ◌&&◌}
use mathlib.Core.List.{List}
use lib.ListN.{get_or}
use Rattle.std.proofs.Common.{Option, Ok, Err}
use Rattle.sets.specs.declared.record_set.RecordSet.{RecordSet}
use Rattle.sets.specs.RecordSets.{contains, record_set_of}
use Rattle.sets.proofs.WordLaws.{contains_words}
use Rattle.sets.proofs.Quantifiers.{both_ways}
use Rattle.emergency.specs.declared.Brief.{Brief}
use Rattle.directive.specs.declared.Requester.{Requester}
use Rattle.directive.specs.Matching.{query_on}
use Rattle.ledger_model.specs.Model.{Model}
use Rattle.ledger_model.specs.Answer.{Answer, done, accepted, values}
use Rattle.ledger_model.specs.Questions.{first_no, requester_in_range}
use Rattle.ledger_model.specs.Calls.{committed, decided}
use Rattle.ledger_model.specs.Preview.{decision_changes, preview_values, compared_for, previewed}
use Rattle.ledger_model.proofs.PreviewLaws.{same_answer, preview_accepted}
use Rattle.ledger.proofs.AdmitLaws.{not_committed}
use Rattle.ledger_preview.specs.declared.PreviewRefusal.{PreviewRefusal}
use Rattle.ledger_preview.specs.declared.PreviewRefusal.TheVariants as Preview
use Rattle.ledger_preview.specs.Answer.{preview_refusal, preview_answer}
use Rattle.card.specs.Reading.{reading}
use Rattle.streams.specs.declared.Status.{Status}
use Rattle.program_access.specs.Table.{ledger_text, draft_accepted}
use Rattle.program_access.specs.Promises.{Prints, Shows}

-- what is shown of the ledger is shown of a card that gives it
pub card_read :
    (card : List ℕ) (d : Option (List ℕ)) (w : Requester) {before after : List ℕ} {end : Status} {m : Model} →
    accepted (reading card).answer ≡ true → m ≡ (reading card).model →
    Prints (ledger_text m d w) (draft_accepted m d && requester_in_range m.register w) before end after → Shows card d w before end after
card_read card d w {before} {after} {end} e same p =
    rw e
    (subst (λ (m : Model). Prints (ledger_text m d w) (draft_accepted m d && requester_in_range m.register w) before end after) same p)

-- on one ledger nothing changes
pub unchanged : (m : Model) (w : Requester) (x : ℕ) → decision_changes m m w x ≡ false
unfolding decision_changes
unchanged m w x = same_answer (decided m (query_on w x))

-- whether the set of the records that change has a record is whether its decision changes
pub marks :
    (m after : Model) (w : Requester) (x : ℕ) → x < 128 → {records : RecordSet} {b : Bool} →
    records ≡ record_set_of (decision_changes m after w) → b ≡ contains records x → decision_changes m after w x ≡ b
marks m after w x small same e =
    sym (e ∙ ap (λ (r : RecordSet). contains r x) same ∙ contains_words (decision_changes m after w) x small)

-- a refusal accepts nothing
preview_missed : (r : PreviewRefusal) → accepted (preview_refusal r) ≡ false
preview_missed (Preview.Commit r) = not_committed r
preview_missed Preview.RequesterOutOfRange = refl

-- a preview of a draft that a commit accepts, for a requester who passes question 17
module _
    (m : Model) (s : List ℕ) (w : Requester) (took : accepted (committed m s).answer ≡ true)
    (asked : requester_in_range m.register w ≡ true)
  where
    previewed_as : previewed m s w ≡ done (preview_values m s w)
    unfolding first_no
    previewed_as =
        let passed : compared_for m (committed m s).model w ≡ done (preview_values m s w) = rw asked in
        preview_accepted m s w took ∙ passed

    -- shows the records that change
    pub shown_changes :
        {b : Brief} → preview_answer (Ok b) ≡ previewed m s w →
        b.records ≡ record_set_of (decision_changes m (committed m s).model w)
    shown_changes e =
        ap (λ (a : Answer). record { low = get_or (values a) 0 0; high = get_or (values a) 1 0 }) (e ∙ previewed_as)

    -- and is not refused
    pub shows_some : (r : PreviewRefusal) → preview_answer (Err r) ≡ previewed m s w → ⊥
    shows_some r e = both_ways (ap accepted (e ∙ previewed_as)) (preview_missed r)
