-- What each case of a preview's answer means, in the numbers and values of documents 01 and 02.
use Rattle.std.specs.Prelude.{[], ◌∷◌, Result, Ok, Err}
use Rattle.emergency.specs.declared.Brief.{Brief}
use Rattle.ledger_model.specs.Answer.{Answer, done, refused}
use Rattle.ledger.specs.Answer.{commit_refusal}
use Rattle.ledger_preview.specs.declared.PreviewRefusal.{PreviewRefusal}
use Rattle.ledger_preview.specs.declared.PreviewRefusal.TheVariants.{Commit, RequesterOutOfRange}

abbrev pub PreviewAnswer : Type 0
PreviewAnswer = Result Brief PreviewRefusal

abbrev pub preview_refusal : PreviewRefusal → Answer
preview_refusal (Commit r) = commit_refusal r
preview_refusal RequesterOutOfRange = refused 17 []

-- the two words and the count
abbrev pub preview_answer : PreviewAnswer → Answer
preview_answer (Ok b) = done (b.records.low ∷ b.records.high ∷ b.count ∷ [])
preview_answer (Err r) = preview_refusal r
