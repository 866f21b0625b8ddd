-- Laws of a run: what is written, and how it ends.
use Rattle.std.proofs.Common.{ℕ, List, [], take, Option, None, Some, IfSome, refl, subst, inl, inr}
use Rattle.std.proofs.KnownBytes.{Keeps-refl}
use Rattle.std.specs.Io.KnownBytes.{Appends}
use Rattle.directive.specs.declared.Requester.{Requester}
use Rattle.streams.specs.declared.Status.{Status}
use Rattle.streams.specs.declared.Status.TheVariants.{Failed}
use Rattle.streams.specs.Writes.{PutsPart}
use Rattle.program_access.specs.Promises.{Shows, Answers}

module _ (card : List ℕ) (d : Option (List ℕ)) (w : Requester) {end : Status} {out : List ℕ} (before after : Option (List ℕ)) where
  -- the text is written whole, with its status
  pub answered : Shows card d w [] end out → Appends before after out → Answers card d w end before after
  answered shows put = inl (shows.status, subst (Appends before after) shows.text put)

  -- the write failed
  pub cut : Shows card d w [] end out → PutsPart before after out → Answers card d w Failed before after
  cut shows put = inr (refl, inr (subst (PutsPart before after) shows.text put))

-- nothing is written, and the program failed
pub unwritten :
    (input : Option (List ℕ)) (d : Option (List ℕ)) (w : Requester) (before : Option (List ℕ)) →
    IfSome input (λ bytes. Answers (take 65535 bytes) d w Failed before before)
unwritten None d w before = tt
unwritten (Some bytes) d w before = inr (refl, inl (Keeps-refl before))
