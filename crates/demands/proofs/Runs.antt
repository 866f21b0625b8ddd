-- Every reachable ledger keeps the invariant, and a list of calls on a ledger that keeps it gives the reference model's answers and ledger.
use mathlib.Core.Path.{◌≡◌, refl}
use mathlib.Core.List.{List}
use Rattle.validation_meaning.specs.Judgement.{meant}
use Rattle.ledger.specs.declared.Ledger.{Ledger}
use Rattle.ledger.specs.State.{view}
use Rattle.ledger_model.specs.Answer.{Answer}
use Rattle.ledger_model.specs.Calls.{Call, called_by, model_after, answers}
use Rattle.ledger.specs.Invariant.{Invariant}
use Rattle.ledger.specs.Promises.{Gives}
use Rattle.ledger.proofs.Beginning.{empty_sound}
use Rattle.demands.specs.Runs.{Called, committing, revoking, advancing, issuing, Run, ended, more, Reachable, empty, reading, calling}

pub called_gives :
    {l m : Ledger} {c : Call} {a : Answer} → Invariant l → Called l c a m → Gives l (called_by meant (view l) c) a m
called_gives h (committing s r e gives) = gives h
called_gives h (revoking n r w gives) = gives h
called_gives h (advancing t r w gives) = gives h
called_gives h (issuing n p states minutes r w w₁ w₂ w₃ gives) = gives h

pub meant_sound : (l : Ledger) → Reachable l → Invariant l
meant_sound l empty = empty_sound
meant_sound l (reading card r e gives) = gives.invariant
meant_sound l (calling {l = before} k called) = (called_gives (meant_sound before k) called).invariant

pub run_sound : {l m : Ledger} {cs : List Call} {rs : List Answer} → Invariant l → Run l cs rs m → Invariant m
run_sound h ended = h
run_sound h (more called rest) = run_sound (called_gives h called).invariant rest

pub run_model :
    {l m : Ledger} {cs : List Call} {rs : List Answer} →
    Invariant l → Run l cs rs m → (rs ≡ answers (view l) cs) × (view m ≡ model_after (view l) cs)
unfolding answers model_after
run_model h ended = (refl, refl)
run_model h (more called rest) =
    let now = called_gives h called in
    let later = run_model now.invariant rest in
    (rw (now.answer, ← now.ledger, later.0), rw (← now.ledger) later.1)
