-- `disclosure::labelled`: after n turns the word has those of the n last records.
use Prim.Native.Nat.{ℕ, ◌-◌, ◌<◌}
use mathlib.Core.Path.{◌≡◌, ap, ◌∙◌}
use mathlib.Core.List.{List}
use native.Mathlib.Nat.{lt_of_lt_of_le}
use native.Mathlib.Omega.{arith}
use lib.ListN.{length, get_or}
use lib.Pow.{pow_mono}
use Rattle.std.specs.Prelude.{reverse}
use Rattle.std.proofs.lemmas.List.{length-reverse, length_push, get_or-reverse, get_or_default}
use Rattle.std.proofs.lemmas.Iterator.Adapters.{YieldsList-from_rev_slice}
use Rattle.std.proofs.lemmas.Iterator.Consumers.{YieldsList-turn, YieldsList-end}
use Rattle.sets.specs.Bits.{shares}
use Rattle.sets.proofs.FillLaws.{highest_none, highest_bound, highest_next, highest_all}
use Rattle.register.specs.declared.Record.{Record}
use Rattle.register.specs.Register.{no_record}
use Rattle.register.specs.Records.{record_at}
use Rattle.emergency.proofs.disclosure.labelled.Goals as goal

-- the record of turn k, from the last one down
turn :
    (rs : List Record) (k : ℕ) (r : Record) → (k < length (reverse rs)) × (r ≡ get_or (reverse rs) k r) →
    (k < length rs) × (r ≡ record_at rs (length rs - 1 - k))
turn rs k r h =
    let l : k < length rs = rw length-reverse at h.0 in
    (l, h.1 ∙ get_or-reverse rs k r l ∙ get_or_default rs (length rs - 1 - k) r no_record (omega arith))

pub loop-r-init : goal.loop-r-init
loop-r-init c = highest_none

pub doubled-word-requires : goal.doubled-word-requires
doubled-word-requires c =
    let now = c.loop-r in
    let rs = c.args.records.now in
    let here = turn rs (length now.yielded) c.in-Some.r.now (YieldsList-turn (YieldsList-from_rev_slice rs cc) now.yielded _ now.yielded_by _ _ c.in-Some.r c.in-Some.is c.next.ensures.steps) in
    lt_of_lt_of_le (highest_bound now.invariant here.0) (pow_mono {j = 63} (omega arith))

pub loop-r-preserved : goal.loop-r-preserved
loop-r-preserved c =
    let now = c.loop-r in
    let rs = c.args.records.now in
    let here = turn rs (length now.yielded) c.in-Some.r.now (YieldsList-turn (YieldsList-from_rev_slice rs cc) now.yielded _ now.yielded_by _ _ c.in-Some.r c.in-Some.is c.next.ensures.steps) in
    rw (c.doubled-word.ensures, length_push now.yielded c.in-Some.r)
    (highest_next now.invariant here.0 (c.meet.ensures ∙ ap (λ (r : Record). shares 16 r.labels c.args.scope) here.1))

pub returns : goal.returns
returns c =
    let now = c.loop-r in
    let rs = c.args.records.now in
    let done = YieldsList-end (YieldsList-from_rev_slice rs cc) now.yielded _ now.yielded_by _ _ c.in-None.is c.next.ensures.steps in
    highest_all now.invariant (omega (arith, done.1, length-reverse rs))
