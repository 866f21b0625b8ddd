-- `baseline::selects_own` tests the records in turn.
use mathlib.Core.Path.{ap}
use native.Mathlib.Omega.{arith}
use Rattle.std.proofs.Common.{length, rules, tests}
use Rattle.std.proofs.lemmas.Iterator.{YieldsList-from_slice}
use Rattle.std.proofs.lemmas.Iterator.Consumers.{YieldsList-from_enumerate}
use Rattle.std.proofs.lemmas.Iterator.Search.{any_from_yields_List}
use Rattle.register.specs.Register.{contents}
use Rattle.validation_conflict.proofs.BaselineTests.{own, some_own}
use Rattle.validation_conflict.proofs.baseline.selects_own.Goals as goal

pub returns : goal.returns
returns c =
    let args = c.args in
    let g = contents args.register.now in
    some_own g args.patient args.person (omega (arith, ap length c.records.ensures.value, c.records.ensures.few)) c.requires
    (any_from_yields_List (λ e. own g args.patient args.person args.a.now e.0 e.1) _ _ _ c.any.ensures.ran
    (YieldsList-from_enumerate (YieldsList-from_slice g.records cc) cc)
    (λ x b q k. search (rules, tests)))
