-- `disclosure::disclosed`: the words are those of the first 64 records and of the rest.
use Rattle.emergency.proofs.BriefLaws.{disclosed_words}
use Rattle.emergency.proofs.disclosure.disclosed.Goals as goal

pub returns : goal.returns
returns c =
    let records = c.records-records.ensures in
    let halves = c.split_at.ensures in
    rw (c.labelled.ensures, c.labelled-2.ensures, halves.front, halves.back, c.min.ensures, c.scope-scope.ensures, records.value)
    (disclosed_words _ c.args.states (rw records.value at records.few))
