-- `Record::from_bytes` makes a record of the six numbers.
use Rattle.register.specs.Form.{record_of}
use Rattle.register.proofs.Record.from_bytes.Goals as goal

pub returns : goal.returns
unfolding record_of
returns c =
    rw (
      c.get.ensures,
      c.get-2.ensures,
      c.get-3.ensures,
      c.get-4.ensures,
      c.get-5.ensures,
      c.get-6.ensures,
    )
