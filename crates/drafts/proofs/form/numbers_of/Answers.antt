-- `form::numbers_of` makes a draft of the purposes and twelve numbers that it reads.
use Rattle.drafts.specs.Form.{numbers_of}
use Rattle.drafts.proofs.form.numbers_of.Goals as goal

pub returns : goal.returns
unfolding numbers_of
returns c =
    rw (
      c.get.ensures,
      c.get-2.ensures,
      c.get-3.ensures,
      c.get-4.ensures,
      c.get-5.ensures,
      c.get-6.ensures,
      c.get-7.ensures,
      c.get-8.ensures,
      c.get-9.ensures,
      c.get-10.ensures,
      c.get-11.ensures,
      c.get-12.ensures,
    )
