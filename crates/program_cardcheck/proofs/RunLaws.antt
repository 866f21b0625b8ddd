-- The line of a run that fails before it prints.
use Rattle.std.proofs.Common.{ℕ, List, [], ◌∷◌, take, Option, None, Some, refl, inr, arith, length-append}
use Rattle.std.proofs.KnownBytes.{Appends-nil}
use Rattle.streams.specs.declared.Status.TheVariants.{Failed}
use Rattle.card.specs.Reading.{card_line}
use Rattle.text.specs.Text.{line_body, line_end}
use Rattle.program_cardcheck.specs.Runs.{Answers}

-- a run that prints nothing and fails: each line has a byte at least
pub nothing_printed : (input before : Option (List ℕ)) → Answers Failed input before before
nothing_printed None before = tt
nothing_printed (Some xs) before = inr (refl, (0, omega (arith, length-append (line_body (card_line (take 65535 xs)) []) (line_end ∷ [])), Appends-nil before))
