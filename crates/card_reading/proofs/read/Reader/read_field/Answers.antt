-- `Reader::read_field`: a field that has no place is refused, and a tag's field is read by its method.
use mathlib.Core.Path.{◌≡◌, refl, sym, ap, ◌∙◌}
use Rattle.card.specs.Grammar.{other, tag_of, place, place_of}
use Rattle.std.proofs.lemmas.Result.{err_from_is_err_and}
use Rattle.card_reading.proofs.ReaderLaws.{read_as, misplaced}
use Rattle.card_reading.proofs.read.Reader.read_field.Goals.{In_ok-tag}
use Rattle.card_reading.proofs.read.Reader.read_field.Goals as goal

pub returns-in_err-tag : goal.returns-in_err-tag
returns-in_err-tag c invariant =
    let p = err_from_is_err_and c.from_residual.result c.from_residual.ensures.1 in
    rw (p.1, p.2) (read_as {t = other} (sym c.try_from.ensures ∙ ap place_of c.in_err-tag.was) (misplaced invariant refl))

-- the place of the tag
at : (c : In_ok-tag) → tag_of c.args.tag ≡ place c.in_ok-tag.tag
at c = sym c.try_from.ensures ∙ ap place_of c.in_ok-tag.was

pub returns-then-not-has_place : goal.returns-then-not-has_place
returns-then-not-has_place c invariant =
    read_as (at (goal.at.returns-then-not-has_place c).In_ok-tag) (misplaced invariant (sym c.has_place.ensures ∙ c.if-not-has_place.true))

pub returns-in-Head : goal.returns-in-Head
returns-in-Head c invariant =
    read_as (at (goal.at.returns-in-Head c).In_ok-tag ∙ ap place c.in-Head.is) (c.read_head.ensures invariant)

pub returns-in-Roles : goal.returns-in-Roles
returns-in-Roles c invariant =
    read_as (at (goal.at.returns-in-Roles c).In_ok-tag ∙ ap place c.in-Roles.is) (c.read_roles.ensures invariant)

pub returns-in-Record : goal.returns-in-Record
returns-in-Record c invariant =
    read_as (at (goal.at.returns-in-Record c).In_ok-tag ∙ ap place c.in-Record.is) (c.read_record.ensures invariant)

pub returns-in-Directive : goal.returns-in-Directive
returns-in-Directive c invariant =
    read_as (at (goal.at.returns-in-Directive c).In_ok-tag ∙ ap place c.in-Directive.is) (c.read_directive.ensures invariant)
