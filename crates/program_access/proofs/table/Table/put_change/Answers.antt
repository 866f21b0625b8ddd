-- `table::put_change`: nothing, or the words and the decision.
use mathlib.Core.Path.{sym, ◌∙◌}
use mathlib.Core.List.{append-nil, append_assoc}
use Rattle.ledger.specs.State.{view}
use Rattle.program_access.specs.Words.{changes_word}
use Rattle.program_access.specs.Table.{change_text}
use Rattle.program_access.proofs.TableLaws.{marks, unchanged}
use Rattle.program_access.proofs.table.Table.put_change.Goals as goal

pub returns-then-contains-clause-text : goal.returns-then-contains-clause-text
unfolding changes_word change_text
returns-then-contains-clause-text g c =
    let t = c.args.self.now in
    let after = c.in-Some.change.after.now in
    let changes = marks (view t.ledger.now) (view after) t.requester c.args.i c.requires.i_bound.0 (rw c.in-Some.is at c.requires.has_changes) c.contains.ensures in
    let decided = rw (c.decide.ensures c.in-Some.change.sound, c.query_on-q.ensures) at c.put_answer.ensures.text in
    rw (c.in-Some.is, changes ∙ c.if-contains.true) (decided ∙ rw c.push_bytes.ensures (append_assoc c.args.out.now _ _))

pub returns-else-contains-clause-text : goal.returns-else-contains-clause-text
unfolding change_text
returns-else-contains-clause-text g c =
    let t = c.args.self.now in
    let after = c.in-Some.change.after.now in
    let changes = marks (view t.ledger.now) (view after) t.requester c.args.i c.requires.i_bound.0 (rw c.in-Some.is at c.requires.has_changes) c.contains.ensures in
    rw (c.in-Some.is, changes ∙ c.if-contains.false) (sym (append-nil _))

pub returns-in_default-clause-text : goal.returns-in_default-clause-text
unfolding change_text
returns-in_default-clause-text g c =
    let t = c.args.self.now in
    rw (c.in_default.is, unchanged (view t.ledger.now) t.requester c.args.i) (sym (append-nil _))
