-- `entry::run_query`: each tag's query is answered, and any other tag is malformed.
use Rattle.replay_entries.specs.Entries.{entry_of, is_call}
use Rattle.replay_entries.proofs.entry.run_query.Goals as goal

pub returns-in-20 : goal.returns-in-20
unfolding entry_of is_call
returns-in-20 c = rw c.in-20.is (c.decide_entry.ensures _)

pub returns-in-23 : goal.returns-in-23
unfolding entry_of is_call
returns-in-23 c = rw c.in-23.is (c.preview_entry.ensures _)
