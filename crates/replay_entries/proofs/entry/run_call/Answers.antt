-- `entry::run_call`: each tag's call is performed, and any other tag is malformed.
use Rattle.replay_entries.specs.Entries.{entry_of, is_call}
use Rattle.replay_entries.proofs.entry.run_call.Goals as goal

pub returns-in-16 : goal.returns-in-16
unfolding entry_of is_call
returns-in-16 c = rw c.in-16.is c.commit_entry.ensures

pub returns-in-17 : goal.returns-in-17
unfolding entry_of is_call
returns-in-17 c = rw c.in-17.is c.revoke_entry.ensures

pub returns-in-18 : goal.returns-in-18
unfolding entry_of is_call
returns-in-18 c = rw c.in-18.is c.advance_entry.ensures

pub returns-in-19 : goal.returns-in-19
unfolding entry_of is_call
returns-in-19 c = rw c.in-19.is c.issue_entry.ensures
