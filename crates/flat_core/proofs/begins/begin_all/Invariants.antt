use Rattle.std.proofs.Common.{◌≡◌, ◌+◌, ◌≤◌, ◌++◌, length}
use Rattle.std.specs.Prelude.{sum_by}
use Rattle.flat_facts.specs.Begins.{begin_entry, posts_to}
use Rattle.flat_states.specs.Machines.{due}
use Rattle.flat_rules.specs.Numbers.{AllNumbered}
use Rattle.flat_states.proofs.lemmas.BeginLoop.{KeptUpTo, ShownUpTo}
use Rattle.flat_core.specs.Changes.{NotesChanges}
use Rattle.flat_core.proofs.begins.begin_all.Given as goal

abbrev pub invariant-loop-i : goal.invariant-loop-i
invariant-loop-i l = record {
  all : length l.sessions.items ≡ l.begin.setup.now.sessions;
  kept : AllNumbered (KeptUpTo l.begin.setup.now l.fn.log.history l.begin.line l.begin.time l.i) l.sessions.items;
  shown_count : length l.into ≡ l.begin.setup.now.sessions;
  shown : AllNumbered (ShownUpTo l.begin.setup.now l.fn.log.history l.begin.line l.begin.time l.i) l.into;
  changes : NotesChanges l.fn.changed l.changed l.fn.into l.into;
  posts : l.log.posts ≡ l.fn.log.posts ++ posts_to l.begin.setup.now l.fn.log.history (begin_entry l.begin.line l.begin.time) l.i;
  posted : length l.log.posts ≡ length l.fn.log.posts + l.count;
  history : l.log.history ≡ l.fn.log.history;
  room : l.log.room ≡ l.fn.log.room;
  post_room : l.log.post_room + l.count ≡ l.fn.log.post_room;
  due : sum_by due l.sessions.items + l.count ≤ sum_by due l.fn.sessions.items;
}
