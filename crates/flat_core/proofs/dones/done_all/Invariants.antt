use Rattle.std.proofs.Common.{◌≡◌, ◌+◌, ◌≤◌, ◌++◌, length}
use Rattle.std.specs.Prelude.{◌||◌}
use Rattle.flat_base.specs.declared.ids.FenceNo.{FenceNo}
use Rattle.flat_fence.specs.Fences.{has}
use Rattle.flat_facts.specs.Begins.{finish_entry, finished, posts_to}
use Rattle.flat_core.specs.Dues.{all_due}
use Rattle.flat_rules.specs.Numbers.{AllNumbered}
use Rattle.flat_gets.specs.Watchers.{WatchedUpTo}
use Rattle.flat_states.proofs.lemmas.DoneSteps.{DoneUpTo, released_to}
use Rattle.flat_links.proofs.lemmas.DoneEnds.{EndsUpTo}
use Rattle.flat_core.proofs.dones.done_all.Given as goal

abbrev pub invariant-loop-i : goal.invariant-loop-i
invariant-loop-i g l = record {
  all : length l.sessions.items ≡ l.end.setup.now.sessions;
  kept : AllNumbered (DoneUpTo l.end.setup.now l.fn.log.history l.end.line l.i) l.sessions.items;
  ends_all : length l.ends.items ≡ l.end.setup.now.sessions;
  watched : WatchedUpTo l.end.setup.now l.i (finished l.fn.log.history l.end.line) l.fn.log.history l.watchers;
  ends : AllNumbered (EndsUpTo l.end.setup.now l.fn.log.history l.end.line l.i) l.ends.items;
  size : length l.fences ≡ length l.fn.fences;
  members : (g : FenceNo) → has l.fences g ≡ (has l.fn.fences g || released_to l.end.setup.now l.fn.log.history l.i g);
  posts : l.log.posts ≡ l.fn.log.posts ++ posts_to l.end.setup.now l.fn.log.history (finish_entry l.end.line) l.i;
  posted : length l.log.posts ≡ length l.fn.log.posts + l.count;
  history : l.log.history ≡ l.fn.log.history;
  room : l.log.room ≡ l.fn.log.room;
  post_room : l.log.post_room + l.count ≡ l.fn.log.post_room;
  due : all_due l.sessions.items l.ends.items l.watchers + l.count ≤ all_due l.fn.sessions.items l.fn.ends.items l.fn.watchers;
}
