use Rattle.std.proofs.Common.{◌≡◌, ◌+◌, ◌≤◌, ◌++◌, drop, length, map}
use Rattle.flat_facts.specs.Begins.{post_of}
use Rattle.flat_gets.specs.Pairs.{former_events}
use Rattle.flat_gets.proofs.pair.post_former.Given as goal

-- what is left leads from here to the same end
abbrev pub invariant-loop-one : goal.invariant-loop-one
invariant-loop-one l = record {
  posts : l.log.posts ++ map (post_of (length l.fn.log.history) l.s) (former_events l.p l.now (drop l.one-index l.former)) ≡ l.fn.log.posts
      ++ map (post_of (length l.fn.log.history) l.s) (former_events l.p l.now l.former);
  counted : l.count + length (former_events l.p l.now (drop l.one-index l.former)) ≡ length (former_events l.p l.now l.former);
  few : l.count ≤ l.one-index;
  history : l.log.history ≡ l.fn.log.history;
  room : l.log.room ≡ l.fn.log.room;
  post_room : l.log.post_room + l.count ≡ l.fn.log.post_room;
}
