use Rattle.std.proofs.Common.{◌≡◌, ◌+◌, ◌++◌, map, take, length}
use Rattle.flat_facts.specs.Begins.{post_of}
use Rattle.flat_links.specs.Viewports.{back_events}
use Rattle.flat_links.proofs.viewports.post_back.Given as goal

-- those before are posted
abbrev pub invariant-loop-one : goal.invariant-loop-one
invariant-loop-one l = record {
  posts : l.log.posts ≡ l.fn.log.posts ++ map (post_of (length l.fn.log.history) l.s) (back_events l.taken (take l.one-index l.out));
  count : l.count ≡ length (back_events l.taken (take l.one-index l.out));
  history : l.log.history ≡ l.fn.log.history;
  room : l.log.room ≡ l.fn.log.room;
  post_room : l.log.post_room + l.count ≡ l.fn.log.post_room;
}
