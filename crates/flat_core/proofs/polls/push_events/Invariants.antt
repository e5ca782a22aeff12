use Rattle.std.proofs.Common.{◌≡◌, ◌++◌, take}
use Rattle.flat_core.specs.Polls.{events_for}
use Rattle.flat_core.proofs.polls.push_events.Given as goal

abbrev pub invariant-loop-post : goal.invariant-loop-post
invariant-loop-post l = l.into ≡ l.fn.into ++ events_for l.s (take l.post-index l.posts)
