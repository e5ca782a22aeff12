use Rattle.std.proofs.Common.{◌≡◌, ◌+◌, take, length}
use Rattle.std.specs.Prelude.{sum_by}
use Rattle.flat_base.specs.declared.ids.PairNo.{PairNo}
use Rattle.flat_scene.specs.declared.journal.Entry.{Entry}
use Rattle.std.specs.Prelude.{List}
use Rattle.flat_scene.specs.declared.setup.Setup.{Setup}
use Rattle.flat_rules.specs.Watch.{told}
use Rattle.flat_gets.specs.Pairs.{waiting_in, watcher_at}
use Rattle.flat_gets.specs.Watchers.{TellsEach}
use Rattle.flat_gets.proofs.watching.tell_each.Given as goal

-- those before the next one were told
abbrev pub invariant-loop-p : goal.invariant-loop-p
invariant-loop-p g l = record {
  told : (setup : Setup) (history : List Entry) → g.T.WatcherValues.stands l.fn.tells setup history
      → TellsEach l.part (λ (p : PairNo). told setup history (watcher_at l.part p 0)) (length l.fn.log.history) l.s (take l.p-index l.listed) l.fn.pairs.items
      l.pairs.items l.fn.log.posts l.log.posts l.count;
  pushed : length l.log.posts ≡ length l.fn.log.posts + l.count;
  count : length l.pairs.items ≡ length l.fn.pairs.items;
  due : sum_by waiting_in l.pairs.items + l.count ≡ sum_by waiting_in l.fn.pairs.items;
  history : l.log.history ≡ l.fn.log.history;
  room : l.log.room ≡ l.fn.log.room;
  post_room : l.log.post_room + l.count ≡ l.fn.log.post_room;
}
