use Rattle.std.proofs.Common.{◌≡◌, ◌∙◌, ◌+◌, ◌++◌, ◌<◌, ap, sym, subst, arith, ℕ, List, length, length-append, map, take, slice_set, Option}
use Rattle.std.specs.Prelude.{slice_index_or}
use Rattle.std.proofs.lemmas.List.{length-set, take_more}
use Rattle.flat_base.specs.declared.ids.PairNo.{PairNo}
use Rattle.flat_scene.specs.declared.journal.Entry.{Entry}
use Rattle.flat_scene.specs.declared.journal.Event.{Event}
use Rattle.flat_scene.specs.declared.journal.PostedEvent.{PostedEvent}
use Rattle.flat_scene.specs.declared.journal.WatcherValue.{WatcherValue}
use Rattle.flat_facts.specs.Begins.{post_of}
use Rattle.flat_rules.specs.Watch.{told}
use Rattle.flat_gets.specs.Pairs.{IsTold, part_events, watcher_at}
use Rattle.flat_gets.specs.Watchers.{TellsEach}
use Rattle.flat_gets.proofs.PairLists.{listed-before, take-all}
use Rattle.flat_gets.proofs.TellSteps.{count-map, due-next, tells-next}
use Rattle.flat_gets.proofs.watching.tell_each.Goals as goal

pub loop-p-preserved : goal.loop-p-preserved
loop-p-preserved g c =
    let inv = c.loop-p.invariant in
    let i = c.loop-p.p-index in
    let xs = c.args.listed.now in
    let none : PairNo = record { 0 = 0 } in
    let p : PairNo = slice_index_or xs i none in
    let cur = c.loop-p.pairs.items in
    let was = c.index_mut-pair.result.now in
    let then = c.tell-count.new.self in
    let e = c.tell-count.ensures in
    let below : i < length xs = c.loop-p-test.true in
    let known : p.0 < length c.args.pairs.now.items = c.requires.known i none below in
    let within : p.0 < length cur = omega (arith, known, inv.count) in
    let place : length c.loop-p.log.history ≡ length c.args.log.now.history = ap (length {A = Entry}) inv.history in
    let f : Event → PostedEvent = post_of (length c.loop-p.log.history) c.args.s in
    let given : List Event = part_events c.args.part p c.told_of-now.result was in
    let due = due-next cur p.0 was then c.tell-count.result within c.index_mut-pair.ensures.value e.due in
    record {
      told = λ setup history stands.
          let now : PairNo → Option WatcherValue = λ q. told setup history (watcher_at c.args.part q 0) in
          let is : c.told_of-now.result ≡ now p = c.told_of-now.ensures setup history stands in
          let T : List PairNo → Type 0 = λ l. TellsEach c.args.part now (length c.args.log.now.history) c.args.s l c.args.pairs.now.items
          (slice_set cur p.0 then) c.args.log.now.posts c.tell-count.new.log.posts (c.loop-p.count + c.tell-count.result) in
          subst T (sym (take_more xs i none below))
          (tells-next c.args.part now (length c.args.log.now.history) c.args.s (take i xs) p c.args.pairs.now.items cur was then
          c.args.log.now.posts c.loop-p.log.posts c.tell-count.new.log.posts c.loop-p.count c.tell-count.result
          (listed-before 0 xs c.requires.rising i none below) known (inv.told setup history stands) c.index_mut-pair.ensures.value
          (subst (λ (o : Option WatcherValue). IsTold c.args.part o was then) is e.told)
          (e.posts ∙ ap (λ (o : Option WatcherValue). c.loop-p.log.posts ++ map (post_of (length c.loop-p.log.history) c.args.s)
          (part_events c.args.part p o was)) is
          ∙ ap (λ (n : ℕ). c.loop-p.log.posts ++ map (post_of n c.args.s) (part_events c.args.part p (now p) was)) place)
          (e.count ∙ ap (λ (o : Option WatcherValue). length (part_events c.args.part p o was)) is));
      pushed = omega (arith, inv.pushed, e.count, ap (length {A = PostedEvent}) e.posts, length-append c.loop-p.log.posts (map f given), count-map f given);
      count = length-set cur p.0 then ∙ inv.count;
      due = omega (arith, due, inv.due);
      history = e.history ∙ inv.history;
      room = e.room ∙ inv.room;
      post_room = omega (arith, e.post_room, inv.post_room);
    }

pub returns-clause-told : goal.returns-clause-told
returns-clause-told g c = λ setup history stands.
    let T : List PairNo → Type 0 = λ l. TellsEach c.args.part (λ (q : PairNo). told setup history (watcher_at c.args.part q 0)) (length c.args.log.now.history)
    c.args.s l c.args.pairs.now.items c.loop-p.pairs.items c.args.log.now.posts c.loop-p.log.posts c.loop-p.count in
    subst T (take-all c.args.listed.now c.loop-p.p-index c.loop-p-test.false) (c.loop-p.invariant.told setup history stands)
