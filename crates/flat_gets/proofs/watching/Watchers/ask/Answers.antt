use Rattle.std.proofs.Common.{◌≡◌, ◌∙◌, ◌-◌, ap, sym, subst, refl, arith, Bool, slice_set}
use Rattle.std.specs.Prelude.{Option, cond, is_some, not, ◌&&◌, sum_by}
use Rattle.flat_scene.specs.declared.journal.WatcherValue.{WatcherValue}
use Rattle.flat_scene.specs.declared.journal.Reply.{Reply}
use Rattle.flat_rules.specs.Legal.{got, number_if}
use Rattle.flat_rules.specs.Watch.{told}
use Rattle.flat_watch.specs.Told.{news}
use Rattle.flat_gets.specs.declared.pair.WatchedPart.{WatchedPart}
use Rattle.flat_gets.specs.Listed.{KeptGets, with_pair}
use Rattle.flat_gets.specs.Pairs.{IsGot, hanging_get_at, is_child, part_of, waiting_in, watcher_at}
use Rattle.flat_gets.specs.Watchers.{is_held, replied}
use Rattle.flat_gets.proofs.GotHangingGets.{got-due, held-is, if-err, reply-is}
use Rattle.flat_gets.proofs.WatchedJoins.{due-set, same-set, watched-items}
use Rattle.flat_gets.proofs.watching.Watchers.ask.Goals as goal

pub returns-in_err-list-clause-watched : goal.returns-in_err-list-clause-watched
returns-in_err-list-clause-watched g c =
    let own = c.args.self.now in
    let session : c.list.new.self ≡ c.index_mut-session.result.now = c.in_err-list.ensures.same in
    if-err c.from_residual-in_err-list.result _ (λ setup history are.
    watched-items setup history own (record { pairs = _; sessions = _ })
    (same-set own.pairs.items c.args.p.0 c.index_mut-pair.result.now c.index_mut-pair.ensures.value)
    (ap (slice_set own.sessions.items (c.args.s.0 - 1)) session
    ∙ same-set own.sessions.items (c.args.s.0 - 1) c.index_mut-session.result.now c.index_mut-session.ensures.value) are)

pub returns-in_err-list-clause-same_due : goal.returns-in_err-list-clause-same_due
returns-in_err-list-clause-same_due g c =
    if-err c.from_residual-in_err-list.result _ (ap (sum_by waiting_in)
    (same-set c.args.self.now.pairs.items c.args.p.0 c.index_mut-pair.result.now c.index_mut-pair.ensures.value))

pub returns-clause-asked : goal.returns-clause-asked
returns-clause-asked g c = λ setup history stands.
    let was = c.index_mut-pair.result.now in
    let then = c.get.new.self in
    let from = c.index_mut-session.result.now in
    let get = c.args.get in
    let p = c.args.p in
    let part : c.of-part.result ≡ part_of get = c.of-part.ensures in
    let now : c.told_of-now.result ≡ told setup history (watcher_at (part_of get) p 0) =
    c.told_of-now.ensures setup history stands ∙ ap (λ (k : WatchedPart). told setup history (watcher_at k p 0)) part in
    let value : Option WatcherValue = told setup history (watcher_at (part_of get) p 0) in
    let answer : c.reply_of-reply.result ≡ got (is_some (hanging_get_at (part_of get) was).waits) (news value (hanging_get_at (part_of get) was).last) =
    c.reply_of-reply.ensures ∙ ap replied c.get.ensures.answer
    ∙ reply-is (is_some (hanging_get_at (part_of get) was).waits) (news c.told_of-now.result (hanging_get_at (part_of get) was).last)
    ∙ ap (λ (o : Option WatcherValue). got (is_some (hanging_get_at (part_of get) was).waits) (news o (hanging_get_at (part_of get) was).last)) now in
    let waits : c.would_wait.result ≡ is_held c.reply_of-reply.result =
    c.would_wait.ensures ∙ ap (λ (k : WatchedPart). not (is_some (hanging_get_at k was).waits)
    && not (is_some (news c.told_of-now.result (hanging_get_at k was).last))) part
    ∙ ap (λ (o : Option WatcherValue). not (is_some (hanging_get_at (part_of get) was).waits) && not (is_some (news o (hanging_get_at (part_of get) was).last)))
    now
    ∙ sym (held-is (is_some (hanging_get_at (part_of get) was).waits) (news value (hanging_get_at (part_of get) was).last)) ∙ ap is_held (sym answer) in
    record {
      was = was;
      then = then;
      from = from;
      to = c.count.new.self;
      of_was = c.index_mut-pair.ensures.value;
      pairs_are = refl;
      of_from = c.index_mut-session.ensures.value;
      sessions_are = refl;
      gets = subst (λ (o : Option WatcherValue). IsGot (part_of get) get o was then) now c.get.ensures.gets;
      replied = answer;
      counted = ap (λ (k : KeptGets). k.answers) c.count.ensures ∙ omega (arith, c.list.ensures.answers, c.count_now.ensures);
      views =
          ap (λ (k : KeptGets). k.views) c.count.ensures ∙ c.in_ok-list.ensures.views
          ∙ ap (λ (k : WatchedPart). cond (c.would_wait.result && not (is_child k)) (with_pair p from.views) from.views) part
          ∙ ap (λ (b : Bool). cond (b && not (is_child (part_of get))) (with_pair p from.views) from.views) waits;
      viewports =
          ap (λ (k : KeptGets). k.viewports) c.count.ensures ∙ c.in_ok-list.ensures.viewports
          ∙ ap (λ (k : WatchedPart). cond (c.would_wait.result && is_child k) (with_pair p from.viewports) from.viewports) part
          ∙ ap (λ (b : Bool). cond (b && is_child (part_of get)) (with_pair p from.viewports) from.viewports) waits;
    }

pub returns-clause-due : goal.returns-clause-due
returns-clause-due g c =
    let was = c.index_mut-pair.result.now in
    let then = c.get.new.self in
    let get = c.args.get in
    let own = c.args.self.now.pairs.items in
    let answer : c.reply_of-reply.result ≡ got (is_some (hanging_get_at (part_of get) was).waits)
    (news c.told_of-now.result (hanging_get_at (part_of get) was).last) =
    c.reply_of-reply.ensures ∙ ap replied c.get.ensures.answer
    ∙ reply-is (is_some (hanging_get_at (part_of get) was).waits) (news c.told_of-now.result (hanging_get_at (part_of get) was).last) in
    let held = ap (λ (r : Reply). number_if (is_held r)) answer in
    omega (
      arith,
      due-set own c.args.p.0 was then c.requires.known c.index_mut-pair.ensures.value,
      got-due get c.told_of-now.result was then (part_of get) c.get.ensures.gets,
      held,
    )
