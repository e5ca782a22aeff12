use Rattle.std.proofs.Common.{◌≡◌, ◌∙◌, ◌+◌, ◌-◌, ◌<◌, ◌≤◌, ap, sym, subst, refl, arith, ℕ, List, length, All}
use Rattle.std.specs.Prelude.{filter, slice_index_or}
use Rattle.flat_base.specs.declared.ids.PairNo.{PairNo}
use Rattle.flat_base.specs.declared.ids.SessionNo.{SessionNo}
use Rattle.flat_scene.specs.declared.journal.Entry.{Entry}
use Rattle.flat_scene.specs.declared.setup.Setup.{Setup}
use Rattle.flat_rules.specs.Watch.{told}
use Rattle.flat_gets.specs.declared.pair.WatchedPart.TheVariants as parts
use Rattle.flat_gets.specs.declared.pair.PairWatchers.{PairWatchers}
use Rattle.flat_gets.specs.Listed.{AreListed, KeptGets, view_waits, viewport_waits, waits_at}
use Rattle.flat_gets.specs.Pairs.{watcher_at}
use Rattle.flat_gets.specs.declared.watching.Watchers.{Watchers}
use Rattle.flat_gets.specs.Watchers.{TellsEach, WatchedUpTo}
use Rattle.flat_states.proofs.lemmas.Counts.{at-session}
use Rattle.flat_gets.proofs.SettleSteps.{settled-counted, settled-each, settled-length, settled-posted}
use Rattle.flat_gets.proofs.WatchLists.{views-known, viewports-known}
use Rattle.flat_gets.proofs.watching.Watchers.settle.Goals as goal

-- the lists of the session that is told stand by its pairs as they were
own-lists : (setup : Setup) (n : ℕ) (after before : List Entry) (own : Watchers) → WatchedUpTo setup n after before own → (s : SessionNo) (from : KeptGets)
    → 0 < s.0 → s.0 ≤ length own.sessions.items → from ≡ slice_index_or own.sessions.items (s.0 - 1) from → AreListed setup s own.pairs.items from
own-lists setup n after before own are s from some within is =
    at-session (λ t one. AreListed setup t own.pairs.items one) own.sessions.items s from are.listed some within is

pub tell_each-layouts-requires-clause-known : goal.tell_each-layouts-requires-clause-known
tell_each-layouts-requires-clause-known g c =
    let w = c.requires.watched in
    let own = c.args.self.now in
    let from = c.index_mut-session.result.now in
    let lists = own-lists w.0 w.1.0 w.1.1.0 w.1.1.1.0 own w.1.1.1.1 c.args.s from (c.requires.some c.if-is_passed.false)
    (c.requires.within c.if-is_passed.false) c.index_mut-session.ensures.value in
    subst (λ (l : List PairNo). All (λ q. q.0 < length own.pairs.items) l) (sym c.views.ensures.value)
    (views-known w.0 c.args.s (length own.pairs.items) (sym w.1.1.1.1.count) own.pairs.items from lists)

pub tell_each-statuses-requires-clause-known : goal.tell_each-statuses-requires-clause-known
tell_each-statuses-requires-clause-known g c =
    let w = c.requires.watched in
    let own = c.args.self.now in
    let from = c.index_mut-session.result.now in
    let lists = own-lists w.0 w.1.0 w.1.1.0 w.1.1.1.0 own w.1.1.1.1 c.args.s from (c.requires.some c.if-is_passed.false)
    (c.requires.within c.if-is_passed.false) c.index_mut-session.ensures.value in
    let n = length c.tell_each-layouts.new.pairs.items in
    subst (λ (l : List PairNo). All (λ q. q.0 < n) l) (sym c.views-2.ensures.value)
    (views-known w.0 c.args.s n (sym w.1.1.1.1.count ∙ sym c.tell_each-layouts.ensures.count) own.pairs.items from lists)

pub tell_each-children-requires-clause-known : goal.tell_each-children-requires-clause-known
tell_each-children-requires-clause-known g c =
    let w = c.requires.watched in
    let own = c.args.self.now in
    let from = c.index_mut-session.result.now in
    let lists = own-lists w.0 w.1.0 w.1.1.0 w.1.1.1.0 own w.1.1.1.1 c.args.s from (c.requires.some c.if-is_passed.false)
    (c.requires.within c.if-is_passed.false) c.index_mut-session.ensures.value in
    let n = length c.tell_each-statuses.new.pairs.items in
    subst (λ (l : List PairNo). All (λ q. q.0 < n) l) (sym c.viewports.ensures.value)
    (viewports-known w.0 c.args.s n (sym w.1.1.1.1.count ∙ sym c.tell_each-layouts.ensures.count ∙ sym c.tell_each-statuses.ensures.count) own.pairs.items
    from lists)

pub returns-clause-settled : goal.returns-clause-settled
returns-clause-settled g c = λ opened setup history stands.
    let now = told setup history in
    let from = c.index_mut-session.result.now in
    let place = length c.args.log.now.history in
    let s = c.args.s in
    let p0 = c.args.self.now.pairs.items in
    let p1 = c.tell_each-layouts.new.pairs.items in
    let p2 = c.tell_each-statuses.new.pairs.items in
    let p3 = c.tell_each-children.new.pairs.items in
    let q0 = c.args.log.now.posts in
    let q1 = c.tell_each-layouts.new.log.posts in
    let q2 = c.tell_each-statuses.new.log.posts in
    let q3 = c.tell_each-children.new.log.posts in
    let a = c.tell_each-layouts.result in
    let b = c.tell_each-statuses.result in
    let n = c.tell_each-children.result in
    let one : length c.tell_each-layouts.new.log.history ≡ place = ap (length {A = Entry}) c.tell_each-layouts.ensures.history in
    let two : length c.tell_each-statuses.new.log.history ≡ place =
    ap (length {A = Entry}) (c.tell_each-statuses.ensures.history ∙ c.tell_each-layouts.ensures.history) in
    let layouts : TellsEach parts.Layout (λ (p : PairNo). now (watcher_at parts.Layout p 0)) place s from.views p0 p1 q0 q1 a =
    subst (λ (l : List PairNo). TellsEach parts.Layout (λ (p : PairNo). now (watcher_at parts.Layout p 0)) place s l p0 p1 q0 q1 a) c.views.ensures.value
    (c.tell_each-layouts.ensures.told setup history stands) in
    let statuses : TellsEach parts.Status (λ (p : PairNo). now (watcher_at parts.Status p 0)) place s from.views p1 p2 q1 q2 b =
    subst (λ (m : ℕ). TellsEach parts.Status (λ (p : PairNo). now (watcher_at parts.Status p 0)) m s from.views p1 p2 q1 q2 b) one
    (subst (λ (l : List PairNo). TellsEach parts.Status (λ (p : PairNo). now (watcher_at parts.Status p 0)) (length c.tell_each-layouts.new.log.history) s l p1
    p2 q1 q2 b) c.views-2.ensures.value (c.tell_each-statuses.ensures.told setup history stands)) in
    let children : TellsEach parts.Child (λ (p : PairNo). now (watcher_at parts.Child p 0)) place s from.viewports p2 p3 q2 q3 n =
    subst (λ (m : ℕ). TellsEach parts.Child (λ (p : PairNo). now (watcher_at parts.Child p 0)) m s from.viewports p2 p3 q2 q3 n) two
    (subst (λ (l : List PairNo). TellsEach parts.Child (λ (p : PairNo). now (watcher_at parts.Child p 0)) (length c.tell_each-statuses.new.log.history) s l p2
    p3 q2 q3 n) c.viewports.ensures.value (c.tell_each-children.ensures.told setup history stands)) in
    let counted : c.count.new.self ≡ record from { answers = from.answers + (a + b + n) } = c.count.ensures in
    record {
      from = from;
      to = c.forget.new.self;
      of_from = c.index_mut-session.ensures.value;
      sessions_are = refl;
      length_is = settled-length now place s from p0 p1 p2 p3 q0 q1 q2 q3 a b n layouts statuses children;
      each = settled-each now place s from p0 p1 p2 p3 q0 q1 q2 q3 a b n layouts statuses children;
      posted = settled-posted now place s from p0 p1 p2 p3 q0 q1 q2 q3 a b n layouts statuses children;
      counted = settled-counted now place s from p0 p1 p2 p3 q0 q1 q2 q3 a b n layouts statuses children;
      total = c.forget.ensures.answers ∙ ap (λ (k : KeptGets). k.answers) counted;
      views = c.forget.ensures.views ∙ ap (λ (k : KeptGets). filter (waits_at view_waits c.as_slice.result.now) k.views) counted
          ∙ ap (λ (ps : List PairWatchers). filter (waits_at view_waits ps) from.views) c.as_slice.ensures.value;
      viewports = c.forget.ensures.viewports ∙ ap (λ (k : KeptGets). filter (waits_at viewport_waits c.as_slice.result.now) k.viewports) counted
          ∙ ap (λ (ps : List PairWatchers). filter (waits_at viewport_waits ps) from.viewports) c.as_slice.ensures.value;
    }

pub returns-clause-count : goal.returns-clause-count
returns-clause-count g c = omega (arith, c.tell_each-layouts.ensures.pushed, c.tell_each-statuses.ensures.pushed, c.tell_each-children.ensures.pushed)
