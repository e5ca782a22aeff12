use Rattle.std.proofs.Common.{◌≡◌, ◌∙◌, ◌-◌, ◌++◌, ◌<◌, ap, sym, subst, refl, arith, true, ℕ, List, length, length-append, map, slice_set, vec_capacity}
use Rattle.std.proofs.lemmas.List.{get_or-set_same}
use Rattle.flat_scene.specs.declared.journal.Entry.{Entry}
use Rattle.flat_scene.specs.declared.journal.Event.{Event}
use Rattle.flat_facts.specs.Begins.{post_of}
use Rattle.flat_rules.specs.Posts.{event_of}
use Rattle.flat_rules.specs.Watch.{layout_of, status_of, told}
use Rattle.flat_watch.specs.Told.{Watching, answer, settled}
use Rattle.flat_gets.specs.declared.pair.PairWatchers.{PairWatchers}
use Rattle.flat_gets.proofs.PartSteps.{two-posted}
use Rattle.flat_gets.proofs.watching.Watchers.tell_view.Goals as goal

pub returns-clause-told : goal.returns-clause-told
returns-clause-told g c = λ setup history stands.
    let was = c.index_mut-pair.result.now in
    let p = c.args.p in
    let now = told setup history in
    let first = c.tell-first.ensures in
    let second = c.tell-second.ensures in
    let layout_is = c.layout-layout.ensures setup history stands in
    let status_is = c.status-status.ensures setup history stands in
    let f = post_of (length c.args.log.now.history) c.args.owner in
    let layouts : List Event = event_of p was.layout.waits (answer (now (layout_of p)) was.layout) in
    let statuses : List Event = event_of p was.status.waits (answer (now (status_of p)) was.status) in
    let given : List Event = event_of p c.tell-first.new.self.status.waits (answer c.status-status.result c.tell-first.new.self.status) in
    let same : given ≡ statuses =
    ap (λ (w : Watching). event_of p w.waits (answer c.status-status.result w)) first.told.status
    ∙ ap (λ o. event_of p was.status.waits (answer o was.status)) status_is in
    let place : length c.tell-first.new.log.history ≡ length c.args.log.now.history = ap (length {A = Entry}) first.history in
    let one : c.tell-first.new.log.posts ≡ c.args.log.now.posts ++ map f layouts =
    first.posts ∙ ap (λ o. c.args.log.now.posts ++ map f (event_of p was.layout.waits (answer o was.layout))) layout_is in
    let two : c.tell-second.new.log.posts ≡ c.tell-first.new.log.posts ++ map f given =
    second.posts ∙ ap (λ (n : ℕ). c.tell-first.new.log.posts ++ map (post_of n c.args.owner) given) place in
    record {
      was = was;
      then = c.tell-second.new.self;
      from = c.index_mut-session.result.now;
      of_was = c.index_mut-pair.ensures.value;
      pairs_are = refl;
      of_from = c.index_mut-session.ensures.value;
      sessions_are = ap (λ k. slice_set c.args.self.now.sessions.items (c.args.owner.0 - 1) k) c.count.ensures;
      told = record {
        layout = second.told.layout ∙ first.told.layout ∙ ap (λ o. settled true o was.layout) layout_is;
        status = second.told.status ∙ ap (settled true c.status-status.result) first.told.status ∙ ap (λ o. settled true o was.status) status_is;
        child = second.told.child ∙ first.told.child;
        former = second.told.former ∙ first.told.former;
      };
      posted = two-posted f c.args.log.now.posts c.tell-first.new.log.posts c.tell-second.new.log.posts layouts given statuses one two same;
      counted = omega (
        arith,
        first.count,
        ap (λ o. length (event_of p was.layout.waits (answer o was.layout))) layout_is,
        second.count,
        ap (length {A = Event}) same,
        length-append layouts statuses,
      );
    }

pub returns-clause-free : goal.returns-clause-free
returns-clause-free g c = λ d.
    let own = c.args.self.now.pairs.items in
    let p = c.args.p.0 in
    let F : PairWatchers → Type 0 = λ w. length w.former.items < vec_capacity w.former in
    let was = c.index_mut-pair.result.now in
    let old : F was = subst F (sym c.index_mut-pair.ensures.value) (c.requires.free was) in
    let same = c.tell-second.ensures.free refl ∙ c.tell-first.ensures.free refl in
    let new : F c.tell-second.new.self = rw same old in
    subst F (sym (get_or-set_same own p c.tell-second.new.self d c.requires.known)) new
