use Rattle.std.specs.List.{list_any}
use Rattle.flat_facts.specs.Lives.{is_new_viewport}
use Rattle.std.proofs.Common.{◌≡◌, List, [], length, ◌+◌, ◌<◌, ◌^◌, refl, sym, ◌∙◌, ap, subst, arith}
use Rattle.flat_base.specs.declared.ids.Actor.TheVariants.{Display}
use Rattle.flat_scene.specs.declared.journal.Entry.{Entry}
use Rattle.flat_scene.specs.declared.journal.EntryKind.TheVariants.{Begin}
use Rattle.flat_scene.specs.declared.journal.Reply.TheVariants.{Done}
use Rattle.flat_scene.specs.History.{◌▹◌}
use Rattle.flat_states.specs.declared.state.SessionState.{SessionState}
use Rattle.flat_links.specs.AllEnds.{AreEnds}
use Rattle.flat_states.specs.Machines.{Machine}
use Rattle.flat_facts.specs.Begins.{begun, begin_entry}
use Rattle.flat_core.specs.Dues.{all_due}
use Rattle.flat_rules.specs.Numbers.{number, AllNumbered}
use Rattle.flat_states.specs.Kept.{IsKept}
use Rattle.flat_states.specs.Seen.{seen_of}
use Rattle.flat_topology.specs.Fit.{FitsSetup}
use Rattle.flat_topology.specs.Shown.{Shown}
use Rattle.flat_rules.specs.Legal.{Legal}
use Rattle.flat_links.proofs.lemmas.EndSteps.{ends-other}
use Rattle.flat_facts.proofs.lemmas.ShownFits.{begun-fits}
use Rattle.flat_states.proofs.lemmas.Opened.{few-declared}
use Rattle.flat_states.proofs.lemmas.Steps.{has-room, legal-entered}
use Rattle.flat_states.proofs.lemmas.BoardBegins.{kept-begun, place-small, held-back, unsquashable-shown}
use Rattle.flat_gets.proofs.lemmas.WatchingSteps.{watched-after}
use Rattle.flat_core.specs.Starts.{TakesReady}
use Rattle.flat_core.proofs.board.Board.enter_begin.Goals as goal
use Rattle.flat_rules.proofs.lemmas.ShownList.{length-listed}

pub begin_all-count-requires-clause-within : goal.begin_all-count-requires-clause-within
begin_all-count-requires-clause-within c = (few-declared c.self.inside.setup c.self.invariant.1.limits).0

pub begin_all-count-requires-clause-place : goal.begin_all-count-requires-clause-place
begin_all-count-requires-clause-place c =
    let may = rw (← c.self.view_is) at c.requires.may in
    (place-small _ (Begin c.args.time) may _ _ _ _ _ _ refl c.self.invariant.0 c.self.invariant.1).0

pub enter-requires : goal.enter-requires
enter-requires c =
    let may = rw (← c.self.view_is) at c.requires.may in
    let all = c.begin_all-count.ensures in
    record {
      room = rw all.room (has-room _ _ _ _ may c.self.invariant.0.legal _ _ _ refl c.self.invariant.1);
      placed = rw c.display_entry.ensures tt;
      all = c.self.invariant.2.count ∙ sym all.all;
      tied = c.begin.ensures.sessions ∙ c.self.invariant.3.sessions ∙ sym all.all;
      none = λ opened. ap (λ (e : Entry). list_any is_new_viewport e.calls) c.display_entry.ensures;
    }

pub overflow_add-result : goal.overflow_add-result
overflow_add-result c =
    let may = rw (← c.self.view_is) at c.requires.may in
    let few : c.self.inside.clock.frames + 1 < 2 ^ 32 = (place-small _ (Begin c.args.time) may _ _ _ _ _ _ refl c.self.invariant.0 c.self.invariant.1).1 in
    omega (arith, few)

pub begin-requires-clause-shown : goal.begin-requires-clause-shown
begin-requires-clause-shown c = ap (length {A = _}) c.begin_all-count.ensures.shown ∙ length-listed _ c.self.inside.setup.sessions

pub begin-requires-clause-fit : goal.begin-requires-clause-fit
begin-requires-clause-fit c =
    let may = rw (← c.self.view_is) at c.requires.may in
    let inside = c.self.inside in
    let e : Entry = begin_entry c.args.line c.args.time in
    let m : Machine = record { setup = inside.setup; shares = inside.shares; history = inside.log.history } in
    let legal : Legal inside.setup (inside.log.history ▹ e) =
    (c.self.invariant.0.legal, legal-entered m Display c.args.line [] (Begin c.args.time) Done may refl) in
    subst (λ (shows : Shown). FitsSetup inside.setup shows) (sym c.begin_all-count.ensures.shown) (begun-fits inside.setup (inside.log.history ▹ e) legal)

pub invariant_of-self : goal.invariant_of-self
invariant_of-self c =
    let may = rw (← c.self.view_is) at c.requires.may in
    let all = c.begin_all-count.ensures in
    let log = rw c.display_entry.ensures at c.enter.ensures in
    let history : c.enter.new.log.history ≡ (c.begin_all-count.new.log.history ▹ begin_entry c.args.line c.args.time) =
    log.history in
    let inside = c.self.inside in
    let e : Entry = begin_entry c.args.line c.args.time in
    let m : Machine = record { setup = inside.setup; shares = inside.shares; history = inside.log.history } in
    let legal : Legal inside.setup (inside.log.history ▹ e) =
    (c.self.invariant.0.legal, legal-entered m Display c.args.line [] (Begin c.args.time) Done may refl) in
    let ends : AreEnds inside.setup (inside.log.history ▹ e) inside.viewports.items =
    ends-other inside.setup inside.log.history e legal refl inside.viewports.items (λ j. refl) c.self.invariant.2 in
    let now : c.enter.new.log.history ≡ (inside.log.history ▹ e) = history ∙ ap (λ (h : List Entry). h ▹ e) all.history in
    let states = c.as_slice.ensures.value in
    let tied = c.begin.ensures.tied inside.log.history c.args.line c.args.time (record {
      legal = legal;
      kept = subst (λ (xs : List SessionState). AllNumbered
          (λ i. IsKept inside.setup (seen_of inside.setup (begun inside.log.history c.args.line c.args.time) (number i))) xs) (sym states) all.kept;
      shown = all.shown;
    }) c.self.invariant.3 in
    let kept = kept-begun m c.args.line c.args.time may _ _ _ _ _ _ _ _ _ _ {dues = all_due inside.sessions.items inside.viewports.items inside.watchers}
    {dues_now = all_due c.begin_all-count.new.sessions.items inside.viewports.items inside.watchers} refl c.self.invariant.0 c.self.invariant.1 all.all
    all.kept
    (record {
      posts = all.posts;
      posted = all.count;
      history = all.history;
      room = all.room;
      post_room = all.post_room;
      due = omega (arith, all.due);
      entered = record { history = history; posts = log.posts; room = log.room; post_room = log.post_room };
    }) c.begin-ratios.result (c.begin-ratios.ensures inside.setup inside.log.history c.args.line c.args.time) in
    rw (log.sessions, log.ends.0, log.ends.1) (
      kept.0,
      kept.1,
      rw now ends,
      rw now tied,
      rw now (watched-after m Display c.args.line [] (Begin c.args.time) Done may refl refl refl refl c.self.invariant.0.legal inside.watchers
          c.self.invariant.4),
    )

pub returns-clause-takes : goal.returns-clause-takes
returns-clause-takes c =
    let inside = c.self.inside in
    let m : Machine = record { setup = inside.setup; shares = inside.shares; history = inside.log.history } in
    let after = c.enter.new.log.history in
    let new : after ≡ begun inside.log.history c.args.line c.args.time =
    c.enter.ensures.history ∙ ap (λ (e : Entry). c.begin_all-count.new.log.history ▹ e) c.display_entry.ensures
    ∙ ap (λ (h : List Entry). begun h c.args.line c.args.time) c.begin_all-count.ensures.history in
    let P : List Entry → Machine → Type 0 = λ h n. TakesReady n h c.args.time in
    subst (P after) c.self.view_is (subst (λ (h : List Entry). P h m) (sym new) (record {
      next = held-back inside.setup inside.log.history c.args.line c.args.time;
      unsquashable = unsquashable-shown inside.setup inside.log.history c.args.line c.args.time;
    }))
