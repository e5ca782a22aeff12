use Rattle.std.proofs.Common.{◌≡◌, List, [], ◌+◌, ◌<◌, ◌≤◌, ◌^◌, refl, sym, ◌∙◌, ap, arith}
use Rattle.flat_base.specs.declared.limits.TheConstants.{SESSIONS_MAX}
use Rattle.flat_rules.specs.Watch.{ratio_told}
use Rattle.flat_states.specs.declared.ratios.Ratios.{Ratios}
use Rattle.flat_states.proofs.lemmas.Counts.{declared-some}
use Rattle.flat_states.proofs.lemmas.Opened.{few-declared}
use Rattle.std.specs.List.{list_any}
use Rattle.flat_facts.specs.Lives.{is_new_viewport}
use Rattle.flat_base.specs.declared.ids.Actor.TheVariants.{Display}
use Rattle.flat_scene.specs.declared.journal.EntryKind.TheVariants.{Finish}
use Rattle.flat_scene.specs.declared.journal.Reply.TheVariants.{Done}
use Rattle.flat_scene.specs.History.{◌▹◌}
use Rattle.flat_scene.specs.declared.journal.Entry.{Entry}
use Rattle.flat_states.specs.Machines.{Machine}
use Rattle.flat_facts.specs.Begins.{finish_entry, finished}
use Rattle.flat_rules.specs.Legal.{Legal}
use Rattle.flat_states.proofs.lemmas.Steps.{has-room, legal-entered, short-history}
use Rattle.flat_states.proofs.lemmas.BoardBegins.{kept-finished, place-small}
use Rattle.flat_facts.proofs.lemmas.Ratios.{has-display}
use Rattle.flat_core.proofs.DisplayRatios.{finished-least, port-kept, ratios-kept, same-number}
use Rattle.flat_core.proofs.board.Board.done.Goals as goal

pub done_all-count-requires-clause-place : goal.done_all-count-requires-clause-place
done_all-count-requires-clause-place c =
    let may = rw (← c.self.view_is) at c.requires in
    let short = short-history _ _ _ _ may c.self.invariant.0.legal _ _ _ refl c.self.invariant.1 in
    omega (arith, short)

pub done_all-count-requires-clause-tells : goal.done_all-count-requires-clause-tells
done_all-count-requires-clause-tells c =
    let may = rw (← c.self.view_is) at c.requires in
    let inside = c.self.inside in
    let m : Machine = record { setup = inside.setup; shares = inside.shares; history = inside.log.history } in
    let legal : Legal inside.setup (finished inside.log.history c.args.line) =
    (c.self.invariant.0.legal, legal-entered m Display c.args.line [] Finish Done may refl) in
    let tied = c.finish-heard.ensures.tied inside.log.history c.args.line legal c.self.invariant.3 in
    let noted = c.finish-ratios.ensures inside.setup inside.log.history c.args.line (ratios-kept inside.setup inside.log.history _ _ _ _ c.self.invariant.0) in
    record {
      same = refl;
      shows = port-kept inside.setup (finished inside.log.history c.args.line) c.finish-ratios.result c.port_of.result noted
          c.port_of.ensures;
      legal = legal;
      tied = tied;
      viewed = c.self.invariant.0.viewed;
    }

pub done_all-count-requires-clause-within : goal.done_all-count-requires-clause-within
done_all-count-requires-clause-within c = (few-declared c.self.inside.setup c.self.invariant.1.limits).0

pub done_all-count-requires-clause-others : goal.done_all-count-requires-clause-others
done_all-count-requires-clause-others c s declared unheard =
    let may = rw (← c.self.view_is) at c.requires in
    let inside = c.self.inside in
    let setup = inside.setup in
    let h = inside.log.history in
    let m : Machine = record { setup = setup; shares = inside.shares; history = h } in
    let legal : Legal setup (finished h c.args.line) = (c.self.invariant.0.legal, legal-entered m Display c.args.line [] Finish Done may refl) in
    let kept = ratios-kept setup h _ _ _ _ c.self.invariant.0 in
    let noted = c.finish-ratios.ensures setup h c.args.line kept in
    let here = declared-some s.0 setup.sessions declared in
    let few : setup.sessions ≤ SESSIONS_MAX = (few-declared setup c.self.invariant.1.limits).0 in
    let told : ratio_told setup (finished h c.args.line) ≡ c.finish-ratios.result.finished = sym (ap (λ (r : Ratios). r.finished) noted) in
    let told_before : inside.clock.ratios.finished ≡ ratio_told setup h = ap (λ (r : Ratios). r.finished) kept in
    c.finish-heard.ensures.others h c.args.line s legal c.self.invariant.3 (λ same. told ∙ same-number _ _ same ∙ told_before) here.0
    (omega (arith, here.1, few)) unheard

pub port_of-requires-clause-ratio : goal.port_of-requires-clause-ratio
port_of-requires-clause-ratio c =
    let may = rw (← c.self.view_is) at c.requires in
    let inside = c.self.inside in
    let m : Machine = record { setup = inside.setup; shares = inside.shares; history = inside.log.history } in
    let legal : Legal inside.setup (finished inside.log.history c.args.line) =
    (c.self.invariant.0.legal, legal-entered m Display c.args.line [] Finish Done may refl) in
    let noted = c.finish-ratios.ensures inside.setup inside.log.history c.args.line (ratios-kept inside.setup inside.log.history _ _ _ _ c.self.invariant.0) in
    finished-least inside.setup (finished inside.log.history c.args.line) c.finish-ratios.result noted legal
    (has-display inside.setup c.self.invariant.1.limits)

pub port_of-requires-clause-width : goal.port_of-requires-clause-width
port_of-requires-clause-width c = (has-display c.self.inside.setup c.self.invariant.1.limits).width

pub port_of-requires-clause-height : goal.port_of-requires-clause-height
port_of-requires-clause-height c = (has-display c.self.inside.setup c.self.invariant.1.limits).height

pub enter-requires : goal.enter-requires
enter-requires c =
    let may = rw (← c.self.view_is) at c.requires in
    let all = c.done_all-count.ensures in
    record {
      room = rw all.room (has-room _ _ _ _ may c.self.invariant.0.legal _ _ _ refl c.self.invariant.1);
      placed = rw c.display_entry.ensures tt;
      all = all.ends.count ∙ sym all.all;
      tied = c.finish-heard.ensures.sessions ∙ c.self.invariant.3.sessions ∙ sym all.all;
      none = λ opened. ap (λ (e : Entry). list_any is_new_viewport e.calls) c.display_entry.ensures;
    }

pub overflow_add-frames : goal.overflow_add-frames
overflow_add-frames c =
    let may = rw (← c.self.view_is) at c.requires in
    let few : c.self.inside.clock.frames + 1 < 2 ^ 32 = (place-small _ Finish may _ _ _ _ _ _ refl c.self.invariant.0 c.self.invariant.1).1 in
    omega (arith, few)

pub invariant_of-self : goal.invariant_of-self
invariant_of-self c =
    let may = rw (← c.self.view_is) at c.requires in
    let all = c.done_all-count.ensures in
    let log = rw c.display_entry.ensures at c.enter.ensures in
    let history : c.enter.new.log.history ≡ (c.done_all-count.new.log.history ▹ finish_entry c.args.line) =
    log.history in
    let kept = kept-finished _ c.args.line may _ _ _ _ _ _ _ _ _ _ _ refl c.self.invariant.0 c.self.invariant.1 all.all all.kept all.size all.members
    (record {
      posts = all.posts;
      posted = all.count;
      history = all.history;
      room = all.room;
      post_room = all.post_room;
      due = all.due;
      entered = record { history = history; posts = log.posts; room = log.room; post_room = log.post_room };
    }) c.finish-ratios.result (c.finish-ratios.ensures c.self.inside.setup c.self.inside.log.history c.args.line) in
    let now = history ∙ ap (λ (h : List Entry). h ▹ finish_entry c.args.line) all.history in
    let inside = c.self.inside in
    let m : Machine = record { setup = inside.setup; shares = inside.shares; history = inside.log.history } in
    let tied = c.finish-heard.ensures.tied inside.log.history c.args.line
    (c.self.invariant.0.legal, legal-entered m Display c.args.line [] Finish Done may refl) c.self.invariant.3 in
    rw (log.sessions, log.ends.0, log.ends.1) (kept.0, kept.1, rw now all.ends, rw now tied, rw now all.watched)
