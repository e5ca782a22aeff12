use Rattle.std.proofs.Common.{◌≡◌, [], ap, refl, sym, ◌∙◌}
use Rattle.std.specs.List.{list_any}
use Rattle.flat_facts.specs.Lives.{is_new_viewport}
use Rattle.flat_base.specs.declared.ids.Actor.TheVariants.{Display}
use Rattle.flat_scene.specs.declared.journal.EntryKind.TheVariants.{Dpr}
use Rattle.flat_scene.specs.declared.journal.Reply.TheVariants.{Done}
use Rattle.flat_scene.specs.History.{◌▹◌}
use Rattle.flat_scene.specs.declared.journal.Entry.{Entry}
use Rattle.flat_states.specs.Machines.{Machine}
use Rattle.flat_facts.specs.Begins.{entry_of}
use Rattle.flat_links.proofs.lemmas.EndSteps.{ends-after}
use Rattle.flat_states.proofs.lemmas.Ones.{kept-quiet}
use Rattle.flat_states.proofs.lemmas.Steps.{has-room, unchanged}
use Rattle.flat_gets.proofs.lemmas.WatchingSteps.{told-too, watched-after}
use Rattle.flat_core.proofs.board.Board.dpr.Goals as goal

pub enter-requires : goal.enter-requires
enter-requires c =
    let call = rw (← c.self.view_is) at c.requires in
    record {
      room = has-room _ _ _ _ call c.self.invariant.0.legal _ _ _ refl c.self.invariant.1;
      placed = rw c.display_entry.ensures tt;
      all = c.self.invariant.2.count ∙ sym c.self.invariant.0.count;
      tied = c.self.invariant.3.sessions ∙ sym c.self.invariant.0.count;
      none = λ opened. ap (λ (e : Entry). list_any is_new_viewport e.calls) c.display_entry.ensures;
    }

pub invariant_of-self : goal.invariant_of-self
invariant_of-self c =
    let call = rw (← c.self.view_is) at c.requires in
    let log = rw c.display_entry.ensures at c.enter.ensures in
    let inside = c.self.inside in
    let m : Machine = record { setup = inside.setup; shares = inside.shares; history = inside.log.history } in
    let history : c.enter.new.log.history ≡ (inside.log.history ▹ entry_of Display c.args.line [] (Dpr c.args.ratio) Done) =
    log.history in
    let ends = ends-after m Display c.args.line [] (Dpr c.args.ratio) Done call refl refl refl (λ opened. refl) c.self.invariant.0.legal inside.sessions.items
    inside.viewports.items c.enter.new.ends.items inside.links c.enter.new.links tt log.ends c.self.invariant.2 c.self.invariant.3 in
    let kept = kept-quiet m Display c.args.line [] (Dpr c.args.ratio) Done call refl
    (record { no_begin = refl; no_finish = refl; no_poll = refl; no_view = refl; none = λ made. refl }) refl refl _ _ _ _ _ _ _ _ _ _ refl
    c.self.invariant.0 c.self.invariant.1
    (unchanged _ _ _ _ (λ sessions g f. refl) (λ p. refl)) log.sessions (told-too inside.watchers ends.1)
    (record { history = history; posts = log.posts; room = log.room; post_room = log.post_room }) in (
      rw c.set-self-inside.ensures kept.0,
      kept.1,
      rw history ends.0,
      rw history ends.2,
      rw history (watched-after m Display c.args.line [] (Dpr c.args.ratio) Done call refl refl refl refl c.self.invariant.0.legal inside.watchers
          c.self.invariant.4),
    )
