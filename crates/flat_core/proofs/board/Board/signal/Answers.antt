use Rattle.std.proofs.Common.{refl, sym, ◌∙◌}
use Rattle.flat_scene.specs.declared.journal.EntryKind.TheVariants.{Signal}
use Rattle.flat_scene.specs.declared.journal.Reply.TheVariants.{Done}
use Rattle.flat_states.specs.Machines.{Machine}
use Rattle.flat_links.proofs.lemmas.EndSteps.{ends-after, none-new, standing}
use Rattle.flat_states.proofs.lemmas.Heard.{entered-none}
use Rattle.flat_states.proofs.lemmas.Ones.{kept-quiet, plain-signal, placed-of, signal-below}
use Rattle.flat_states.proofs.lemmas.Steps.{has-room, signalled}
use Rattle.flat_gets.proofs.lemmas.WatchingSteps.{told-too, watched-after}
use Rattle.flat_core.proofs.board.Board.signal.Goals as goal

pub signal-requires : goal.signal-requires
signal-requires c =
    let call = rw (← c.self.view_is) at c.requires in
    signal-below _ _ _ _ call c.self.invariant.0.fence_count

pub enter-requires : goal.enter-requires
enter-requires c =
    let call = rw (← c.self.view_is) at c.requires in
    record {
      room = has-room _ _ _ _ call c.self.invariant.0.legal _ _ _ refl c.self.invariant.1;
      placed = placed-of c.self.inside.setup (Signal c.args.f) c.args.who _ c.self.invariant.0.count call.may.acts;
      all = c.self.invariant.2.count ∙ sym c.self.invariant.0.count;
      tied = c.self.invariant.3.sessions ∙ sym c.self.invariant.0.count;
      none = λ opened. none-new (Signal c.args.f) c.args.calls refl call.may.links call.may.calls;
    }

pub invariant_of-self : goal.invariant_of-self
invariant_of-self c =
    let call = rw (← c.self.view_is) at c.requires in
    let did = c.enter.ensures in
    let inside = c.self.inside in
    let m : Machine = record { setup = inside.setup; shares = inside.shares; history = inside.log.history } in
    let states = inside.sessions.items in
    let stands = standing m c.args.who c.args.calls (Signal c.args.f) call inside.clock inside.fences inside.view_ends states c.self.invariant.0 in
    let ends = ends-after m c.args.who c.args.line c.args.calls (Signal c.args.f) Done call refl refl refl (λ opened. refl) c.self.invariant.0.legal states
    inside.viewports.items c.enter.new.ends.items inside.links c.enter.new.links stands did.ends c.self.invariant.2 c.self.invariant.3 in
    let kept = kept-quiet m c.args.who c.args.line c.args.calls (Signal c.args.f) Done call refl (plain-signal _ _ _ _) refl refl _ _ _ _ _ _ _ _ _ _ refl
    c.self.invariant.0 c.self.invariant.1
    (signalled _ _ _ _ _ c.args.f c.signal.ensures.size c.signal.ensures.members)
    (did.sessions ∙ entered-none c.args.who c.args.line c.args.calls (Signal c.args.f) Done states (λ state. refl)) (told-too inside.watchers ends.1)
    (record { history = did.history; posts = did.posts; room = did.room; post_room = did.post_room }) in (
      kept.0,
      kept.1,
      rw did.history ends.0,
      rw did.history ends.2,
      rw did.history (watched-after m c.args.who c.args.line c.args.calls (Signal c.args.f) Done call refl refl refl refl c.self.invariant.0.legal
          inside.watchers c.self.invariant.4),
    )
