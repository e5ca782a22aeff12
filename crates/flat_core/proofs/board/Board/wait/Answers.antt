use Rattle.std.proofs.Common.{◌≡◌, refl, sym, ◌∙◌, ap}
use Rattle.flat_scene.specs.declared.journal.EntryKind.TheVariants.{Wait}
use Rattle.flat_scene.specs.declared.journal.Reply.{Reply}
use Rattle.flat_states.specs.Machines.{Machine}
use Rattle.flat_states.specs.Presents.{after_reply}
use Rattle.flat_rules.specs.Legal.{reply_to}
use Rattle.flat_links.proofs.lemmas.EndSteps.{ends-after, none-new, standing}
use Rattle.flat_states.proofs.lemmas.Heard.{entered-none, heard-wait}
use Rattle.flat_states.proofs.lemmas.Ones.{kept-quiet, plain-wait, placed-of}
use Rattle.flat_states.proofs.lemmas.Steps.{has-room, unchanged}
use Rattle.flat_gets.proofs.lemmas.WatchingSteps.{told-too, watched-after}
use Rattle.flat_core.proofs.board.Board.wait.Goals as goal
use Rattle.flat_rules.proofs.lemmas.Quiet.{closes-waited}

pub enter-requires : goal.enter-requires
enter-requires c =
    let call = rw (← c.self.view_is) at c.requires in
    record {
      room = has-room _ _ _ _ call c.self.invariant.0.legal _ _ _ refl c.self.invariant.1;
      placed = placed-of c.self.inside.setup (Wait c.args.c) c.args.who _ c.self.invariant.0.count call.may.acts;
      all = c.self.invariant.2.count ∙ sym c.self.invariant.0.count;
      tied = c.self.invariant.3.sessions ∙ sym c.self.invariant.0.count;
      none = λ opened. none-new (Wait c.args.c) c.args.calls refl call.may.links call.may.calls;
    }

pub invariant_of-self : goal.invariant_of-self
invariant_of-self c =
    let call = rw (← c.self.view_is) at c.requires in
    let did = c.enter.ensures in
    let reply = c.wait_reply-reply.result in
    let replied = c.wait_reply-reply.ensures in
    let value = rw (← c.self.view_is) at c.value-value.ensures in
    let asked = c.asked_of.ensures in
    let inside = c.self.inside in
    let m : Machine = record { setup = inside.setup; shares = inside.shares; history = inside.log.history } in
    let states = inside.sessions.items in
    let is : reply ≡ reply_to inside.setup inside.log.history c.args.who c.args.calls (Wait c.args.c) = rw (← asked, ← value) replied in
    let stands = standing m c.args.who c.args.calls (Wait c.args.c) call inside.clock inside.fences inside.view_ends states c.self.invariant.0 in
    let ends = ends-after m c.args.who c.args.line c.args.calls (Wait c.args.c) reply call is refl refl (λ opened. refl) c.self.invariant.0.legal states
    inside.viewports.items c.enter.new.ends.items inside.links c.enter.new.links stands did.ends c.self.invariant.2 c.self.invariant.3 in
    let kept = kept-quiet m c.args.who c.args.line c.args.calls (Wait c.args.c) reply call is (plain-wait _ _ _ _ _)
    (rw replied (closes-waited c.asked_of.result c.value-value.result)) refl _ _ _ _ _ _ _ _ _ _ refl c.self.invariant.0 c.self.invariant.1
    (unchanged _ _ _ _ (λ sessions g f. refl) (λ p. refl))
    (did.sessions ∙ entered-none c.args.who c.args.line c.args.calls (Wait c.args.c) reply states
    (λ state. ap (λ (r : Reply). after_reply (Wait c.args.c) r state) replied ∙ heard-wait c.args.c c.asked_of.result c.value-value.result state))
    (told-too inside.watchers ends.1)
    (record { history = did.history; posts = did.posts; room = did.room; post_room = did.post_room }) in (
      kept.0,
      kept.1,
      rw did.history ends.0,
      rw did.history ends.2,
      rw did.history (watched-after m c.args.who c.args.line c.args.calls (Wait c.args.c) reply call is refl refl refl c.self.invariant.0.legal
          inside.watchers c.self.invariant.4),
    )
