use Rattle.std.proofs.Common.{◌≡◌, ◌-◌, refl, sym, ◌∙◌, ap, slice_set, subst}
use Rattle.std.specs.Prelude.{not}
use Rattle.flat_base.specs.declared.ids.Actor.TheVariants.{Session}
use Rattle.flat_scene.specs.declared.journal.EntryKind.TheVariants.{View}
use Rattle.flat_scene.specs.declared.journal.Reply.{Reply}
use Rattle.flat_states.specs.Machines.{Machine}
use Rattle.flat_states.specs.Presents.{after_reply}
use Rattle.flat_states.proofs.lemmas.Heard.{after_view, entered-set, heard-view}
use Rattle.flat_rules.specs.Legal.{reply_to}
use Rattle.flat_links.proofs.lemmas.EndSteps.{ends-after, none-new, standing}
use Rattle.flat_states.proofs.lemmas.Ones.{kept-one, placed-of}
use Rattle.flat_states.proofs.lemmas.Steps.{has-room}
use Rattle.flat_facts.proofs.lemmas.Tests.{or-false}
use Rattle.flat_states.proofs.lemmas.ViewSteps.{view-replied, view-changed, view-below, view-kept, view-due}
use Rattle.flat_gets.proofs.lemmas.WatchingSteps.{told-too, watched-after}
use Rattle.flat_core.proofs.board.Board.view.Goals as goal

pub set-requires : goal.set-requires
set-requires c =
    let call = rw (← c.self.view_is) at c.requires in
    view-below _ _ _ c.args.p _ call c.self.invariant.0.view_count

pub enter-requires : goal.enter-requires
enter-requires c =
    let call = rw (← c.self.view_is) at c.requires in
    record {
      room = has-room _ _ _ _ call c.self.invariant.0.legal _ _ _ refl c.self.invariant.1;
      placed = placed-of c.self.inside.setup (View c.args.p) (Session c.args.s) _ c.self.invariant.0.count call.may.acts;
      all = c.self.invariant.2.count ∙ sym c.self.invariant.0.count;
      tied = c.self.invariant.3.sessions ∙ sym c.self.invariant.0.count;
      none = λ opened. none-new (View c.args.p) c.args.calls refl call.may.links call.may.calls;
    }

pub invariant_of-self : goal.invariant_of-self
invariant_of-self c =
    let call = rw (← c.self.view_is) at c.requires in
    let inside = c.self.inside in
    let did = c.enter.ensures in
    let at = did.ends in
    let held = not c.is_used-is_held.result in
    let reply = c.use_reply-reply.result in
    let replied = c.use_reply-reply.ensures in
    let m : Machine = record { setup = inside.setup; shares = inside.shares; history = inside.log.history } in
    let states = inside.sessions.items in
    let is : reply ≡ reply_to inside.setup inside.log.history (Session c.args.s) c.args.calls (View c.args.p) =
    replied ∙ view-replied inside.setup inside.log.history c.args.s c.args.calls c.args.p c.is_used-is_held.result
    (c.is_used-is_held.ensures ∙ c.self.invariant.0.viewed c.args.p) in
    let stands = standing m (Session c.args.s) c.args.calls (View c.args.p) call inside.clock inside.fences inside.view_ends states c.self.invariant.0 in
    let ends = ends-after m (Session c.args.s) c.args.line c.args.calls (View c.args.p) reply call is refl refl (λ opened. refl) c.self.invariant.0.legal states
    inside.viewports.items c.enter.new.ends.items inside.links c.enter.new.links stands at c.self.invariant.2 c.self.invariant.3 in
    let placed = placed-of inside.setup (View c.args.p) (Session c.args.s) _ c.self.invariant.0.count call.may.acts in
    let sessions : c.enter.new.sessions.items ≡ slice_set states (c.args.s.0 - 1) (after_view c.args.p held at.state) =
    did.sessions ∙ entered-set c.args.s c.args.line c.args.calls (View c.args.p) reply states at.state placed at.of_state
    ∙ ap (slice_set states (c.args.s.0 - 1)) (ap (λ (r : Reply). after_reply (View c.args.p) r at.state) replied ∙ heard-view c.args.p held at.state) in
    let kept = kept-one m c.args.s c.args.line c.args.calls (View c.args.p) reply call is refl refl refl _ _ _ _ _ _ _ _ _
    at.state (after_view c.args.p held at.state) at.of_state refl c.self.invariant.0 c.self.invariant.1
    (record {
      fence_size = refl;
      signalled = λ f. or-false _;
      view_size = c.set.ensures.size;
      viewed = rw replied (view-changed _ _ c.args.p c.is_used-is_held.result (sym c.is_used-is_held.ensures) c.set.ensures.members);
    })
    (λ kept. rw replied (view-kept inside.setup inside.log.history c.args.s c.args.line c.args.calls c.args.p held at.state kept))
    (view-due c.args.p held at.state) (told-too inside.watchers ends.1)
    (record { history = did.history; posts = did.posts; room = did.room; post_room = did.post_room }) in
    rw sessions (
      kept.0,
      kept.1,
      rw did.history ends.0,
      rw did.history ends.2,
      rw did.history (watched-after m (Session c.args.s) c.args.line c.args.calls (View c.args.p) reply call is refl refl refl c.self.invariant.0.legal
          inside.watchers c.self.invariant.4),
    )

pub returns-clause-reply : goal.returns-clause-reply
returns-clause-reply c =
    let inside = c.self.inside in
    let used = c.is_used-is_held.result in
    let P : Machine → Type 0 = λ m. c.use_reply-reply.result ≡ reply_to m.setup m.history (Session c.args.s) c.args.calls (View c.args.p) in
    subst P c.self.view_is
    (c.use_reply-reply.ensures ∙ view-replied inside.setup inside.log.history c.args.s c.args.calls c.args.p used
    (c.is_used-is_held.ensures ∙ c.self.invariant.0.viewed c.args.p))
