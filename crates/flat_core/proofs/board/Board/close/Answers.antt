use Rattle.std.proofs.Common.{◌≡◌, ◌-◌, true, false, refl, sym, ◌∙◌, ap, slice_set}
use Rattle.flat_base.specs.declared.ids.Actor.TheVariants.{Session}
use Rattle.flat_scene.specs.declared.journal.EntryKind.TheVariants.{Close}
use Rattle.flat_scene.specs.declared.journal.Reply.{Reply}
use Rattle.flat_scene.specs.History.{closes}
use Rattle.flat_states.specs.declared.state.SessionState.{SessionState}
use Rattle.flat_facts.specs.Begins.{entry_of}
use Rattle.flat_states.specs.Machines.{Machine}
use Rattle.flat_states.specs.Presents.{after_reply}
use Rattle.flat_states.proofs.lemmas.Changes.{seen-closed, kept-closed, is-session}
use Rattle.flat_states.proofs.lemmas.Heard.{entered-set, heard-close}
use Rattle.flat_links.proofs.lemmas.EndSteps.{ends-after, standing}
use Rattle.flat_states.proofs.lemmas.Ones.{kept-one, placed-of, plain-close, reply-close, closes-close}
use Rattle.flat_states.proofs.lemmas.Steps.{has-room, unchanged}
use Rattle.flat_gets.proofs.lemmas.WatchingSteps.{told-too, watched-after}
use Rattle.flat_core.proofs.board.Board.close.Goals as goal

pub enter-requires : goal.enter-requires
enter-requires c =
    let call = rw (← c.self.view_is) at c.requires in
    record {
      room = has-room _ _ _ _ call c.self.invariant.0.legal _ _ _ refl c.self.invariant.1;
      placed = placed-of c.self.inside.setup (Close c.args.why) (Session c.args.s) _ c.self.invariant.0.count call.may.acts;
      all = c.self.invariant.2.count ∙ sym c.self.invariant.0.count;
      tied = c.self.invariant.3.sessions ∙ sym c.self.invariant.0.count;
      none = λ opened. let wrong : true ≡ false = sym (closes-close c.args.why) ∙ ap closes (sym c.close_reply-reply.ensures) ∙ opened in absurd (cc);
    }

pub invariant_of-self : goal.invariant_of-self
invariant_of-self c =
    let call = rw (← c.self.view_is) at c.requires in
    let inside = c.self.inside in
    let did = c.enter.ensures in
    let at = did.ends in
    let reply = c.close_reply-reply.result in
    let replied = c.close_reply-reply.ensures in
    let setup = inside.setup in
    let h = inside.log.history in
    let m : Machine = record { setup = setup; shares = inside.shares; history = h } in
    let states = inside.sessions.items in
    let is = replied ∙ sym (reply-close setup h (Session c.args.s) c.args.calls c.args.why) in
    let shut : closes reply ≡ true = ap closes replied ∙ closes-close c.args.why in
    let stands = standing m (Session c.args.s) c.args.calls (Close c.args.why) call inside.clock inside.fences inside.view_ends states c.self.invariant.0 in
    let ends = ends-after m (Session c.args.s) c.args.line c.args.calls (Close c.args.why) reply call is refl refl
    (λ opened. let wrong : true ≡ false = sym shut ∙ opened in absurd (cc)) c.self.invariant.0.legal states inside.viewports.items c.enter.new.ends.items
    inside.links c.enter.new.links stands at c.self.invariant.2 c.self.invariant.3 in
    let placed = placed-of setup (Close c.args.why) (Session c.args.s) _ c.self.invariant.0.count call.may.acts in
    let closed : SessionState = record at.state { closed = true } in
    let sessions : c.enter.new.sessions.items ≡ slice_set states (c.args.s.0 - 1) closed =
    did.sessions ∙ entered-set c.args.s c.args.line c.args.calls (Close c.args.why) reply states at.state placed at.of_state
    ∙ ap (slice_set states (c.args.s.0 - 1)) (ap (λ (r : Reply). after_reply (Close c.args.why) r at.state) replied ∙ heard-close c.args.why at.state) in
    let kept = kept-one m c.args.s c.args.line c.args.calls (Close c.args.why) reply call is refl refl refl _ _ _ _ _ _ _ _ _
    at.state closed at.of_state refl c.self.invariant.0 c.self.invariant.1 (unchanged _ _ _ _ (λ sessions g f. refl) (λ p. refl))
    (λ kept. rw (seen-closed setup h (entry_of (Session c.args.s) c.args.line c.args.calls (Close c.args.why) reply) c.args.s (plain-close _ _ _ _ _) shut
    (is-session c.args.s))
    (kept-closed setup _ _ kept))
    refl (told-too inside.watchers ends.1) (record { history = did.history; posts = did.posts; room = did.room; post_room = did.post_room }) in
    rw sessions (
      kept.0,
      kept.1,
      rw did.history ends.0,
      rw did.history ends.2,
      rw did.history (watched-after m (Session c.args.s) c.args.line c.args.calls (Close c.args.why) reply call is refl refl refl c.self.invariant.0.legal
          inside.watchers c.self.invariant.4),
    )
