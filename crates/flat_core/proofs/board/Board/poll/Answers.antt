use Rattle.std.proofs.Common.{◌≡◌, ◌-◌, ◌<◌, ◌^◌, ◌++◌, length, refl, sym, ◌∙◌, ap, arith, slice_set, subst}
use Rattle.flat_base.specs.declared.ids.Actor.TheVariants.{Session}
use Rattle.flat_scene.specs.declared.journal.EntryKind.TheVariants.{Poll}
use Rattle.flat_scene.specs.declared.journal.Reply.TheVariants.{Polled}
use Rattle.flat_states.specs.Machines.{Machine}
use Rattle.flat_rules.specs.Legal.{reply_to, unread_events}
use Rattle.flat_links.proofs.lemmas.EndSteps.{ends-after, none-new, standing, standing-set}
use Rattle.flat_states.proofs.lemmas.Heard.{entered-changed}
use Rattle.std.proofs.lemmas.List.{length-set}
use Rattle.flat_states.specs.declared.state.SessionState.{SessionState}
use Rattle.flat_scene.specs.declared.journal.Reply.{Reply}
use Rattle.flat_states.proofs.lemmas.Ones.{kept-one, placed-of}
use Rattle.flat_core.proofs.Polled.{kept-polled}
use Rattle.flat_core.proofs.PollSteps.{polled-within, handed}
use Rattle.flat_states.proofs.lemmas.Steps.{has-room, unchanged}
use Rattle.flat_gets.proofs.lemmas.WatchingSteps.{told-too, watched-after}
use Rattle.flat_core.proofs.board.Board.poll.Goals as goal

pub push_events_from-requires : goal.push_events_from-requires
push_events_from-requires c =
    let call = rw (← c.self.view_is) at c.requires in
    polled-within _ c.args.s _ call _ _ _ _ _ _ _ _ c.index_mut-state.ensures.value refl c.self.invariant.0 c.self.invariant.1 c.posts-posts.ensures

pub overflow_cast-count : goal.overflow_cast-count
overflow_cast-count c =
    let call = rw (← c.self.view_is) at c.requires in
    let count : c.len.result - c.len-before.result ≡ length c.push_events_from.new.into - length c.args.into.now =
    rw (c.len.ensures, c.len-before.ensures) refl in
    let over = handed _ c.args.s _ call _ _ _ _ _ _ _ _ _ _ _ c.index_mut-state.ensures.value refl c.self.invariant.0 c.self.invariant.1 c.posts-posts.ensures
    c.in-Ok.ensures.ok count _ c.self.invariant.4 in
    let small : c.len.result - c.len-before.result < 2 ^ 32 = over.small in
    omega (arith, small)

pub enter-requires : goal.enter-requires
enter-requires c =
    let call = rw (← c.self.view_is) at c.requires in
    let setup = c.self.inside.setup in
    let state = c.index_mut-state.result.now in
    let polled : SessionState = record state { account = record state.account { polled = length c.posts-posts.result.now } } in
    let count : length (slice_set c.self.inside.sessions.items (c.args.s.0 - 1) polled) ≡ setup.sessions =
    length-set c.self.inside.sessions.items (c.args.s.0 - 1) polled ∙ c.self.invariant.0.count in
    record {
      room = has-room _ _ _ _ call c.self.invariant.0.legal _ _ _ refl c.self.invariant.1;
      placed = placed-of setup Poll (Session c.args.s) _ count call.may.acts;
      all = c.self.invariant.2.count ∙ sym count;
      tied = c.self.invariant.3.sessions ∙ sym count;
      none = λ opened. none-new Poll c.args.calls refl call.may.links call.may.calls;
    }

pub invariant_of-self-2 : goal.invariant_of-self-2
invariant_of-self-2 c =
    let call = rw (← c.self.view_is) at c.requires in
    let inside = c.self.inside in
    let setup = inside.setup in
    let h = inside.log.history in
    let m : Machine = record { setup = setup; shares = inside.shares; history = h } in
    let states = inside.sessions.items in
    let place = c.args.s.0 - 1 in
    let count : c.len.result - c.len-before.result ≡ length c.push_events_from.new.into - length c.args.into.now =
    rw (c.len.ensures, c.len-before.ensures) refl in
    let over = handed _ c.args.s _ call _ _ _ _ _ _ _ _ _ _ _ c.index_mut-state.ensures.value refl c.self.invariant.0 c.self.invariant.1 c.posts-posts.ensures
    c.in-Ok.ensures.ok count _ c.self.invariant.4 in
    let did = c.enter.ensures in
    let state = c.index_mut-state.result.now in
    let of_state = c.index_mut-state.ensures.value in
    let polled : SessionState = record state { account = record state.account { polled = length c.posts-posts.result.now } } in
    let reply : Reply = Polled (c.len.result - c.len-before.result) in
    let placed = placed-of setup Poll (Session c.args.s) _ c.self.invariant.0.count call.may.acts in
    let below : place < length states = omega (arith, placed.0, placed.1) in
    let stands = standing-set c.args.s states h state polled below of_state refl refl refl
    (standing m (Session c.args.s) c.args.calls Poll call inside.clock inside.fences inside.view_ends states c.self.invariant.0) in
    let ends = ends-after m (Session c.args.s) c.args.line c.args.calls Poll reply call (ap Polled over.as_many) refl refl (λ opened. refl)
    c.self.invariant.0.legal (slice_set states place polled) inside.viewports.items c.enter.new.ends.items inside.links c.enter.new.links stands did.ends
    c.self.invariant.2 c.self.invariant.3 in
    let sessions : c.enter.new.sessions.items ≡ slice_set states place polled =
    did.sessions ∙ entered-changed c.args.s c.args.line c.args.calls Poll reply states polled placed in
    let kept = kept-one m c.args.s c.args.line c.args.calls Poll reply call (ap Polled over.as_many) refl refl refl _ _ _ _ _ _ _ _ _
    state polled of_state refl c.self.invariant.0 c.self.invariant.1 (unchanged _ _ _ _ (λ sessions g f. refl) (λ p. refl))
    (λ kept. kept-polled setup h c.args.s c.args.line c.args.calls (c.len.result - c.len-before.result) (length c.posts-posts.result.now) state over.place kept)
    refl (told-too inside.watchers ends.1) (record { history = did.history; posts = did.posts; room = did.room; post_room = did.post_room }) in
    rw sessions (
      kept.0,
      kept.1,
      rw did.history ends.0,
      rw did.history ends.2,
      rw did.history (watched-after m (Session c.args.s) c.args.line c.args.calls Poll reply call (ap Polled over.as_many) refl refl refl
          c.self.invariant.0.legal inside.watchers c.self.invariant.4),
    )

pub returns-clause-reply : goal.returns-clause-reply
returns-clause-reply c =
    let call = rw (← c.self.view_is) at c.requires in
    let count : c.len.result - c.len-before.result ≡ length c.push_events_from.new.into - length c.args.into.now =
    rw (c.len.ensures, c.len-before.ensures) refl in
    let over = handed _ c.args.s _ call _ _ _ _ _ _ _ _ _ _ _ c.index_mut-state.ensures.value refl c.self.invariant.0 c.self.invariant.1 c.posts-posts.ensures
    c.in-Ok.ensures.ok count _ c.self.invariant.4 in
    let P : Machine → Type 0 = λ m. Polled (c.len.result - c.len-before.result) ≡ reply_to m.setup m.history (Session c.args.s) c.args.calls Poll in
    subst P c.self.view_is (ap Polled over.as_many)

pub returns-clause-events : goal.returns-clause-events
returns-clause-events c =
    let call = rw (← c.self.view_is) at c.requires in
    let count : c.len.result - c.len-before.result ≡ length c.push_events_from.new.into - length c.args.into.now =
    rw (c.len.ensures, c.len-before.ensures) refl in
    let over = handed _ c.args.s _ call _ _ _ _ _ _ _ _ _ _ _ c.index_mut-state.ensures.value refl c.self.invariant.0 c.self.invariant.1 c.posts-posts.ensures
    c.in-Ok.ensures.ok count _ c.self.invariant.4 in
    let P : Machine → Type 0 = λ m. c.push_events_from.new.into ≡ c.args.into.now ++ unread_events m.setup c.args.s m.history in
    subst P c.self.view_is over.events

pub returns-clause-count : goal.returns-clause-count
returns-clause-count c =
    let call = rw (← c.self.view_is) at c.requires in
    let count : c.len.result - c.len-before.result ≡ length c.push_events_from.new.into - length c.args.into.now =
    rw (c.len.ensures, c.len-before.ensures) refl in
    let over = handed _ c.args.s _ call _ _ _ _ _ _ _ _ _ _ _ c.index_mut-state.ensures.value refl c.self.invariant.0 c.self.invariant.1 c.posts-posts.ensures
    c.in-Ok.ensures.ok count _ c.self.invariant.4 in
    let P : Machine → Type 0 = λ m. Polled (c.len.result - c.len-before.result) ≡ Polled (length (unread_events m.setup c.args.s m.history)) in
    subst P c.self.view_is (ap Polled over.as_many)
