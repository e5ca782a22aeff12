use Rattle.std.proofs.Common.{◌≡◌, ◌+◌, ◌-◌, ◌<◌, ◌≤◌, ◌^◌, refl, sym, ◌∙◌, ap, arith, List, subst, length, slice_set}
use Rattle.flat_base.specs.declared.ids.Actor.TheVariants.{Session}
use Rattle.flat_scene.specs.declared.calls.Call.{Call}
use Rattle.flat_scene.specs.declared.journal.EntryKind.TheVariants.{Viewport}
use Rattle.flat_scene.specs.History.{◌▹◌}
use Rattle.flat_links.specs.declared.viewports.Viewports.{Viewports}
use Rattle.flat_states.specs.Machines.{HasRoom, Machine}
use Rattle.flat_facts.specs.Begins.{entry_of}
use Rattle.flat_core.specs.Dues.{all_due}
use Rattle.flat_gets.specs.Dues.{due_told}
use Rattle.flat_gets.specs.Watchers.{IsJoin, is_shut}
use Rattle.flat_scene.specs.declared.journal.Entry.{Entry}
use Rattle.flat_states.specs.declared.state.SessionState.{SessionState}
use Rattle.flat_core.proofs.UseSteps.{shut-known}
use Rattle.std.proofs.lemmas.Option.{slice_get_within}
use Rattle.flat_rules.specs.Legal.{has_token, reply_to}
use Rattle.flat_states.specs.Presents.{after_reply, use_reply}
use Rattle.flat_states.proofs.lemmas.Heard.{after_viewport, heard-viewport}
use Rattle.flat_scene.specs.declared.journal.Reply.{Reply}
use Rattle.flat_links.specs.AllEnds.{IsUsed, LinksUsed}
use Rattle.flat_states.proofs.lemmas.Counts.{declared-some, few-if}
use Rattle.flat_links.proofs.lemmas.EndSteps.{ends-same}
use Rattle.flat_states.proofs.lemmas.Ones.{declared-of}
use Rattle.flat_states.proofs.lemmas.Steps.{has-room, owed-small, room-more, short-history}
use Rattle.flat_gets.proofs.lemmas.WatchingSteps.{few-all}
use Rattle.flat_core.proofs.UseSteps.{held-told, join-used, kept-used, last-uses, others-none, replied, room-used, telling-used}
use Rattle.flat_core.proofs.DisplayRatios.{finished-least, ratios-kept}
use Rattle.flat_facts.proofs.lemmas.Ratios.{has-display}
use Rattle.flat_core.proofs.board.Board.viewport.Goals as goal

pub overflow_add-self-inside : goal.overflow_add-self-inside
overflow_add-self-inside c =
    let call = rw (← c.self.view_is) at c.requires in
    let small : c.self.inside.owed + 2 < 2 ^ 64 = owed-small _ _ _ _ call c.self.invariant.0.legal _ _ _ refl c.self.invariant.1 in
    omega (arith, small)

pub invariant_of-self : goal.invariant_of-self
invariant_of-self c =
    let call = rw (← c.self.view_is) at c.requires in
    let inside = c.self.inside in
    let ends = inside.viewports.items in
    let here = declared-some c.args.s.0 inside.setup.sessions (declared-of inside.setup (Viewport c.args.p c.args.props) c.args.s call.may.acts) in
    let count : length ends ≡ inside.setup.sessions = c.self.invariant.2.count in
    let below : c.args.s.0 - 1 < length ends = omega (arith, here.0, here.1, count) in
    let log = c.make_room.ensures in
    let same = ends-same inside.setup inside.log.history ends (c.args.s.0 - 1) c.index_mut-ends.result.now c.make_room.new.ends c.index_mut-ends.ensures.value
    below log.live log.out c.self.invariant.2 in (
      rw log.history c.self.invariant.0,
      room-more inside.setup inside.shares inside.log c.make_room.new.log inside.owed _ _ c.self.invariant.1 log.history log.posts log.room log.post_room
          (omega (arith, same.1, c.make_room.ensures.told)),
      rw log.history same.0,
      rw log.history c.self.invariant.3,
      rw log.history (c.make_room.ensures.watched inside.setup inside.log.history c.self.invariant.4),
    )

pub use_ends-is_held-requires-clause-others : goal.use_ends-is_held-requires-clause-others
use_ends-is_held-requires-clause-others c =
    let call = rw (← c.self.view_is) at c.requires in
    rw c.as_slice-2.ensures (others-none c.args.p c.args.props c.args.calls call.may.links)

pub use_ends-is_held-requires-clause-last : goal.use_ends-is_held-requires-clause-last
use_ends-is_held-requires-clause-last c =
    let call = rw (← c.self.view_is) at c.requires in
    rw c.as_slice-2.ensures (last-uses c.args.p c.args.props c.args.calls call.may.calls)

pub join-told-requires-clause-some : goal.join-told-requires-clause-some
join-told-requires-clause-some c opened =
    let inside = c.self.inside in
    let known = shut-known inside.setup inside.log.history inside.clock inside.fences inside.view_ends inside.sessions.items c.at.result.now.view
    c.self.invariant.0 in
    (declared-some c.at.result.now.view.0 inside.setup.sessions
    (known.0 (ap (λ (xs : List SessionState). is_shut xs c.at.result.now.view) (sym c.as_slice.ensures.value) ∙ sym c.is_shut-is_shut.ensures
    ∙ opened)).0).0

pub join-told-requires-clause-within : goal.join-told-requires-clause-within
join-told-requires-clause-within c opened =
    let inside = c.self.inside in
    let known = shut-known inside.setup inside.log.history inside.clock inside.fences inside.view_ends inside.sessions.items c.at.result.now.view
    c.self.invariant.0 in
    let here = declared-some c.at.result.now.view.0 inside.setup.sessions
    (known.0 (ap (λ (xs : List SessionState). is_shut xs c.at.result.now.view) (sym c.as_slice.ensures.value) ∙ sym c.is_shut-is_shut.ensures
    ∙ opened)).0 in
    omega (arith, here.1, (c.make_room.ensures.watched inside.setup inside.log.history c.self.invariant.4).sessions)

pub join-told-requires-clause-known : goal.join-told-requires-clause-known
join-told-requires-clause-known c =
    let known : c.args.p.0 < length c.self.inside.setup.pairs = slice_get_within c.self.inside.setup.pairs c.args.p.0 c.at.result.now c.at.ensures in
    omega (arith, known, (c.make_room.ensures.watched c.self.inside.setup c.self.inside.log.history c.self.invariant.4).count)

pub join-told-requires-clause-place : goal.join-told-requires-clause-place
join-told-requires-clause-place c =
    let call = rw (← c.self.view_is) at c.requires in
    rw c.make_room.ensures.history ((short-history _ _ _ _ call c.self.invariant.0.legal _ _ _ refl c.self.invariant.1))

pub join-told-requires-clause-few : goal.join-told-requires-clause-few
join-told-requires-clause-few c =
    let call = rw (← c.self.view_is) at c.requires in
    few-all _ _ _ (c.make_room.ensures.watched c.self.inside.setup c.self.inside.log.history c.self.invariant.4)
    ((short-history _ _ _ _ call c.self.invariant.0.legal _ _ _ refl c.self.invariant.1))

pub overflow_add-self : goal.overflow_add-self
overflow_add-self c =
    let call = rw (← c.self.view_is) at c.requires in
    let small : c.self.inside.owed + 2 < 2 ^ 64 = owed-small _ _ _ _ call c.self.invariant.0.legal _ _ _ refl c.self.invariant.1 in
    let few : c.number_if.result ≤ 1 = rw c.number_if.ensures (few-if c.use_ends-is_held.result) in
    omega (arith, small, few)

pub enter-requires : goal.enter-requires
enter-requires c =
    let call = rw (← c.self.view_is) at c.requires in
    rw (c.join-told.ensures.room, c.make_room.ensures.room) (has-room _ _ _ _ call c.self.invariant.0.legal _ _ _ refl c.self.invariant.1)

pub invariant_of-self-2 : goal.invariant_of-self-2
invariant_of-self-2 c =
    let call = rw (← c.self.view_is) at c.requires in
    let inside = c.self.inside in
    let h = inside.log.history in
    let ends = inside.viewports.items in
    let place = c.args.s.0 - 1 in
    let here = declared-some c.args.s.0 inside.setup.sessions (declared-of inside.setup (Viewport c.args.p c.args.props) c.args.s call.may.acts) in
    let count : length ends ≡ inside.setup.sessions = c.self.invariant.2.count in
    let below : c.args.s.0 - 1 < length ends = omega (arith, here.0, here.1, count) in
    let took = c.make_room.ensures in
    let same = ends-same inside.setup h ends place c.index_mut-ends.result.now c.make_room.new.ends c.index_mut-ends.ensures.value below took.live took.out
    c.self.invariant.2 in
    let roomy : List Viewports = slice_set ends place c.make_room.new.ends in
    let m : Machine = record { setup = inside.setup; shares = inside.shares; history = h } in
    let held = c.use_ends-is_held.result in
    let state = c.index_mut-state.result.now in
    let did = c.use_ends-is_held.ensures in
    let is : held ≡ has_token inside.setup c.args.p h = held-told m c.args.s c.args.line c.args.calls c.args.p c.args.props call roomy
    c.index_mut-ends-2.result.now c.index_mut-ends-2.ensures.value same.0 held did.held in
    let used_by = subst (λ (calls : List Call). IsUsed c.args.p calls state.account.presents held c.index_mut-ends-2.result.now c.use_ends-is_held.new.ends)
    c.as_slice-2.ensures did.used in
    let links = subst (λ (calls : List Call). LinksUsed c.args.s calls c.args.p c.args.props held state c.index_mut-ends-2.result.now inside.links
    c.use_ends-is_held.new.links) c.as_slice-2.ensures did.links in
    let e : Entry = entry_of (Session c.args.s) c.args.line c.args.calls (Viewport c.args.p c.args.props) (use_reply held) in
    let used = kept-used m c.args.s c.args.line c.args.calls c.args.p c.args.props call held is inside.clock inside.fences inside.view_ends
    inside.sessions.items roomy state c.index_mut-ends-2.result.now c.use_ends-is_held.new.ends
    c.index_mut-state.ensures.value c.index_mut-ends-2.ensures.value c.self.invariant.0 same.0 used_by inside.links c.use_ends-is_held.new.links
    c.self.invariant.3 links in
    let telling = telling-used m c.args.s c.args.line c.args.calls c.args.p c.args.props call held inside.clock inside.fences inside.view_ends
    inside.sessions.items c.port_of.result c.use_ends-is_held.new.links c.port_of.ensures c.self.invariant.0 used.0 used.3 in
    let room : HasRoom inside.setup inside.shares c.make_room.new.log inside.owed (all_due inside.sessions.items roomy c.make_room.new.watchers) =
    room-more inside.setup inside.shares inside.log c.make_room.new.log inside.owed _ (all_due inside.sessions.items roomy c.make_room.new.watchers)
    c.self.invariant.1 took.history took.posts took.room took.post_room (omega (arith, same.1, c.make_room.ensures.told)) in
    let asks = join-used m c.args.s c.args.line c.args.calls c.args.p c.args.props call held inside.clock inside.fences inside.view_ends inside.sessions.items
    c.at.result.now c.self.invariant.0 used.0 c.at.ensures in
    let shut : c.is_shut-is_shut.result ≡ is_shut inside.sessions.items c.at.result.now.view =
    c.is_shut-is_shut.ensures ∙ ap (λ (xs : List SessionState). is_shut xs c.at.result.now.view) c.as_slice.ensures.value in
    let join : IsJoin inside.setup h e held c.at.result.now.view c.is_shut-is_shut.result c.args.p = rw shut asks in
    let told = c.join-told.ensures.watched inside.setup h e join telling took.history (took.posts ∙ c.self.invariant.1.posts)
    (c.make_room.ensures.watched inside.setup h c.self.invariant.4) in
    let log = c.enter.ensures in
    let replied = c.use_reply-reply.ensures in
    let history : c.enter.new.self.history ≡ (h ▹ e) = log.history ∙ rw (c.join-told.ensures.history, took.history, replied) refl in
    let heard : c.note_entry.new.state ≡ after_viewport held state =
    c.note_entry.ensures ∙ ap (λ (r : Reply). after_reply (Viewport c.args.p c.args.props) r state) replied ∙ heard-viewport c.args.p c.args.props held state in
    let dues = used.4 (due_told c.join-told.new.self) in
    rw (heard, c.number_if.ensures) (
      rw history used.1,
      room-used m c.args.s c.args.line c.args.calls c.args.p c.args.props call held c.make_room.new.log c.enter.new.self inside.owed
          (all_due inside.sessions.items roomy c.make_room.new.watchers) _ c.join-told.result took.history room
          (history ∙ rw took.history refl) (log.posts ∙ told.1) (omega (arith, ap length log.posts, c.join-told.ensures.count))
          (omega (arith, log.room, c.join-told.ensures.room)) (omega (arith, log.post_room, c.join-told.ensures.post_room)) c.in-Ok.ensures.reserved
          (omega (arith, dues, c.join-told.ensures.due)),
      rw history used.2,
      rw history used.3,
      rw history told.0,
    )

pub returns-clause-reply : goal.returns-clause-reply
returns-clause-reply c =
    let call = rw (← c.self.view_is) at c.requires in
    let inside = c.self.inside in
    let h = inside.log.history in
    let ends = inside.viewports.items in
    let place = c.args.s.0 - 1 in
    let here = declared-some c.args.s.0 inside.setup.sessions (declared-of inside.setup (Viewport c.args.p c.args.props) c.args.s call.may.acts) in
    let count : length ends ≡ inside.setup.sessions = c.self.invariant.2.count in
    let below : c.args.s.0 - 1 < length ends = omega (arith, here.0, here.1, count) in
    let took = c.make_room.ensures in
    let same = ends-same inside.setup h ends place c.index_mut-ends.result.now c.make_room.new.ends c.index_mut-ends.ensures.value below took.live took.out
    c.self.invariant.2 in
    let roomy : List Viewports = slice_set ends place c.make_room.new.ends in
    let m : Machine = record { setup = inside.setup; shares = inside.shares; history = h } in
    let held = c.use_ends-is_held.result in
    let state = c.index_mut-state.result.now in
    let did = c.use_ends-is_held.ensures in
    let is : held ≡ has_token inside.setup c.args.p h = held-told m c.args.s c.args.line c.args.calls c.args.p c.args.props call roomy
    c.index_mut-ends-2.result.now c.index_mut-ends-2.ensures.value same.0 held did.held in
    let P : Machine → Type 0 = λ k. c.use_reply-reply.result ≡ reply_to k.setup k.history (Session c.args.s) c.args.calls (Viewport c.args.p c.args.props) in
    subst P c.self.view_is (c.use_reply-reply.ensures ∙ replied m c.args.s c.args.line c.args.calls c.args.p c.args.props call held is)

pub port_of-requires-clause-ratio : goal.port_of-requires-clause-ratio
port_of-requires-clause-ratio c =
    let stands = c.self.invariant.0 in
    let setup = c.self.inside.setup in
    finished-least setup c.self.inside.log.history c.self.inside.clock.ratios (ratios-kept setup c.self.inside.log.history _ _ _ _ stands) stands.legal
    (has-display setup c.self.invariant.1.limits)

pub port_of-requires-clause-width : goal.port_of-requires-clause-width
port_of-requires-clause-width c = (has-display c.self.inside.setup c.self.invariant.1.limits).width

pub port_of-requires-clause-height : goal.port_of-requires-clause-height
port_of-requires-clause-height c = (has-display c.self.inside.setup c.self.invariant.1.limits).height
