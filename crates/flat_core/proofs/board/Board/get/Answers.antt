use Rattle.std.proofs.Common.{◌≡◌, ◌-◌, sym, slice_set, ◌+◌, ◌<◌, ◌≤◌, ◌^◌, refl, ◌∙◌, ap, arith, subst}
use Rattle.flat_base.specs.declared.ids.Actor.TheVariants.{Session}
use Rattle.flat_scene.specs.declared.journal.Entry.{Entry}
use Rattle.flat_scene.specs.declared.journal.EntryKind.TheVariants.{Get}
use Rattle.flat_scene.specs.History.{◌▹◌}
use Rattle.flat_states.specs.Machines.{Machine}
use Rattle.flat_facts.specs.Begins.{entry_of}
use Rattle.flat_rules.specs.Legal.{Legal, reply_to}
use Rattle.flat_core.specs.PairValues.{TellsPairs}
use Rattle.flat_links.proofs.lemmas.EndSteps.{ends-after, none-new, standing}
use Rattle.flat_states.proofs.lemmas.Heard.{after_get, entered-set, heard-get}
use Rattle.flat_states.specs.declared.state.SessionState.{SessionState}
use Rattle.flat_core.proofs.GetCalls.{kept-got, room-got}
use Rattle.flat_states.proofs.lemmas.Ones.{declared-of, placed-of}
use Rattle.flat_states.proofs.lemmas.Steps.{has-room, legal-entered, owed-small, room-more, short-history}
use Rattle.flat_gets.proofs.lemmas.WatchingSteps.{asked-known, asked-replied, few-all, watched-asked}
use Rattle.flat_core.proofs.DisplayRatios.{finished-least, port-kept, ratios-kept}
use Rattle.flat_facts.proofs.lemmas.Ratios.{has-display}
use Rattle.flat_core.proofs.board.Board.get.Goals as goal
use Rattle.flat_states.proofs.lemmas.Counts.{few-if}

pub overflow_add-posts : goal.overflow_add-posts
overflow_add-posts c =
    let call = rw (← c.self.view_is) at c.requires.may in
    let small : c.self.inside.owed + 2 < 2 ^ 64 = owed-small _ _ _ _ call c.self.invariant.0.legal _ _ _ refl c.self.invariant.1 in
    omega (arith, small)

pub ask-requires-clause-known : goal.ask-requires-clause-known
ask-requires-clause-known c =
    let call = rw (← c.self.view_is) at c.requires.may in
    let means = rw (← c.self.view_is) at c.requires.meant in
    let known = asked-known c.self.inside.setup c.self.inside.log.history c.self.invariant.0.legal c.args.s c.args.calls c.args.get call.may c.args.p means in
    omega (arith, known, c.self.invariant.4.count)

pub ask-requires-clause-few : goal.ask-requires-clause-few
ask-requires-clause-few c =
    let call = rw (← c.self.view_is) at c.requires.may in
    few-all _ _ _ c.self.invariant.4 ((short-history _ _ _ _ call c.self.invariant.0.legal _ _ _ refl c.self.invariant.1))

pub invariant_of-self : goal.invariant_of-self
invariant_of-self c =
    let inside = c.self.inside in
    let log = c.ask.ensures in (
      rw log.history c.self.invariant.0,
      room-more inside.setup inside.shares inside.log c.ask.new.log inside.owed _ _ c.self.invariant.1 log.history log.posts log.room log.post_room
          (omega (arith, c.in-Err.ensures.same_due)),
      rw log.history c.self.invariant.2,
      rw log.history c.self.invariant.3,
      rw log.history (c.in-Err.ensures.watched inside.setup inside.log.history c.self.invariant.4),
    )

pub overflow_add-self : goal.overflow_add-self
overflow_add-self c =
    let call = rw (← c.self.view_is) at c.requires.may in
    let small : c.self.inside.owed + 2 < 2 ^ 64 = owed-small _ _ _ _ call c.self.invariant.0.legal _ _ _ refl c.self.invariant.1 in
    let few : c.number_if.result ≤ 1 = rw c.number_if.ensures (few-if c.is_held.result) in
    omega (arith, small, few)

pub enter-requires : goal.enter-requires
enter-requires c =
    let call = rw (← c.self.view_is) at c.requires.may in
    record {
      room = rw c.ask.ensures.room (has-room _ _ _ _ call c.self.invariant.0.legal _ _ _ refl c.self.invariant.1);
      placed = placed-of c.self.inside.setup (Get c.args.get) (Session c.args.s) _ c.self.invariant.0.count call.may.acts;
      all = c.self.invariant.2.count ∙ sym c.self.invariant.0.count;
      tied = c.self.invariant.3.sessions ∙ sym c.self.invariant.0.count;
      none = λ opened. none-new (Get c.args.get) c.args.calls refl call.may.links call.may.calls;
    }

pub invariant_of-self-2 : goal.invariant_of-self-2
invariant_of-self-2 c =
    let call = rw (← c.self.view_is) at c.requires.may in
    let means = rw (← c.self.view_is) at c.requires.meant in
    let inside = c.self.inside in
    let h = inside.log.history in
    let m : Machine = record { setup = inside.setup; shares = inside.shares; history = h } in
    let states = inside.sessions.items in
    let did = c.enter.ensures in
    let at = did.ends in
    let reply = c.in-Ok.reply in
    let telling : TellsPairs inside.setup c.port_of.result inside.links inside.view_ends inside.setup h =
    record {
      same = refl;
      shows = port-kept inside.setup h inside.clock.ratios c.port_of.result (ratios-kept inside.setup h _ _ _ _ c.self.invariant.0)
          c.port_of.ensures;
      legal = c.self.invariant.0.legal;
      tied = c.self.invariant.3;
      viewed = c.self.invariant.0.viewed;
    } in
    let asked = c.in-Ok.ensures.asked inside.setup h telling in
    let declared = declared-of inside.setup (Get c.args.get) c.args.s call.may.acts in
    let known = asked-known inside.setup h c.self.invariant.0.legal c.args.s c.args.calls c.args.get call.may c.args.p means in
    let replied : reply ≡ reply_to inside.setup h (Session c.args.s) c.args.calls (Get c.args.get) =
    asked-replied inside.setup h c.args.s c.args.calls c.args.get c.args.p known means _ _ reply asked c.self.invariant.4 in
    let stands = standing m (Session c.args.s) c.args.calls (Get c.args.get) call inside.clock inside.fences inside.view_ends states c.self.invariant.0 in
    let ends = ends-after m (Session c.args.s) c.args.line c.args.calls (Get c.args.get) reply call replied refl refl (λ opened. refl) c.self.invariant.0.legal
    states inside.viewports.items c.enter.new.ends.items inside.links c.enter.new.links stands at c.self.invariant.2 c.self.invariant.3 in
    let placed = placed-of inside.setup (Get c.args.get) (Session c.args.s) _ c.self.invariant.0.count call.may.acts in
    let sessions : c.enter.new.sessions.items ≡ slice_set states (c.args.s.0 - 1) (after_get reply at.state) =
    did.sessions ∙ entered-set c.args.s c.args.line c.args.calls (Get c.args.get) reply states at.state placed at.of_state
    ∙ ap (λ (x : SessionState). slice_set states (c.args.s.0 - 1) x) (heard-get c.args.get reply at.state) in
    let e : Entry = entry_of (Session c.args.s) c.args.line c.args.calls (Get c.args.get) reply in
    let legal : Legal inside.setup (h ▹ e) = (
      c.self.invariant.0.legal,
      legal-entered m (Session c.args.s) c.args.line c.args.calls (Get c.args.get) reply call replied,
    ) in
    let watched = watched-asked inside.setup h e legal c.args.s refl c.args.get refl c.args.p means declared known _ _ asked c.self.invariant.4 in
    let history : c.enter.new.log.history ≡ (h ▹ e) = did.history ∙ rw c.ask.ensures.history refl in
    let kept = kept-got m c.args.s c.args.line c.args.calls c.args.get call reply replied inside.clock inside.fences inside.view_ends states at.state
    at.of_state c.self.invariant.0 in
    rw (sessions, c.number_if.ensures, c.is_held.ensures) (
      rw history kept.0,
      room-got m c.args.s c.args.line c.args.calls c.args.get call reply replied inside.clock inside.fences inside.view_ends states c.self.invariant.0
          inside.log c.ask.new.log c.enter.new.log inside.owed _ _ refl c.self.invariant.1
          c.ask.ensures.history c.ask.ensures.posts c.ask.ensures.room c.in-Ok.ensures.reserved did.history did.posts did.room did.post_room
          (omega (arith, kept.1, ends.1, c.in-Ok.ensures.due)),
      rw history ends.0,
      rw history ends.2,
      rw history watched,
    )

pub returns-clause-reply : goal.returns-clause-reply
returns-clause-reply c =
    let call = rw (← c.self.view_is) at c.requires.may in
    let means = rw (← c.self.view_is) at c.requires.meant in
    let inside = c.self.inside in
    let h = inside.log.history in
    let telling : TellsPairs inside.setup c.port_of.result inside.links inside.view_ends inside.setup h =
    record {
      same = refl;
      shows = port-kept inside.setup h inside.clock.ratios c.port_of.result (ratios-kept inside.setup h _ _ _ _ c.self.invariant.0)
          c.port_of.ensures;
      legal = c.self.invariant.0.legal;
      tied = c.self.invariant.3;
      viewed = c.self.invariant.0.viewed;
    } in
    let asked = c.in-Ok.ensures.asked inside.setup h telling in
    let declared = declared-of inside.setup (Get c.args.get) c.args.s call.may.acts in
    let known = asked-known inside.setup h c.self.invariant.0.legal c.args.s c.args.calls c.args.get call.may c.args.p means in
    let P : Machine → Type 0 = λ m. c.in-Ok.reply ≡ reply_to m.setup m.history (Session c.args.s) c.args.calls (Get c.args.get) in
    subst P c.self.view_is (asked-replied inside.setup h c.args.s c.args.calls c.args.get c.args.p known means _ _ c.in-Ok.reply asked c.self.invariant.4)

pub port_of-requires-clause-ratio : goal.port_of-requires-clause-ratio
port_of-requires-clause-ratio c =
    let stands = c.self.invariant.0 in
    let setup = c.self.inside.setup in
    finished-least setup c.self.inside.log.history c.self.inside.clock.ratios (ratios-kept setup c.self.inside.log.history _ _ _ _ stands) stands.legal
    (has-display setup c.self.invariant.1.limits)

pub port_of-requires-clause-width : goal.port_of-requires-clause-width
port_of-requires-clause-width c = (has-display c.self.inside.setup c.self.invariant.1.limits).width

pub port_of-requires-clause-height : goal.port_of-requires-clause-height
port_of-requires-clause-height c = (has-display c.self.inside.setup c.self.invariant.1.limits).height
