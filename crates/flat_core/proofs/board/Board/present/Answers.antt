use Rattle.std.proofs.Common.{◌≡◌, refl, sym, ◌∙◌, ap, arith, ◌+◌, ◌-◌, ◌≤◌, ◌<◌, ◌^◌, length, slice_set, subst, List}
use Rattle.std.specs.Prelude.{Some}
use Rattle.std.specs.Arc.{arc_value}
use Rattle.flat_base.specs.declared.ids.Actor.TheVariants.{Session}
use Rattle.flat_rules.specs.Shown.{tree_of}
use Rattle.flat_states.proofs.lemmas.Steps.{has-room, owed-small}
use Rattle.flat_core.proofs.PresentSteps.{kept-after-present, count-small, present-reply, owed-few}
use Rattle.flat_scene.specs.History.{◌▹◌}
use Rattle.flat_rules.specs.Legal.{reply_to}
use Rattle.flat_scene.specs.declared.journal.EntryKind.TheVariants.{Present}
use Rattle.flat_states.specs.Machines.{Machine, present_of}
use Rattle.flat_facts.specs.Begins.{entry_of}
use Rattle.flat_states.specs.Presents.{after_reply, present_reply, with_waiting}
use Rattle.flat_states.proofs.lemmas.Heard.{after_present, entered-changed, heard-present, waiting-alone}
use Rattle.flat_states.specs.declared.state.SessionCounts.{SessionCounts}
use Rattle.flat_states.specs.declared.state.SessionState.{SessionState}
use Rattle.flat_scene.specs.declared.journal.Entry.{Entry}
use Rattle.flat_scene.specs.declared.journal.Reply.{Reply}
use Rattle.std.proofs.lemmas.List.{length-set}
use Rattle.flat_states.proofs.lemmas.Ones.{placed-of}
use Rattle.flat_links.proofs.lemmas.EndSteps.{ends-after, none-new, standing, standing-set}
use Rattle.flat_gets.proofs.lemmas.WatchingSteps.{told-too, watched-after}
use Rattle.flat_core.proofs.board.Board.present.Goals as goal

pub overflow_add-self-inside : goal.overflow_add-self-inside
overflow_add-self-inside c =
    let may = rw (← c.self.view_is) at c.requires.may in
    let small : c.self.inside.owed + 2 < 2 ^ 64 = owed-small _ _ _ _ may c.self.invariant.0.legal _ _ _ refl c.self.invariant.1 in
    omega (arith, small)

pub present_in-reply-requires : goal.present_in-reply-requires
present_in-reply-requires c =
    let may = rw (← c.self.view_is) at c.requires.may in
    count-small _ c.args.s _ c.args.args may _ _ _ _ _ _ _ c.index_mut.ensures.value refl c.self.invariant.0 c.self.invariant.1

pub overflow_add-self : goal.overflow_add-self
overflow_add-self c =
    let may = rw (← c.self.view_is) at c.requires.may in
    let small : c.self.inside.owed + 2 < 2 ^ 64 = owed-small _ _ _ _ may c.self.invariant.0.legal _ _ _ refl c.self.invariant.1 in
    let two : c.owes.result ≤ 2 = rw c.owes.ensures (owed-few c.present_in-reply.result) in
    omega (arith, small, two)

pub enter-requires : goal.enter-requires
enter-requires c =
    let may = rw (← c.self.view_is) at c.requires.may in
    let setup = c.self.inside.setup in
    let count : length (slice_set c.self.inside.sessions.items (c.args.s.0 - 1) c.present_in-reply.new.state) ≡ setup.sessions =
    length-set c.self.inside.sessions.items (c.args.s.0 - 1) c.present_in-reply.new.state ∙ c.self.invariant.0.count in
    record {
      room = rw c.reserve.ensures.room (has-room _ _ _ _ may c.self.invariant.0.legal _ _ _ refl c.self.invariant.1);
      placed = placed-of setup (Present c.args.args) (Session c.args.s) _ count may.may.acts;
      all = c.self.invariant.2.count ∙ sym count;
      tied = c.self.invariant.3.sessions ∙ sym count;
      none = λ opened. none-new (Present c.args.args) c.args.calls refl may.may.links may.may.calls;
    }

pub invariant_of-self-2 : goal.invariant_of-self-2
invariant_of-self-2 c =
    let may = rw (← c.self.view_is) at c.requires.may in
    let inside = c.self.inside in
    let state = c.index_mut.result.now in
    let joined = c.present_in-reply.new.state in
    let of_state = c.index_mut.ensures.value in
    let place = c.args.s.0 - 1 in
    let states = inside.sessions.items in
    let did = c.enter.ensures in
    let reply = c.present_in-reply.ensures.reply in
    let tree : Some (arc_value c.args.snap) ≡ tree_of inside.setup (present_of inside.log.history c.args.s c.args.calls c.args.args) =
    let P : Machine → Type 0 = λ m. Some (arc_value c.args.snap) ≡ tree_of m.setup (present_of m.history c.args.s c.args.calls c.args.args) in
    subst P (sym c.self.view_is) c.requires.tree in
    let joins : joined ≡ with_waiting state c.args.snap c.args.args =
    c.present_in-reply.ensures.after ∙ ap (λ a. with_waiting state c.args.snap a) c.in-Ok.ensures in
    let alone = waiting-alone state c.args.snap c.args.args in
    let m : Machine = record { setup = inside.setup; shares = inside.shares; history = inside.log.history } in
    let replied : c.present_in-reply.result ≡ reply_to inside.setup inside.log.history (Session c.args.s) c.args.calls (Present c.args.args) =
    reply ∙ present-reply m c.args.s c.args.calls c.args.args may _ _ _ _ _ of_state c.self.invariant.0 in
    let placed = placed-of inside.setup (Present c.args.args) (Session c.args.s) _ c.self.invariant.0.count may.may.acts in
    let below : place < length states = omega (arith, placed.0, placed.1) in
    let stands = standing-set c.args.s states inside.log.history state joined below of_state (ap (λ (x : SessionState). x.closed) joins ∙ alone.0)
    (ap (λ (x : SessionState). x.account.presents) joins ∙ ap (λ (a : SessionCounts). a.presents) alone.1)
    (ap (λ (x : SessionState). x.account.view) joins ∙ ap (λ (a : SessionCounts). a.view) alone.1)
    (standing m (Session c.args.s) c.args.calls (Present c.args.args) may inside.clock inside.fences inside.view_ends states c.self.invariant.0) in
    let ends = ends-after m (Session c.args.s) c.args.line c.args.calls (Present c.args.args) c.present_in-reply.result may replied refl refl (λ opened. refl)
    c.self.invariant.0.legal (slice_set states place joined) inside.viewports.items c.enter.new.ends.items inside.links c.enter.new.links stands did.ends
    c.self.invariant.2 c.self.invariant.3 in
    let after : after_reply (Present c.args.args) c.present_in-reply.result joined ≡ after_present state c.args.snap c.args.args =
    ap (λ (r : Reply). after_reply (Present c.args.args) r joined) reply ∙ ap (after_reply (Present c.args.args) (present_reply state)) joins
    ∙ heard-present c.args.args c.args.args c.args.snap state in
    let sessions : c.enter.new.sessions.items ≡ slice_set states place (after_present state c.args.snap c.args.args) =
    did.sessions ∙ entered-changed c.args.s c.args.line c.args.calls (Present c.args.args) c.present_in-reply.result states joined placed
    ∙ ap (slice_set states place) after in
    let room : inside.owed + 2 ≤ c.reserve.new.self.post_room = c.in-Ok-reserve.ensures.ok in
    let e : Entry = entry_of (Session c.args.s) c.args.line c.args.calls (Present c.args.args) c.present_in-reply.result in
    let history : c.enter.new.log.history ≡ (inside.log.history ▹ e) = did.history ∙ ap (λ (h : List Entry). h ▹ e) c.reserve.ensures.history in
    let kept = kept-after-present m c.args.s c.args.line c.args.calls c.args.args c.args.snap may tree _ _ _ _ _ c.enter.new.log _ state of_state refl
    c.self.invariant.0 c.self.invariant.1 (told-too inside.watchers ends.1)
    (history ∙ ap (λ (r : Reply). inside.log.history ▹ entry_of (Session c.args.s) c.args.line c.args.calls (Present c.args.args) r) reply)
    (did.posts ∙ c.reserve.ensures.posts) (did.room ∙ c.reserve.ensures.room) (omega (arith, room, did.post_room)) in
    rw (sessions, c.owes.ensures) (
      kept.0,
      rw reply kept.1,
      rw history ends.0,
      rw history ends.2,
      rw history (watched-after m (Session c.args.s) c.args.line c.args.calls (Present c.args.args) c.present_in-reply.result may replied refl refl refl
          c.self.invariant.0.legal inside.watchers c.self.invariant.4),
    )

pub returns-clause-reply : goal.returns-clause-reply
returns-clause-reply c =
    let may = rw (← c.self.view_is) at c.requires.may in
    let is : present_reply c.index_mut.result.now ≡ reply_to c.self.inside.setup c.self.inside.log.history (Session c.args.s) c.args.calls
    (Present c.args.args) =
    present-reply _ c.args.s c.args.calls c.args.args may _ _ _ _ _ c.index_mut.ensures.value c.self.invariant.0 in
    let P : Machine → Type 0 = λ m. c.present_in-reply.result ≡ reply_to m.setup m.history (Session c.args.s) c.args.calls (Present c.args.args) in
    subst P c.self.view_is (c.present_in-reply.ensures.reply ∙ is)
