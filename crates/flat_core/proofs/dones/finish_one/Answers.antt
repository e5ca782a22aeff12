use Rattle.std.proofs.Common.{◌≡◌, ◌∙◌, ap, sym, subst, refl, arith, ◌-◌, ◌<◌, ◌≤◌, Bool, true, false, List, [], ◌++◌, length}
use Rattle.std.specs.Prelude.{cond, map, nat_lt, nat_le, not, ◌||◌}
use Rattle.std.proofs.lemmas.Bool.Decides.{nat_tests}
use Rattle.std.proofs.lemmas.List.{append-nil}
use Rattle.flat_base.specs.declared.ids.SessionNo.{SessionNo}
use Rattle.flat_scene.specs.declared.journal.Entry.{Entry}
use Rattle.flat_scene.specs.declared.journal.Event.{Event}
use Rattle.flat_scene.specs.declared.setup.Setup.{Setup}
use Rattle.flat_scene.specs.Frames.{taken}
use Rattle.flat_scene.specs.History.{is_closed}
use Rattle.flat_scene.specs.Setups.{is_declared}
use Rattle.flat_gets.specs.declared.watching.Watchers.{Watchers}
use Rattle.flat_facts.specs.Begins.{finish_entry, finished, post_of, took_event}
use Rattle.flat_gets.specs.Gets.{answers_to, helds_of}
use Rattle.flat_rules.specs.Legal.{Legal, LegalEntry}
use Rattle.flat_rules.specs.Posts.{events_to, frame_took}
use Rattle.flat_links.specs.Viewports.{back_events}
use Rattle.flat_rules.specs.Watch.{told}
use Rattle.flat_gets.specs.Watchers.{WatchedUpTo}
use Rattle.flat_core.proofs.FinishPosts.{finish-posts}
use Rattle.flat_gets.proofs.lemmas.WatchingSteps.{few-to, watched-kept, watched-passed, watched-told}
use Rattle.flat_states.proofs.lemmas.DoneSteps.{told-then}
use Rattle.flat_core.proofs.dones.finish_one.Goals as goal

pub settle-told-requires-clause-few : goal.settle-told-requires-clause-few
settle-told-requires-clause-few g c = few-to _ _ _ _ _ c.requires.watched c.requires.place

pub settle-told-requires-clause-watched : goal.settle-told-requires-clause-watched
settle-told-requires-clause-watched g c = (
  c.args.end.now.setup.now,
  (c.args.s.0 - 1, (finished c.args.log.now.history c.args.end.now.line, (c.args.log.now.history, c.requires.watched))),
)

pub settle-told-requires-clause-some : goal.settle-told-requires-clause-some
settle-told-requires-clause-some g c opened = c.requires.some

pub settle-told-requires-clause-within : goal.settle-told-requires-clause-within
settle-told-requires-clause-within g c opened = omega (arith, c.requires.few, c.requires.watched.sessions)

pub returns-clause-watched : goal.returns-clause-watched
returns-clause-watched g c = by_shut c.args.state.now.closed hears refl refl
  where
    hears : Bool
    hears = c.has_session.result

    setup : Setup
    setup = c.args.end.now.setup.now

    h : List Entry
    h = c.args.log.now.history

    k : List Entry
    k = finished h c.args.end.now.line

    legal : Legal setup k
    legal = (c.requires.legal, (let one : LegalEntry setup h (finish_entry c.args.end.now.line) = record { may = c.requires.may; reply = refl } in one))

    by_shut : (b d : Bool) → c.args.state.now.closed ≡ b → hears ≡ d → WatchedUpTo setup c.args.s.0 k h c.settle-told.new.self
    by_shut true d is heard =
        let W : Watchers → Type 0 = λ w. WatchedUpTo setup c.args.s.0 k h w in
        let passed : c.is_passed-passed.result ≡ true = c.is_passed-passed.ensures ∙ ap (λ (b : Bool). b || not hears) is in
        subst W (sym (c.settle-told.ensures.same passed)) (watched-passed setup h c.args.end.now.line legal c.args.s c.requires.some c.requires.few
        (sym c.requires.kept.closed ∙ is) _ c.requires.watched)
    by_shut false true is heard =
        let told : c.is_passed-passed.result ≡ false = c.is_passed-passed.ensures ∙ ap (λ (b : Bool). b || not hears) is ∙ ap not heard in
        (watched-told setup h c.args.end.now.line legal c.args.s c.requires.some c.requires.few (sym c.requires.kept.closed ∙ is) _ _ _ _ _
        (c.settle-told.ensures.settled told setup k c.requires.tells) c.settle-told.ensures.due c.requires.watched).0
    by_shut false false is heard =
        let W : Watchers → Type 0 = λ w. WatchedUpTo setup c.args.s.0 k h w in
        let passed : c.is_passed-passed.result ≡ true = c.is_passed-passed.ensures ∙ ap (λ (b : Bool). b || not hears) is ∙ ap not heard in
        subst W (sym (c.settle-told.ensures.same passed)) (watched-kept setup h c.args.end.now.line legal c.args.s c.requires.some c.requires.few
        (sym c.requires.kept.closed ∙ is) (c.requires.others (sym c.has_session.ensures ∙ heard)) _ c.requires.watched).0

pub returns-clause-posts : goal.returns-clause-posts
returns-clause-posts g c = by_shut c.args.state.now.closed refl
  where
    hears : Bool
    hears = c.has_session.result

    setup : Setup
    setup = c.args.end.now.setup.now

    h : List Entry
    h = c.args.log.now.history

    s : SessionNo
    s = c.args.s

    k : List Entry
    k = finished h c.args.end.now.line

    legal : Legal setup k
    legal = (c.requires.legal, (let one : LegalEntry setup h (finish_entry c.args.end.now.line) = record { may = c.requires.may; reply = refl } in one))

    declared : is_declared setup s ≡ true
    declared =
        let first : nat_lt 0 s.0 ≡ true = let some : 0 < s.0 = c.requires.some in grind (arith, nat_tests) in
        let last : nat_le s.0 setup.sessions ≡ true = let few : s.0 ≤ setup.sessions = c.requires.few in grind (arith, nat_tests) in
        rw (first, last) refl

    rest : List Event
    rest = took_event (frame_took setup h s) ++ back_events (taken setup h s) c.args.ends.now.out.items

    -- what its gets are answered, if it hears something anew
    answered : is_closed s h ≡ false → c.args.state.now.closed ≡ false → (d : Bool) → hears ≡ d
        → c.settle-told.new.log.posts ≡ c.args.log.now.posts ++ map (post_of (length h) s) (answers_to (told setup k) (helds_of setup h s))
    answered opened is true heard =
        let heeds : c.is_passed-passed.result ≡ false = c.is_passed-passed.ensures ∙ ap (λ (b : Bool). b || not hears) is ∙ ap not heard in
        (watched-told setup h c.args.end.now.line legal s c.requires.some c.requires.few opened _ _ _ _ _
        (c.settle-told.ensures.settled heeds setup k c.requires.tells) c.settle-told.ensures.due c.requires.watched).1
    answered opened is false heard =
        let passed : c.is_passed-passed.result ≡ true = c.is_passed-passed.ensures ∙ ap (λ (b : Bool). b || not hears) is ∙ ap not heard in
        let none = (watched-kept setup h c.args.end.now.line legal s c.requires.some c.requires.few opened
        (c.requires.others (sym c.has_session.ensures ∙ heard)) _ c.requires.watched).1 in
        (c.settle-told.ensures.none passed).1 ∙ sym (append-nil _) ∙ ap (λ (l : List Event). c.args.log.now.posts ++ map (post_of (length h) s) l) (sym none)

    by_shut : (b : Bool) → c.args.state.now.closed ≡ b → c.done_one.new.log.posts ≡ c.args.log.now.posts
        ++ map (post_of (length h) s) (events_to setup h (finish_entry c.args.end.now.line) s)
    by_shut true is =
        let passed : c.is_passed-passed.result ≡ true = c.is_passed-passed.ensures ∙ ap (λ (b : Bool). b || not hears) is in
        let closed : is_closed s h ≡ true = sym c.requires.kept.closed ∙ is in
        let none : events_to setup h (finish_entry c.args.end.now.line) s ≡ [] = rw closed refl in
        let same : c.settle-told.new.log.history ≡ h = c.settle-told.ensures.history in
        let posted : c.done_one.new.log.posts ≡ c.settle-told.new.log.posts ++ [] =
        c.done_one.ensures.posts ∙ ap (λ (l : List Entry). c.settle-told.new.log.posts
        ++ map (post_of (length l) s) (cond (is_closed s l) []
        (took_event (frame_took setup l s) ++ back_events (taken setup l s) c.args.ends.now.out.items))) same
        ∙ ap (λ (b : Bool). c.settle-told.new.log.posts ++ map (post_of (length h) s) (cond b [] rest)) closed in
        posted ∙ append-nil _ ∙ (c.settle-told.ensures.none passed).1 ∙ sym (append-nil _)
        ∙ ap (λ (l : List Event). c.args.log.now.posts ++ map (post_of (length h) s) l) (sym none)
    by_shut false is =
        let opened : is_closed s h ≡ false = sym c.requires.kept.closed ∙ is in
        let first = answered opened is hears refl in
        let events = finish-posts setup h c.args.end.now.line s declared c.requires.legal c.requires.opened opened c.args.ends.now.live.items
        c.args.ends.now.out.items c.requires.ends in
        let same : c.settle-told.new.log.history ≡ h = c.settle-told.ensures.history in
        let second : c.done_one.new.log.posts ≡ c.settle-told.new.log.posts ++ map (post_of (length h) s) rest =
        c.done_one.ensures.posts ∙ ap (λ (l : List Entry). c.settle-told.new.log.posts
        ++ map (post_of (length l) s) (cond (is_closed s l) []
        (took_event (frame_took setup l s) ++ back_events (taken setup l s) c.args.ends.now.out.items))) same
        ∙ ap (λ (b : Bool). c.settle-told.new.log.posts ++ map (post_of (length h) s) (cond b [] rest)) opened in
        told-then (post_of (length h) s) c.args.log.now.posts c.settle-told.new.log.posts c.done_one.new.log.posts
        (answers_to (told setup k) (helds_of setup h s)) rest _ first second events

pub overflow_add-result : goal.overflow_add-result
overflow_add-result g c = omega (arith, c.requires.room, c.requires.small, c.settle-told.ensures.due, c.done_one.ensures.due)
