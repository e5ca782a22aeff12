-- Ends that are lost stay so.
use Rattle.std.proofs.Common.{◌≡◌, ◌∙◌, sym, subst, ap, refl, ℕ, ◌<◌, ◌≤◌, ◌⊎◌, inl, inr, Bool, true, false, List, [], ◌∷◌, ◌++◌, length, arith, Option, Some}
use Rattle.std.proofs.Common.{None, Ok}
use Rattle.std.specs.Prelude.{cond, ◌+◌, ◌&&◌, ◌||◌, ◌==◌, not, option_map}
use Rattle.std.proofs.lemmas.Bool.{and_parts, or_cases, or_left, or_right, ltb-true, lt-ltb, eqb-true}
use Rattle.flat_base.specs.declared.ids.Actor.{Actor}
use Rattle.flat_base.specs.declared.ids.Actor.TheVariants.{Display, Probe, Session}
use Rattle.flat_base.specs.declared.ids.PairNo.{PairNo}
use Rattle.flat_base.specs.declared.ids.SessionNo.{SessionNo}
use Rattle.flat_scene.specs.declared.calls.Call.{Call}
use Rattle.flat_scene.specs.declared.calls.ViewportProps.{ViewportProps}
use Rattle.flat_scene.specs.declared.journal.Entry.{Entry}
use Rattle.flat_scene.specs.declared.journal.EntryKind.{EntryKind}
use Rattle.flat_scene.specs.declared.journal.EntryKind.TheVariants.{View, Viewport}
use Rattle.flat_scene.specs.declared.journal.Reply.{Reply}
use Rattle.flat_scene.specs.declared.journal.Reply.TheVariants.{Done}
use Rattle.flat_scene.specs.declared.journal.WatcherValue.{WatcherValue}
use Rattle.flat_scene.specs.declared.journal.WatcherValue.TheVariants as tell
use Rattle.flat_scene.specs.declared.setup.Setup.{Setup}
use Rattle.flat_scene.specs.Draft.{Draft, empty_draft}
use Rattle.flat_scene.specs.Frames.{taken}
use Rattle.flat_scene.specs.History.{◌▹◌, is_closed, presents}
use Rattle.flat_scene.proofs.lemmas.TakingLemmas.{taken-made}
use Rattle.flat_rules.specs.Ends.{clears_viewport, ends_view, happens, has_ended, is_done, loses, taken_calls, times, to_finished, uses_view, uses_viewport}
use Rattle.flat_rules.specs.Ends.{view_owner, view_uses, viewport_owner, viewport_uses}
use Rattle.flat_rules.specs.Legal.{has_token, Legal, reply_to, refused_token}
use Rattle.flat_rules.specs.Watch.{are_joined, child_of, is_connected_by, layout_in, layout_of, props_told, ratio_told, shows_view, status_of}
use Rattle.flat_facts.proofs.lemmas.Earlier.{IsEarlier, calls-taken, itself, taken-earlier, times-rise}
use Rattle.flat_facts.proofs.lemmas.Tests.{same-pair}
use Rattle.flat_facts.proofs.lemmas.ViewLaw.{made_at}
use Rattle.flat_laws.specs.Ends.{GoneStaysGone, LostViewportsStayLost, LostViewsStayLost, times_back, ViewEndsAreUsedOnce, ViewportEndsAreUsedInTurn}
use Rattle.flat_laws.specs.Ends.{gives_back}
use Rattle.flat_laws.proofs.Later.{closed-earlier, finished-later}

-- ---- lost

happens-later : (setup : Setup) (test : Draft → Call → Bool) (k h : List Entry) (s : SessionNo) → IsEarlier k h
    → happens setup test (taken_calls setup k s) ≡ true → happens setup test (taken_calls setup h s) ≡ true
happens-later setup test k h s before is =
    let count : List Call → ℕ = λ cs. times setup test (Ok empty_draft) cs in
    let then : taken_calls setup k s ≡ made_at (presents s h) (taken setup k s) = calls-taken setup s k h before in
    let now : taken_calls setup h s ≡ made_at (presents s h) (taken setup h s) = calls-taken setup s h h (itself h) in
    let rise : times setup test (Ok empty_draft) (made_at (presents s h) (taken setup k s)) ≤ times setup test (Ok empty_draft)
    (made_at (presents s h) (taken setup h s)) =
    times-rise setup test s h (taken setup k s) (taken setup h s) (taken-earlier setup s k h before) (taken-made setup s h) in
    let some : 0 < times setup test (Ok empty_draft) (taken_calls setup k s) = ltb-true 0 (times setup test (Ok empty_draft) (taken_calls setup k s)) is in
    let a : times setup test (Ok empty_draft) (taken_calls setup k s) ≡ times setup test (Ok empty_draft) (made_at (presents s h) (taken setup k s)) =
    ap count then in
    let b : times setup test (Ok empty_draft) (taken_calls setup h s) ≡ times setup test (Ok empty_draft) (made_at (presents s h) (taken setup h s)) =
    ap count now in
    lt-ltb 0 (times setup test (Ok empty_draft) (taken_calls setup h s)) (omega (arith, rise, some, a, b))

ended-later : (setup : Setup) (test : Draft → Call → Bool) (k h : List Entry) (s : SessionNo) → IsEarlier k h
    → has_ended setup test k s ≡ true → has_ended setup test h s ≡ true
ended-later setup test k h s before is = by_case (or_cases (is_closed s k) (happens setup test (taken_calls setup k s)) is)
  where
    by_case : (is_closed s k ≡ true) ⊎ (happens setup test (taken_calls setup k s) ≡ true) → has_ended setup test h s ≡ true
    by_case (inl closed) = or_left (is_closed s h) (happens setup test (taken_calls setup h s)) (closed-earlier s k h before closed)
    by_case (inr ended) = or_right (is_closed s h) (happens setup test (taken_calls setup h s)) (happens-later setup test k h s before ended)

loses-later : (setup : Setup) (test : Draft → Call → Bool) (k h : List Entry) (owner : Option Actor) → IsEarlier k h
    → loses setup test k owner ≡ true → loses setup test h owner ≡ true
loses-later setup test k h None before is = is
loses-later setup test k h (Some Display) before is = is
loses-later setup test k h (Some (Probe p)) before is = is
loses-later setup test k h (Some (Session s)) before is = ended-later setup test k h s before is

onto : (k later : List Entry) → IsEarlier k (later ++ k)
onto k later = record { later = later; is = refl }

pub view-stays-lost : LostViewsStayLost
view-stays-lost setup before later p = loses-later setup (ends_view p) before (later ++ before) _ (onto before later)

pub viewport-stays-lost : LostViewportsStayLost
viewport-stays-lost setup before later p = loses-later setup (clears_viewport p) before (later ++ before) _ (onto before later)

-- ---- gone

-- a value that is gone in one case only
gone-if : (b : Bool) (o : Option WatcherValue) → (o ≡ Some tell.Gone → ⊥) → cond b (Some tell.Gone) o ≡ Some tell.Gone → b ≡ true
gone-if true o never is = refl
gone-if false o never is = absurd (never is)

no-layout : (b : Bool) (ratio : ℕ) (o : Option ViewportProps) → cond b (option_map (layout_in ratio) o) None ≡ Some tell.Gone → ⊥
no-layout true ratio None is = cc
no-layout true ratio (Some props) is = cc
no-layout false ratio o is = cc

no-status : (b c : Bool) → cond b (Some (cond c tell.Connected tell.Disconnected)) None ≡ Some tell.Gone → ⊥
no-status true true is = cc
no-status true false is = cc
no-status false c is = cc

no-child : (b : Bool) → cond b (Some tell.HasPresented) None ≡ Some tell.Gone → ⊥
no-child true is = cc
no-child false is = cc

pub gone-stays : GoneStaysGone
gone-stays setup before later (layout_of p) is =
    let lost = gone-if _ _ (no-layout (are_joined setup before p) (ratio_told setup before) (props_told setup (viewport_owner setup p) before p)) is in
    let still = loses-later setup (clears_viewport p) (to_finished before) (to_finished (later ++ before)) (viewport_owner setup p)
    (finished-later before later) lost in
    rw still refl
gone-stays setup before later (status_of p) is =
    let lost = gone-if _ _ (no-status (are_joined setup before p) (is_connected_by setup (to_finished before) p)) is in
    let still = loses-later setup (clears_viewport p) (to_finished before) (to_finished (later ++ before)) (viewport_owner setup p)
    (finished-later before later) lost in
    rw still refl
gone-stays setup before later (child_of p n) is =
    let lost = gone-if _ _ (no-child (shows_view setup (to_finished before) p)) is in
    let still = loses-later setup (ends_view p) (to_finished before) (to_finished (later ++ before)) (option_map Session (view_owner setup p))
    (finished-later before later) lost in
    rw still refl

-- ---- view ends

-- what is answered done, and refused otherwise, is so
done-then : (b : Bool) (reply : Reply) → reply ≡ cond b Done refused_token → is_done reply ≡ true → b ≡ true
done-then true reply replied done = refl
done-then false reply replied done = absurd (let wrong : false ≡ true = sym (ap is_done replied) ∙ done in cc)

-- a use that isn't refused is the first of its end
first-use : (setup : Setup) (h : List Entry) (e : Entry) (p : PairNo) (kind : EntryKind) → e.reply ≡ reply_to setup h e.actor e.calls kind
    → (uses_view p kind && is_done e.reply) ≡ true → length (view_uses p h) ≡ 0
first-use setup h e p (View q) replied used =
    let parts = and_parts (q.0 == p.0) (is_done e.reply) used in
    let none : length (view_uses q h) ≡ 0 = eqb-true (length (view_uses q h)) 0 (done-then (length (view_uses q h) == 0) e.reply replied parts.1) in
    subst (λ (r : PairNo). length (view_uses r h) ≡ 0) (same-pair q p parts.0) none
first-use setup h e p _ replied used = absurd (let wrong : false ≡ true = used in cc)

pub used-once : ViewEndsAreUsedOnce
used-once setup [] legal p = omega arith
used-once setup (h ▹ e) legal p = by_use (used-once setup h legal.0 p) (uses_view p e.kind && is_done e.reply) refl
  where
    by_use : length (view_uses p h) ≤ 1 → (b : Bool) → (uses_view p e.kind && is_done e.reply) ≡ b → length (cond b (e ∷ view_uses p h) (view_uses p h)) ≤ 1
    by_use few false is = few
    by_use few true is = let none = first-use setup h e p e.kind legal.1.reply is in omega (arith, none)

-- ---- viewport ends

-- a use that isn't refused has the token
used-token : (setup : Setup) (h : List Entry) (e : Entry) (p : PairNo) (kind : EntryKind) → e.reply ≡ reply_to setup h e.actor e.calls kind
    → (uses_viewport p kind && is_done e.reply) ≡ true → has_token setup p h ≡ true
used-token setup h e p (Viewport q props) replied used =
    let parts = and_parts (q.0 == p.0) (is_done e.reply) used in
    let there : has_token setup q h ≡ true = done-then (has_token setup q h) e.reply replied parts.1 in
    subst (λ (r : PairNo). has_token setup r h ≡ true) (same-pair q p parts.0) there
used-token setup h e p _ replied used = absurd (let wrong : false ≡ true = used in cc)

-- the token that is there may be used once more
with-token : (setup : Setup) (h : List Entry) → Legal setup h → (p : PairNo)
    → length (viewport_uses p h) + cond (has_token setup p h) 1 0 ≤ 1 + times_back setup p h
with-token setup [] legal p = omega arith
with-token setup (h ▹ e) legal p =
    by_use (uses_viewport p e.kind && is_done e.reply) refl (has_token setup p h) refl (with-token setup h legal.0 p) (gives_back setup p h e)
  where
    by_use : (used : Bool) → (uses_viewport p e.kind && is_done e.reply) ≡ used → (there : Bool) → has_token setup p h ≡ there
        → length (viewport_uses p h) + cond there 1 0 ≤ 1 + times_back setup p h → (back : Bool)
        → length (cond used (e ∷ viewport_uses p h) (viewport_uses p h)) + cond (not used && (there || back)) 1 0 ≤ 1 + (cond back 1 0 + times_back setup p h)
    by_use true is true has few true = omega (arith, few)
    by_use true is true has few false = omega (arith, few)
    by_use true is false has few back = absurd (let wrong : false ≡ true = sym has ∙ used-token setup h e p e.kind legal.1.reply is in cc)
    by_use false is true has few true = omega (arith, few)
    by_use false is true has few false = omega (arith, few)
    by_use false is false has few true = omega (arith, few)
    by_use false is false has few false = omega (arith, few)

pub used-in-turn : ViewportEndsAreUsedInTurn
used-in-turn setup h legal p = let few = with-token setup h legal p in omega (arith, few)
