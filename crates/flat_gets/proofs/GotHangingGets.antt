-- The watcher that a get means, and what is kept of its pair after it.
use Rattle.std.proofs.Common.{◌≡◌, ◌∙◌, sym, subst, ℕ, ◌+◌, ◌<◌, ◌≤◌, Bool, true, false, List, [], ◌∷◌, length, refl, arith, ap, None, Some}
use Rattle.std.specs.Prelude.{Option, Result, Ok, Err, IfErr, cond, is_some, not, ◌&&◌, ◌||◌, ◌==◌}
use Rattle.std.specs.List.{list_any}
use Rattle.std.proofs.lemmas.Bool.{and_right}
use Rattle.std.proofs.lemmas.Bool.Decides.{nat_tests}
use Rattle.flat_base.specs.declared.ids.Actor.{Actor}
use Rattle.flat_base.specs.declared.ids.Actor.TheVariants.{Session}
use Rattle.flat_base.specs.declared.ids.PairNo.{PairNo}
use Rattle.flat_base.specs.declared.ids.SessionNo.{SessionNo}
use Rattle.flat_scene.specs.declared.calls.Call.{Call}
use Rattle.flat_scene.specs.declared.calls.Watch.{Watch}
use Rattle.flat_scene.specs.declared.journal.Entry.{Entry}
use Rattle.flat_scene.specs.declared.journal.Event.{Event}
use Rattle.flat_scene.specs.declared.journal.EntryKind.{EntryKind}
use Rattle.flat_scene.specs.declared.journal.EntryKind.TheVariants.{Get}
use Rattle.flat_scene.specs.declared.journal.Reply.{Reply}
use Rattle.flat_scene.specs.declared.journal.WatcherValue.{WatcherValue}
use Rattle.flat_scene.specs.declared.setup.Setup.{Setup}
use Rattle.flat_scene.specs.History.{◌▹◌, closes, is_closed, is_finish, is_session, own}
use Rattle.flat_watch.specs.declared.hanging_get.GetAnswer.{GetAnswer}
use Rattle.flat_watch.specs.HangingGets.{after_get}
use Rattle.flat_watch.specs.HangingGets as hanging_gets
use Rattle.flat_gets.specs.Watchers as seen
use Rattle.flat_watch.specs.Told.{Watching, answered_by, asking, news, settled}
use Rattle.flat_rules.specs.Ends.{uses_view, uses_viewport, viewport_uses}
use Rattle.flat_rules.specs.Legal.{Legal, MayEnter, answers, got, is_now, number_if, reply_to}
use Rattle.flat_rules.specs.Local.{pair_watched}
use Rattle.flat_rules.specs.Posts.{event_of}
use Rattle.flat_rules.specs.Watch.{Watcher, watching, told, asked, listener, same_watcher, watcher_of, is_watcher}
use Rattle.flat_rules.proofs.lemmas.AllOrSome.{flat-nested}
use Rattle.flat_rules.proofs.lemmas.EventsLocal.{flat-none}
use Rattle.flat_rules.proofs.lemmas.SameWatchers.{same-is}
use Rattle.flat_rules.proofs.lemmas.Still.{IsStill, told-same, watching-same}
use Rattle.flat_rules.proofs.lemmas.Watchers.{got-one, got-two, unasked}
use Rattle.flat_rules.proofs.lemmas.Watchers as rules
use Rattle.flat_gets.specs.declared.pair.PairWatchers.{PairWatchers}
use Rattle.flat_gets.specs.declared.pair.WatchedPart.{WatchedPart}
use Rattle.flat_gets.specs.declared.pair.WatchedPart.TheVariants as parts
use Rattle.flat_gets.specs.declared.watching.Watchers.{Watchers}
use Rattle.flat_gets.specs.Gets.{answers_to, hears, held_of, held_with, helds_of, news_of, watchers_of}
use Rattle.flat_gets.specs.Listed.{view_waits, viewport_waits}
use Rattle.flat_gets.specs.Pairs.{AreAt, IsGot, hanging_get_at, is_child, part_of, waiting_in, watcher_at}
use Rattle.flat_gets.specs.Watchers.{AreWatched, IsAsked, answers_in, is_held, told_and_due, watcher_meant}
use Rattle.flat_base.proofs.lemmas.Tests.{none-left, none-right}
use Rattle.flat_gets.proofs.lemmas.GetHistory.{hears-open, watchers-heard}
use Rattle.flat_gets.proofs.GetMeans.{get-within}
use Rattle.flat_gets.proofs.GetOwners.{IsMeant, get-meant, get-open, meant-heard}
use Rattle.flat_gets.proofs.GetSteps.{answers-more, quiet}
use Rattle.flat_gets.proofs.WatchFacts.{heard-shut}
use Rattle.flat_gets.proofs.WatchedAnswers.{answers-shut, closes-last, closing-untold}

abbrev replied_by : GetAnswer → Reply
replied_by = seen.replied

abbrev after_news : Watch → Option WatcherValue → Option WatcherValue → Watching
after_news = rules.after_get

-- ---- replies

pub reply-is : (b : Bool) (o : Option WatcherValue) → replied_by (hanging_gets.got b o) ≡ got b o
reply-is true o = refl
reply-is false (Some value) = refl
reply-is false None = refl

pub held-is : (b : Bool) (o : Option WatcherValue) → is_held (got b o) ≡ (not b && not (is_some o))
held-is true o = refl
held-is false (Some value) = refl
held-is false None = refl

pub if-err : {A E : Type 0} (r : Result A E) (X : Type 0) → X → IfErr r (λ e. X)
if-err (Ok a) X x = tt
if-err (Err e) X x = x

-- ---- the watcher that a get means

-- what is told of a part, whatever the use
told-any : (setup : Setup) (h : List Entry) (part : WatchedPart) (p : PairNo) (n : ℕ) → told setup h (watcher_at part p 0) ≡ told setup h (watcher_at part p n)
told-any setup h parts.Layout p n = refl
told-any setup h parts.Status p n = refl
told-any setup h parts.Child p n = refl

pub watched-pair : (part : WatchedPart) (p : PairNo) (n : ℕ) → pair_watched (watcher_at part p n) ≡ p
watched-pair parts.Layout p n = refl
watched-pair parts.Status p n = refl
watched-pair parts.Child p n = refl

-- what is kept of it
hanging_get-is : (setup : Setup) (h : List Entry) (p : PairNo) (w : PairWatchers) → AreAt setup h h p w → (part : WatchedPart)
    → hanging_get_at part w ≡ watching setup (watcher_at part p (length (viewport_uses p h))) h
hanging_get-is setup h p w is parts.Layout = is.layout
hanging_get-is setup h p w is parts.Status = is.status
hanging_get-is setup h p w is parts.Child = is.child

pub asked-known : (setup : Setup) (h : List Entry) → Legal setup h → (s : SessionNo) (carries : List Call) (get : Watch)
    → MayEnter setup h (Session s) carries (Get get) → (p : PairNo) → watcher_of setup h (Session s) carries get ≡ Some (watcher_meant h get p)
    → p.0 < length setup.pairs
asked-known setup h legal s carries get may p means =
    let L : PairNo → Type 0 = λ r. r.0 < length setup.pairs in
    subst L (watched-pair (part_of get) p (length (viewport_uses p h))) (get-within setup h legal s carries get may (watcher_meant h get p) means)

-- its reply is that of the rules
pub asked-replied : (setup : Setup) (h : List Entry) → (s : SessionNo) (carries : List Call) (get : Watch) (p : PairNo) → p.0 < length setup.pairs
    → watcher_of setup h (Session s) carries get ≡ Some (watcher_meant h get p)
    → (old new : Watchers) (reply : Reply) → IsAsked setup h s p get reply old new → AreWatched setup h old
    → reply ≡ reply_to setup h (Session s) carries (Get get)
asked-replied setup h s carries get p within means old new reply asked are =
    let w : Watcher = watcher_meant h get p in
    let its : AreAt setup h h p asked.was = subst (AreAt setup h h p) (sym asked.of_was) (are.each p.0 asked.was (omega (arith, within, are.count))) in
    let hanging_get : hanging_get_at (part_of get) asked.was ≡ watching setup w h = hanging_get-is setup h p asked.was its (part_of get) in
    let same : told setup h (watcher_at (part_of get) p 0) ≡ told setup h w = told-any setup h (part_of get) p (length (viewport_uses p h)) in
    asked.replied ∙ ap (λ (k : Watching). got (is_some k.waits) (news (told setup h (watcher_at (part_of get) p 0)) k.last)) hanging_get
    ∙ ap (λ (o : Option WatcherValue). got (is_some (watching setup w h).waits) (news o (watching setup w h).last)) same ∙ rw means refl

-- ---- how many wait

got-one-due : (get : Watch) (now : Option WatcherValue) (w : Watching)
    → number_if (is_some (after_get get now w).waits) ≤ number_if (is_some w.waits) + number_if (is_held (got (is_some w.waits) (news now w.last)))
got-one-due get now w = by_waits w.waits
  where
    by_news : (o : Option WatcherValue) → number_if (is_some (answered_by o (record { last = w.last; waits = Some get })).waits)
        ≤ 0 + number_if (is_held (got false o))
    by_news (Some value) = omega arith
    by_news None = omega arith

    by_waits : (o : Option Watch) → number_if (is_some (after_get get now (record { last = w.last; waits = o })).waits) ≤ number_if (is_some o) + number_if
        (is_held (got (is_some o) (news now w.last)))
    by_waits (Some other) = omega arith
    by_waits None = by_news (news now w.last)

got-one-few : (get : Watch) (now : Option WatcherValue) (w : Watching)
    → number_if (is_some (after_get get now w).waits) + number_if (is_now (got (is_some w.waits) (news now w.last))) ≤ number_if (is_some w.waits) + 1
got-one-few get now w = by_waits w.waits
  where
    by_news : (o : Option WatcherValue) → number_if (is_some (answered_by o (record { last = w.last; waits = Some get })).waits) + number_if
        (is_now (got false o)) ≤ 1
    by_news (Some value) = omega arith
    by_news None = omega arith

    by_waits : (o : Option Watch) → number_if (is_some (after_get get now (record { last = w.last; waits = o })).waits) + number_if
        (is_now (got (is_some o) (news now w.last))) ≤ number_if (is_some o) + 1
    by_waits (Some other) = omega arith
    by_waits None = by_news (news now w.last)

module _ (get : Watch) (now : Option WatcherValue) (was then : PairWatchers) where
  abbrev pub answer_of : WatchedPart → Reply
  answer_of part = got (is_some (hanging_get_at part was).waits) (news now (hanging_get_at part was).last)

  pub got-due : (part : WatchedPart) → IsGot part get now was then → waiting_in then ≤ waiting_in was + number_if (is_held (answer_of part))
  got-due parts.Layout is = rw (is.layout, is.status, is.child, is.former) (omega (arith, got-one-due get now was.layout))
  got-due parts.Status is = rw (is.layout, is.status, is.child, is.former) (omega (arith, got-one-due get now was.status))
  got-due parts.Child is = rw (is.layout, is.status, is.child, is.former) (omega (arith, got-one-due get now was.child))

  pub got-few : (part : WatchedPart) → IsGot part get now was then → waiting_in then + number_if (is_now (answer_of part)) ≤ waiting_in was + 1
  got-few parts.Layout is = rw (is.layout, is.status, is.child, is.former) (omega (arith, got-one-few get now was.layout))
  got-few parts.Status is = rw (is.layout, is.status, is.child, is.former) (omega (arith, got-one-few get now was.status))
  got-few parts.Child is = rw (is.layout, is.status, is.child, is.former) (omega (arith, got-one-few get now was.child))

-- ---- the entry

module _ (setup : Setup) (h : List Entry) (e : Entry) (legal : Legal setup (h ▹ e)) (s : SessionNo) (is : e.actor ≡ Session s) (get : Watch)
    (asks : e.kind ≡ Get get) (w : Watcher) (means : watcher_of setup h (Session s) e.calls get ≡ Some w) where
  pub meant : IsMeant setup h s w
  meant = get-meant setup h e legal s is get asks w means

  still : (v : Watcher) → IsStill (pair_watched v) e
  still v =
      let K : EntryKind → Type 0 = λ kind. (is_finish kind ≡ false) × ((uses_view (pair_watched v) kind ≡ false)
      × (uses_viewport (pair_watched v) kind ≡ false)) in
      let k : K e.kind = subst K (sym asks) (refl, (refl, refl)) in
      record { no_finish = k.0; no_view = rw k.1.0 refl; no_viewport = rw k.1.1 refl }

  -- the other watchers aren't asked, and rest
  other-idle : (v : Watcher) → same_watcher v w ≡ false → asked setup v h e ≡ None
  other-idle v other = unasked setup v h e (λ get' asks'.
      let gets : Get get' ≡ Get get = sym asks' ∙ asks in
      let same : get' ≡ get = cc in
      ap (λ (who : Actor). is_watcher setup v (watcher_of setup h who e.calls get')) is
      ∙ ap (λ (g : Watch). is_watcher setup v (watcher_of setup h (Session s) e.calls g)) same ∙ ap (is_watcher setup v) means ∙ other)

  pub other-rests : (v : Watcher) → same_watcher v w ≡ false → watching setup v (h ▹ e) ≡ watching setup v h
  other-rests v other = watching-same setup v h e (still v) (other-idle v other)

  -- its own, where none is held
  pub own-asked : is_closed s (h ▹ e) ≡ false → (watching setup w h).waits ≡ None
      → watching setup w (h ▹ e) ≡ after_news get (news (told setup h w) (watching setup w h).last) (watching setup w h).last
  own-asked opened none =
      got-one setup w h e get asks (ap (λ (who : Actor). watcher_of setup h who e.calls get) is ∙ means) (told-same setup w h e (still w))
      (hears-open setup s w (h ▹ e) (meant-heard setup h s w meant) opened) none

  -- it answers no held get
  no-answer : is_closed s (h ▹ e) ≡ false → (watching setup w h).waits ≡ None → answers_to (told setup (h ▹ e)) (helds_of setup h s) ≡ []
  no-answer opened none =
      let now : Watcher → Option WatcherValue = told setup (h ▹ e) in
      flat-nested (λ one. event_of (pair_watched one.watcher) (Some one.get) (news_of now one)) (held_of setup h) (watchers_of setup h s)
      ∙ flat-none (hears setup s) (λ v. answers_to now (held_of setup h v)) (λ v heard. by_same v heard (same_watcher v w) refl) (watchers_of setup h s)
      (watchers-heard setup h s)
    where
      by_same : (v : Watcher) → hears setup s v ≡ true → (b : Bool) → same_watcher v w ≡ b → answers_to (told setup (h ▹ e)) (held_of setup h v) ≡ []
      by_same v heard false other = quiet setup v h e (other-idle v other) (hears-open setup s v (h ▹ e) heard opened) (other-rests v other)
      by_same v heard true same =
          let it : v ≡ w = same-is v w same in
          let N : Watcher → Type 0 = λ u. held_of setup h u ≡ [] in
          ap (answers_to (told setup (h ▹ e))) (subst N (sym it) (ap (held_with w (watching setup w h).last) none))

  pub count-after : is_closed s (h ▹ e) ≡ false → (watching setup w h).waits ≡ None → answers setup s (h ▹ e) ≡ answers setup s h + number_if (is_now e.reply)
  count-after opened none =
      let silent : length (answers_to (told setup (h ▹ e)) (helds_of setup h s)) ≡ 0 = ap (length {A = Event}) (no-answer opened none) in
      let itself : (s.0 == s.0) ≡ true = grind (arith, nat_tests) in
      let mine : is_session s e.actor ≡ true = rw is itself in
      let replied : number_if (is_session s e.actor && is_now e.reply) ≡ number_if (is_now e.reply) = ap (λ (b : Bool). number_if (b && is_now e.reply)) mine in
      omega (arith, answers-more setup h e s opened, silent, replied)

  replied : e.reply ≡ got (is_some (watching setup w h).waits) (news (told setup h w) (watching setup w h).last)
  replied =
      let K : EntryKind → Type 0 = λ kind. e.reply ≡ reply_to setup h e.actor e.calls kind in
      let A : Actor → Type 0 = λ who. e.reply ≡ reply_to setup h who e.calls (Get get) in
      subst A is (subst K asks legal.1.reply) ∙ rw means refl

  mine : is_session s e.actor ≡ true
  mine = let itself : (s.0 == s.0) ≡ true = grind (arith, nat_tests) in rw is itself

  closed-by : is_closed s (h ▹ e) ≡ (closes e.reply || is_closed s h)
  closed-by = ap (λ (b : Bool). list_any (λ entry. closes entry.reply) (cond b (e ∷ own s h) (own s h))) mine

  -- where a get is held already, the session is closed
  held-closes : is_some (watching setup w h).waits ≡ true → is_closed s (h ▹ e) ≡ true
  held-closes held =
      let closing : closes e.reply ≡ true = ap closes replied ∙ ap (λ (b : Bool). closes (got b (news (told setup h w) (watching setup w h).last))) held in
      closed-by ∙ ap (λ (b : Bool). b || is_closed s h) closing

  unheld-open : is_closed s (h ▹ e) ≡ false → (watching setup w h).waits ≡ None
  unheld-open opened = by_waits (watching setup w h).waits refl
    where
      by_waits : (o : Option Watch) → (watching setup w h).waits ≡ o → o ≡ None
      by_waits None at = refl
      by_waits (Some other) at = let wrong : true ≡ false = sym (held-closes (ap is_some at)) ∙ opened in cc

  -- its own, after the get
  pub own-got : watching setup w (h ▹ e) ≡ after_get get (told setup h w) (watching setup w h)
  own-got = by_waits (watching setup w h).waits refl
    where
      as-news : (o : Option WatcherValue) (last : Option WatcherValue) → after_news get o last ≡ answered_by o (record { last = last; waits = Some get })
      as-news (Some value) last = refl
      as-news None last = refl

      stays : (o : Option WatcherValue) → closes (got false o) ≡ false
      stays (Some value) = refl
      stays None = refl

      by_waits : (o : Option Watch) → (watching setup w h).waits ≡ o → watching setup w (h ▹ e) ≡ after_get get (told setup h w) (watching setup w h)
      by_waits (Some other) at =
          let held : is_some (watching setup w h).waits ≡ true = ap is_some at in
          got-two setup w h e (heard-shut (listener setup w) s (h ▹ e) (meant-heard setup h s w meant) (held-closes held) setup) held
          ∙ ap (λ (b : Bool). cond b (watching setup w h) (settled true (told setup h w) (asking (Some get) (watching setup w h)))) (sym held)
      by_waits None at =
          let unheld : is_some (watching setup w h).waits ≡ false = ap is_some at in
          let last : Option WatcherValue = (watching setup w h).last in
          let now : Option WatcherValue = news (told setup h w) last in
          let open_reply : closes e.reply ≡ false = ap closes replied ∙ ap (λ (b : Bool). closes (got b now)) unheld ∙ stays now in
          let opened : is_closed s (h ▹ e) ≡ false = closed-by ∙ ap (λ (b : Bool). b || is_closed s h) open_reply ∙ get-open setup h e legal s is get asks in
          let itself : watching setup w h ≡ record { last = last; waits = None } =
          ap (λ (o : Option Watch). let v : Watching = record { last = last; waits = o } in v) at in
          own-asked opened at ∙ as-news now last ∙ sym (ap (after_get get (told setup h w)) itself)

  -- how many answers the session has had then
  pub own-counted : (from to : ℕ) → from ≡ answers setup s h → to ≡ from + number_if (is_now e.reply) → to ≡ answers setup s (h ▹ e)
  own-counted from to was counted = by_closed (is_closed s (h ▹ e)) refl
    where
      by_closed : (b : Bool) → is_closed s (h ▹ e) ≡ b → to ≡ answers setup s (h ▹ e)
      by_closed false opened = omega (arith, was, counted, count-after opened (unheld-open opened))
      by_closed true closed =
          let none : is_now e.reply ≡ false = closing-untold e.reply
          (closes-last (is_session s e.actor) e (own s h) (get-open setup h e legal s is get asks) closed) in
          let nothing : number_if (is_now e.reply) ≡ 0 = ap number_if none in
          omega (arith, was, counted, nothing, answers-shut setup h e legal s closed (and_right (is_session s e.actor) (is_now e.reply) none))

-- ---- what waits then

after-none : (get : Watch) (now : Option WatcherValue) (w : Watching) → is_held (got (is_some w.waits) (news now w.last)) ≡ false → is_some w.waits ≡ false
    → is_some (after_get get now w).waits ≡ false
after-none get now w silent none = by_waits w.waits silent none
  where
    by_news : (o : Option WatcherValue) → is_held (got false o) ≡ false → is_some (answered_by o (record { last = w.last; waits = Some get })).waits ≡ false
    by_news (Some value) h = refl
    by_news None h = cc

    by_waits : (o : Option Watch) → is_held (got (is_some o) (news now w.last)) ≡ false → is_some o ≡ false
        → is_some (after_get get now (record { last = w.last; waits = o })).waits ≡ false
    by_waits (Some other) h n = cc
    by_waits None h n = by_news (news now w.last) h

module _ (get : Watch) (now : Option WatcherValue) (was then : PairWatchers) where
  -- those of the other end wait as before
  pub got-views : (part : WatchedPart) → is_child part ≡ true → IsGot part get now was then → view_waits was ≡ false → view_waits then ≡ false
  got-views parts.Layout child is none = cc
  got-views parts.Status child is none = cc
  got-views parts.Child child is none = rw (is.layout, is.status) none

  pub got-viewports : (part : WatchedPart) → is_child part ≡ false → IsGot part get now was then → viewport_waits was ≡ false → viewport_waits then ≡ false
  got-viewports parts.Layout child is none = rw (is.child, is.former) none
  got-viewports parts.Status child is none = rw (is.child, is.former) none
  got-viewports parts.Child child is none = cc

  -- and where the get isn't held, all do
  pub unheld-views : (part : WatchedPart) → IsGot part get now was then → is_held (answer_of get now was then part) ≡ false → view_waits was ≡ false
      → view_waits then ≡ false
  unheld-views parts.Layout is silent none =
      let first : is_some was.layout.waits ≡ false = none-left (is_some was.layout.waits) _ none in
      rw (is.layout, is.status, after-none get now was.layout silent first) (none-right (is_some was.layout.waits) _ none)
  unheld-views parts.Status is silent none =
      let second : is_some was.status.waits ≡ false = none-right (is_some was.layout.waits) _ none in
      rw (is.layout, is.status, none-left (is_some was.layout.waits) _ none) (after-none get now was.status silent second)
  unheld-views parts.Child is silent none = rw (is.layout, is.status) none

  pub unheld-viewports : (part : WatchedPart) → IsGot part get now was then → is_held (answer_of get now was then part) ≡ false → viewport_waits was ≡ false
      → viewport_waits then ≡ false
  unheld-viewports parts.Layout is silent none = rw (is.child, is.former) none
  unheld-viewports parts.Status is silent none = rw (is.child, is.former) none
  unheld-viewports parts.Child is silent none =
      let first : is_some was.child.waits ≡ false = none-left (is_some was.child.waits) _ none in
      rw (is.child, is.former, after-none get now was.child silent first) (none-right (is_some was.child.waits) _ none)
