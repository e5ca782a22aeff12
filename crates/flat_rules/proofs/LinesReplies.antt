-- What entries post, and what they are answered, hangs on no line.
use Rattle.std.proofs.Common.{◌≡◌, ◌∙◌, ◌+◌, ◌-◌, Bool, cond, List, [], ◌∷◌, ◌++◌, not, drop, filter, map, length, refl, ap, Option, Some, None}
use Rattle.std.specs.Prelude.{◌||◌, ◌&&◌, ◌==◌, nat_lt, flat_map, replicate, is_some, Ok}
use Rattle.std.specs.List.{list_any}
use Rattle.flat_base.specs.declared.errors.FlatlandError.TheVariants.{NoPresentsRemaining}
use Rattle.flat_base.specs.declared.ids.Actor.{Actor}
use Rattle.flat_base.specs.declared.ids.Actor.TheVariants.{Display, Session, Probe}
use Rattle.flat_base.specs.declared.ids.PairNo.{PairNo}
use Rattle.flat_base.specs.declared.ids.SessionNo.{SessionNo}
use Rattle.flat_scene.specs.declared.calls.Call.{Call}
use Rattle.flat_scene.specs.declared.journal.Entry.{Entry}
use Rattle.flat_scene.specs.declared.journal.Event.{Event}
use Rattle.flat_scene.specs.declared.journal.Event.TheVariants as event
use Rattle.flat_scene.specs.declared.journal.EntryKind.{EntryKind}
use Rattle.flat_scene.specs.declared.journal.EntryKind.TheVariants.{View, Viewport, Present, Get, Poll, Wait, Close}
use Rattle.flat_scene.specs.declared.journal.PostedEvent.{PostedEvent}
use Rattle.flat_scene.specs.declared.journal.Reply.TheVariants.{Done, Presented, Polled, Closed}
use Rattle.flat_scene.specs.declared.script.WaitCondition.{WaitCondition}
use Rattle.flat_scene.specs.declared.script.WaitCondition.TheVariants as asks
use Rattle.flat_scene.specs.declared.setup.Setup.{Setup}
use Rattle.flat_scene.specs.Draft.{empty_draft}
use Rattle.flat_scene.specs.Frames.{sessions_to, is_signalled}
use Rattle.flat_scene.specs.History.{◌▹◌, is_begin, is_finish, is_session, presents}
use Rattle.flat_rules.specs.Determined.{but_line}
use Rattle.flat_rules.specs.Ends.{to_begin, times, releases_viewport, views_of, viewports_of, uses_viewport, is_done}
use Rattle.flat_rules.specs.Legal.{has_token, is_token_back, is_told, is_poll, is_now, number_if, sent_to, unread, unread_events, answers, frames, value_of}
use Rattle.flat_rules.specs.Legal.{got, waited, asked_of, refused_token, reply_to_get, reply_to_present, polled_by, reply_to}
use Rattle.flat_rules.specs.Posts.{Sent, up_to, event_of, told_event, frame_took, releases_seen, tokens_back, at_finish, at_begin, news_for, events_to, posted}
use Rattle.flat_rules.specs.AllPosts.{posts}
use Rattle.flat_rules.specs.Watch.{Watcher, layout_of, status_of, child_of, watcher_of}
use Rattle.flat_watch.specs.Told.{answer, news}
use Rattle.flat_rules.proofs.Lines.{lined, filter-lined, length-lined, closed-lined, presents-lined, begin-lined, begun-lined, frames-lined, took-lined}
use Rattle.flat_rules.proofs.Lines.{took-begin, took-begun, credits-lined, taken-calls-lined, view-count, viewport-count}
use Rattle.flat_rules.proofs.LinesTold.{told-lined, watching-lined, watcher-lined}

module _ (setup : Setup) where
  -- ---- events

  told-event : (p : PairNo) (watcher : Watcher) (before : List Entry) (e : Entry)
      → told_event setup p watcher (lined before) (but_line e) ≡ told_event setup p watcher before e
  told-event p watcher before e =
      λ i. event_of p (watching-lined setup watcher before i).waits (answer (told-lined setup watcher (before ▹ e) i) (watching-lined setup watcher before i))

  took-frame : (h : List Entry) (s : SessionNo) → frame_took setup (lined h) s ≡ frame_took setup h s
  took-frame h s = λ i. took-begin setup h s i - took-begun setup h s i

  seen-begin : (h : List Entry) (s : SessionNo) (p : PairNo) → releases_seen setup (to_begin (lined h)) s p ≡ releases_seen setup (to_begin h) s p
  seen-begin h s p =
      ap (λ (g : List Entry). releases_seen setup g s p) (begin-lined h)
      ∙ ap (times setup (releases_viewport p) (Ok empty_draft)) (taken-calls-lined setup (to_begin h) s)

  seen-begun : (h : List Entry) (s : SessionNo) (p : PairNo)
      → releases_seen setup (drop 1 (to_begin (lined h))) s p ≡ releases_seen setup (drop 1 (to_begin h)) s p
  seen-begun h s p =
      ap (λ (g : List Entry). releases_seen setup g s p) (begun-lined h)
      ∙ ap (times setup (releases_viewport p) (Ok empty_draft)) (taken-calls-lined setup (drop 1 (to_begin h)) s)

  tokens-lined : (h : List Entry) (s : SessionNo) → tokens_back setup (lined h) s ≡ tokens_back setup h s
  tokens-lined h s = λ i. flat_map (λ p. replicate (seen-begin h s p i - seen-begun h s p i) (event.TokenBack p)) (viewports_of setup s)

  finish-lined : (h : List Entry) (s : SessionNo) → at_finish setup (lined h) s ≡ at_finish setup h s
  finish-lined h s = λ i. cond (nat_lt 0 (took-frame h s i)) (event.FramePresented (took-frame h s i) ∷ []) [] ++ tokens-lined h s i

  at-begin-lined : (before : List Entry) (e : Entry) (s : SessionNo) → at_begin setup (lined before) (but_line e) s ≡ at_begin setup before e s
  at-begin-lined before e s =
      λ i. cond (nat_lt (took-lined setup before s i) (took-lined setup (before ▹ e) s i))
      (event.Credits (credits-lined setup (before ▹ e) s i - credits-lined setup before s i) ∷ []) []

  news-lined : (before : List Entry) (e : Entry) (s : SessionNo) → news_for setup (lined before) (but_line e) s ≡ news_for setup before e s
  news-lined before e s =
      λ i. flat_map (λ p. told-event p (layout_of p) before e i) (views_of setup s)
      ++ flat_map (λ p. told-event p (status_of p) before e i) (views_of setup s)
      ++ flat_map (λ p. flat_map (λ n. told-event p (child_of p n) before e i) (up_to (viewport-count setup p before i))) (viewports_of setup s)
      ++ cond (is_finish e.kind) (finish-lined before s i) []
      ++ cond (is_begin e.kind) (at-begin-lined before e s i) []

  pub events-lined : (before : List Entry) (e : Entry) (s : SessionNo) → events_to setup (lined before) (but_line e) s ≡ events_to setup before e s
  events-lined before e s = λ i. cond (closed-lined s (before ▹ e) i) [] (news-lined before e s i)

  posted-lined : (before : List Entry) (e : Entry) → posted setup (lined before) (but_line e) ≡ posted setup before e
  posted-lined before e =
      λ i. flat_map (λ s. map (λ event. let sent : Sent = record { to = s; event = event } in sent) (events-lined before e s i)) (sessions_to setup.sessions)

  pub posts-lined : (h : List Entry) → posts setup (lined h) ≡ posts setup h
  posts-lined [] = refl
  posts-lined (before ▹ e) =
      λ i. posts-lined before i ++ map (λ sent. let post : PostedEvent = record { entry = length-lined before i; session = sent.to; event = sent.event } in
      post)
      (posted-lined before e i)

  -- ---- what replies hang on

  token-lined : (p : PairNo) (h : List Entry) → has_token setup p (lined h) ≡ has_token setup p h
  token-lined p [] = refl
  token-lined p (before ▹ e) =
      λ i. not (uses_viewport p e.kind && is_done e.reply)
      && (token-lined p before i || list_any (λ (sent : Sent). is_token_back p sent.event) (posted-lined before e i))

  sent-lined : (s : SessionNo) (test : Event → Bool) (before : List Entry) (e : Entry)
      → sent_to setup s test (lined before) (but_line e) ≡ sent_to setup s test before e
  sent-lined s test before e = λ i. length (filter test (events-lined before e s i))

  unread-events : (s : SessionNo) (h : List Entry) → unread_events setup s (lined h) ≡ unread_events setup s h
  unread-events s [] = refl
  unread-events s (before ▹ e) = λ i. cond (is_session s e.actor && is_poll e.kind) [] (unread-events s before i) ++ events-lined before e s i

  unread-lined : (s : SessionNo) (h : List Entry) → unread setup s (lined h) ≡ unread setup s h
  unread-lined s h = ap length (unread-events s h)

  answers-lined : (s : SessionNo) (h : List Entry) → answers setup s (lined h) ≡ answers setup s h
  answers-lined s [] = refl
  answers-lined s (before ▹ e) = λ i. answers-lined s before i + number_if (is_session s e.actor && is_now e.reply) + sent-lined s is_told before e i

  finishes-lined : (h : List Entry) → frames (lined h) ≡ frames h
  finishes-lined h = ap length (filter-lined (λ e. is_finish e.kind) (λ e. refl) h) ∙ length-lined (filter (λ e. is_finish e.kind) h)

  signalled-lined : (h : List Entry) → is_signalled setup (lined h) ≡ is_signalled setup h
  signalled-lined h = (frames-lined setup h).signalled

  presents-count : (s : SessionNo) (h : List Entry) → length (presents s (lined h)) ≡ length (presents s h)
  presents-count s h = ap length (presents-lined s h)

  value-lined : (h : List Entry) (actor : Actor) (c : WaitCondition) → value_of setup (lined h) actor c ≡ value_of setup h actor c
  value-lined h actor (asks.Frames n) = finishes-lined h
  value-lined h actor (asks.Fence f) = λ i. number_if (signalled-lined h i f)
  value-lined h actor (asks.Presents s n) = presents-count s h
  value-lined h (Session s) (asks.Credits n) = credits-lined setup h s
  value-lined h (Session s) (asks.Taken n) = took-lined setup h s
  value-lined h (Session s) (asks.Answers n) = answers-lined s h
  value-lined h _ _ = refl

  get-lined : (h : List Entry) (watcher : Option Watcher) → reply_to_get setup (lined h) watcher ≡ reply_to_get setup h watcher
  get-lined h None = refl
  get-lined h (Some watcher) = λ i. got (is_some (watching-lined setup watcher h i).waits)
      (news (told-lined setup watcher h i) (watching-lined setup watcher h i).last)

  present-lined : (h : List Entry) (actor : Actor) → reply_to_present setup (lined h) actor ≡ reply_to_present setup h actor
  present-lined h Display = refl
  present-lined h (Probe n) = refl
  present-lined h (Session s) =
      λ i. cond (nat_lt 0 (credits-lined setup h s i)) (Presented (presents-count s h i + 1) (credits-lined setup h s i - 1))
      (Closed (Some NoPresentsRemaining) None)

  polled-lined : (actor : Actor) (h : List Entry) → polled_by setup actor (lined h) ≡ polled_by setup actor h
  polled-lined (Session s) h = unread-lined s h
  polled-lined Display h = refl
  polled-lined (Probe n) h = refl

  -- the reply is the same
  pub reply-lined : (h : List Entry) (actor : Actor) (carries : List Call) (kind : EntryKind)
      → reply_to setup (lined h) actor carries kind ≡ reply_to setup h actor carries kind
  reply-lined h actor carries (View p) = λ i. cond (view-count setup p h i == 0) Done refused_token
  reply-lined h actor carries (Viewport p props) = λ i. cond (token-lined p h i) Done refused_token
  reply-lined h actor carries (Present args) = present-lined h actor
  reply-lined h actor carries (Get get) =
      ap (reply_to_get setup (lined h)) (watcher-lined setup h actor carries get) ∙ get-lined h (watcher_of setup h actor carries get)
  reply-lined h actor carries Poll = λ i. Polled (polled-lined actor h i)
  reply-lined h actor carries (Wait c) = ap (waited (asked_of c)) (value-lined h actor c)
  reply-lined h actor carries (Close None) = refl
  reply-lined h actor carries (Close (Some reason)) = refl
  reply-lined h actor carries _ = refl
