-- Which events an entry posts.
use Rattle.std.specs.Prelude.{ℕ, zero, suc, ◌-◌, cond, nat_lt, List, [], ◌∷◌, ◌++◌, length, drop, map, flat_map}
use Rattle.std.specs.Prelude.{replicate, Option, Some, Ok}
use Rattle.flat_base.specs.declared.ids.PairNo.{PairNo}
use Rattle.flat_base.specs.declared.ids.SessionNo.{SessionNo}
use Rattle.flat_scene.specs.declared.calls.Watch.{Watch}
use Rattle.flat_scene.specs.declared.journal.Entry.{Entry}
use Rattle.flat_scene.specs.declared.journal.Event.{Event}
use Rattle.flat_scene.specs.declared.journal.Event.TheVariants as event
use Rattle.flat_scene.specs.declared.journal.WatcherValue.{WatcherValue}
use Rattle.flat_scene.specs.declared.setup.Setup.{Setup}
use Rattle.flat_scene.specs.History.{◌▹◌, is_begin, is_finish, is_closed}
use Rattle.flat_scene.specs.Frames.{taken, credits, sessions_to}
use Rattle.flat_scene.specs.Draft.{empty_draft}
use Rattle.flat_rules.specs.Ends.{to_begin, times, releases_viewport, taken_calls, viewport_uses, views_of}
use Rattle.flat_rules.specs.Ends.{viewports_of}
use Rattle.flat_rules.specs.Watch.{Watcher, layout_of, status_of, child_of, watching, told}
use Rattle.flat_watch.specs.Told.{answer}

-- the numbers from 1 to a number
abbrev pub up_to : ℕ → List ℕ
up_to zero = []
up_to (suc n) = up_to n ++ suc n ∷ []

-- An event, and whom it is posted to.
pub record Sent : Type 0 where
  pub to : SessionNo
  pub event : Event

-- the answer to a held get, as an event
abbrev pub event_of : PairNo → Option Watch → Option WatcherValue → List Event
event_of p (Some get) (Some value) = event.Told p get value ∷ []
event_of p _ _ = []

module _ (setup : Setup) where
  -- a held get that the entry answers
  abbrev pub told_event : PairNo → Watcher → List Entry → Entry → List Event
  told_event p watcher before entry =
      event_of p (watching setup watcher before).waits
      (answer (told setup (before ▹ entry) watcher) (watching setup watcher before))

  -- how many presents of a session the frame begun last took
  abbrev pub frame_took : List Entry → SessionNo → ℕ
  frame_took history s = taken setup (to_begin history) s - taken setup (drop 1 (to_begin history)) s

  -- how often the calls that frames have seen release a viewport of the pair
  abbrev pub releases_seen : List Entry → SessionNo → PairNo → ℕ
  releases_seen history s p = times setup (releases_viewport p) (Ok empty_draft) (taken_calls setup history s)

  -- the tokens that came back because the frame begun last has seen releases
  abbrev pub tokens_back : List Entry → SessionNo → List Event
  tokens_back history s =
      flat_map (λ p. replicate (releases_seen (to_begin history) s p - releases_seen (drop 1 (to_begin history)) s p)
      (event.TokenBack p)) (viewports_of setup s)

  -- what the end of a frame tells a session of its presents and tokens
  abbrev pub at_finish : List Entry → SessionNo → List Event
  at_finish before s = cond (nat_lt 0 (frame_took before s)) (event.FramePresented (frame_took before s) ∷ []) []
      ++ tokens_back before s

  -- what the begin of a frame tells a session of its credits
  abbrev pub at_begin : List Entry → Entry → SessionNo → List Event
  at_begin before entry s =
      cond (nat_lt (taken setup before s) (taken setup (before ▹ entry) s))
      (event.Credits (credits setup (before ▹ entry) s - credits setup before s) ∷ []) []

  -- what an entry tells a session, in order: layouts, statuses, children, what was presented, tokens, credits
  abbrev pub news_for : List Entry → Entry → SessionNo → List Event
  news_for before entry s =
      flat_map (λ p. told_event p (layout_of p) before entry) (views_of setup s)
      ++ flat_map (λ p. told_event p (status_of p) before entry) (views_of setup s)
      ++ flat_map (λ p.
      flat_map (λ n. told_event p (child_of p n) before entry) (up_to (length (viewport_uses p before))))
      (viewports_of setup s)
      ++ cond (is_finish entry.kind) (at_finish before s) []
      ++ cond (is_begin entry.kind) (at_begin before entry s) []

  -- the events that an entry posts to a session, if it is open then
  abbrev pub events_to : List Entry → Entry → SessionNo → List Event
  events_to before entry s = cond (is_closed s (before ▹ entry)) [] (news_for before entry s)

  -- the events that an entry posts, by sessions
  abbrev pub posted : List Entry → Entry → List Sent
  posted before entry =
      flat_map (λ s. map (λ event. record { to = s; event = event }) (events_to before entry s))
      (sessions_to setup.sessions)
