-- The gets that wait after a history, and what answers them.
use Rattle.std.specs.Prelude.{ℕ, ◌+◌, Bool, false, List, [], ◌∷◌, ◌++◌, flat_map, map, length, Option, Some, None}
use Rattle.std.specs.Prelude.{unwrap_or, option_map}
use Rattle.flat_base.specs.declared.ids.SessionNo.{SessionNo}
use Rattle.flat_scene.specs.declared.calls.Watch.{Watch}
use Rattle.flat_scene.specs.declared.journal.Entry.{Entry}
use Rattle.flat_scene.specs.declared.journal.Event.{Event}
use Rattle.flat_scene.specs.declared.journal.WatcherValue.{WatcherValue}
use Rattle.flat_scene.specs.declared.setup.Setup.{Setup}
use Rattle.flat_scene.specs.History.{◌▹◌, is_session}
use Rattle.flat_watch.specs.Told.{Watching, news}
use Rattle.flat_rules.specs.Ends.{views_of, viewports_of, viewport_uses}
use Rattle.flat_rules.specs.Legal.{number_if}
use Rattle.flat_rules.specs.Kinds.{is_get}
use Rattle.flat_rules.specs.Local.{pair_watched}
use Rattle.flat_rules.specs.Posts.{event_of, up_to}
use Rattle.flat_rules.specs.Watch.{Watcher, layout_of, status_of, child_of, watching, listener}

-- A get that waits: its watcher, its name, and what that watcher answered last.
pub record HeldGet : Type 0 where
  pub watcher : Watcher
  pub get : Watch
  pub last : Option WatcherValue

-- the get that a watcher holds, if it holds one
abbrev pub held_with : Watcher → Option WatcherValue → Option Watch → List HeldGet
held_with watcher last (Some get) = (record { watcher = watcher; get = get; last = last }) ∷ []
held_with watcher last None = []

abbrev pub held_by : Watcher → Watching → List HeldGet
held_by watcher w = held_with watcher w.last w.waits

-- ---- answers, where this is told now

abbrev pub news_of : (Watcher → Option WatcherValue) → HeldGet → Option WatcherValue
news_of now one = news (now one.watcher) one.last

-- the answers to held gets, as events
abbrev pub answers_to : (Watcher → Option WatcherValue) → List HeldGet → List Event
answers_to now = flat_map (λ one. event_of (pair_watched one.watcher) (Some one.get) (news_of now one))

-- ---- all that wait after a history

-- a session is told of this watcher
abbrev pub hears : Setup → SessionNo → Watcher → Bool
hears setup s watcher = unwrap_or (option_map (is_session s) (listener setup watcher)) false

-- the watchers of a session, in the order in which they are answered
abbrev pub watchers_of : Setup → List Entry → SessionNo → List Watcher
watchers_of setup history s =
    map layout_of (views_of setup s) ++ map status_of (views_of setup s)
    ++ flat_map (λ p. map (child_of p) (up_to (length (viewport_uses p history)))) (viewports_of setup s)

-- the get that a watcher holds after a history, if it does, and all that a session waits for
abbrev pub held_of : Setup → List Entry → Watcher → List HeldGet
held_of setup history watcher = held_by watcher (watching setup watcher history)

abbrev pub helds_of : Setup → List Entry → SessionNo → List HeldGet
helds_of setup history s = flat_map (held_of setup history) (watchers_of setup history s)

-- how many gets were made
abbrev pub gets_made : List Entry → ℕ
gets_made [] = 0
gets_made (before ▹ entry) = gets_made before + number_if (is_get entry.kind)
