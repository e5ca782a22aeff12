-- What is kept of the watchers of a pair: of the layout and the status of its view, and of its viewport's children.
use Rattle.std.specs.Prelude.{◌≡◌, ℕ, ◌+◌, ◌-◌, Bool, true, false, cond, not, List, [], ◌∷◌, ◌++◌, filter, flat_map}
use Rattle.std.specs.Prelude.{length, Option, Some, None, is_some}
use Rattle.flat_base.specs.declared.ids.PairNo.{PairNo}
use Rattle.flat_scene.specs.declared.calls.Watch.{Watch}
use Rattle.flat_scene.specs.declared.calls.Watch.TheVariants as watch
use Rattle.flat_scene.specs.declared.journal.Entry.{Entry}
use Rattle.flat_scene.specs.declared.journal.Event.{Event}
use Rattle.flat_scene.specs.declared.journal.WatcherValue.{WatcherValue}
use Rattle.flat_scene.specs.declared.setup.Setup.{Setup}
use Rattle.flat_watch.specs.declared.hanging_get.HeldAnswer.{HeldAnswer}
use Rattle.flat_watch.specs.Told.{Watching, answer, news, settled}
use Rattle.flat_watch.specs.HangingGets.{after_get, new_hanging_get}
use Rattle.flat_gets.specs.declared.pair.FormerGet.{FormerGet}
use Rattle.flat_gets.specs.declared.pair.PairWatchers.{PairWatchers}
use Rattle.flat_gets.specs.declared.pair.WatchedPart.{WatchedPart}
use Rattle.flat_gets.specs.declared.pair.WatchedPart.TheVariants as parts
use Rattle.flat_rules.specs.Ends.{viewport_uses}
use Rattle.flat_rules.specs.Legal.{number_if}
use Rattle.flat_rules.specs.Posts.{event_of, up_to}
use Rattle.flat_rules.specs.Watch.{Watcher, layout_of, status_of, child_of, watching}

-- ---- parts

-- what a get watches
abbrev pub part_of : Watch → WatchedPart
part_of watch.Layout = parts.Layout
part_of watch.Status = parts.Status
part_of (watch.Child c) = parts.Child

-- the watcher of a part of a pair; a child's is that of the use of this number
abbrev pub watcher_at : WatchedPart → PairNo → ℕ → Watcher
watcher_at parts.Layout p n = layout_of p
watcher_at parts.Status p n = status_of p
watcher_at parts.Child p n = child_of p n

abbrev pub is_layout : WatchedPart → Bool
is_layout parts.Layout = true
is_layout _ = false

abbrev pub is_status : WatchedPart → Bool
is_status parts.Status = true
is_status _ = false

abbrev pub is_child : WatchedPart → Bool
is_child parts.Child = true
is_child _ = false

-- what is kept of the watcher of a part; of the child, that of the last use
abbrev pub hanging_get_at : WatchedPart → PairWatchers → Watching
hanging_get_at parts.Layout w = w.layout
hanging_get_at parts.Status w = w.status
hanging_get_at parts.Child w = w.child

-- ---- the children of earlier uses

-- the get of one, if it waits
abbrev pub former_with : Option WatcherValue → Option Watch → List FormerGet
former_with last (Some get) = (record { get = get; last = last }) ∷ []
former_with last None = []

abbrev pub former_of : Watching → List FormerGet
former_of w = former_with w.last w.waits

-- those with news are answered, and the others wait on
abbrev pub former_events : PairNo → Option WatcherValue → List FormerGet → List Event
former_events p now = flat_map (λ former. event_of p (Some former.get) (news now former.last))

abbrev pub still_waiting : Option WatcherValue → List FormerGet → List FormerGet
still_waiting now = filter (λ former. not (is_some (news now former.last)))

-- ---- answers, where this is told now

-- the answer that a hanging get gave, as an event
abbrev pub events_of : PairNo → Option HeldAnswer → List Event
events_of p None = []
events_of p (Some given) = event_of p (Some given.get) (Some given.value)

-- the answers of a part
abbrev pub part_events : WatchedPart → PairNo → Option WatcherValue → PairWatchers → List Event
part_events parts.Layout p now w = event_of p w.layout.waits (answer now w.layout)
part_events parts.Status p now w = event_of p w.status.waits (answer now w.status)
part_events parts.Child p now w = former_events p now w.former.items ++ event_of p w.child.waits (answer now w.child)

-- What is kept after the answers of a part.
pub record IsTold (part : WatchedPart) (now : Option WatcherValue) (old new : PairWatchers) : Type 0 where
  pub layout : new.layout ≡ settled (is_layout part) now old.layout
  pub status : new.status ≡ settled (is_status part) now old.status
  pub child : new.child ≡ settled (is_child part) now old.child
  pub former : new.former.items ≡ cond (is_child part) (still_waiting now old.former.items) old.former.items

-- What is kept after a get of a part.
pub record IsGot (part : WatchedPart) (get : Watch) (now : Option WatcherValue) (old new : PairWatchers) : Type 0 where
  pub layout : new.layout ≡ cond (is_layout part) (after_get get now old.layout) old.layout
  pub status : new.status ≡ cond (is_status part) (after_get get now old.status) old.status
  pub child : new.child ≡ cond (is_child part) (after_get get now old.child) old.child
  pub former : new.former.items ≡ old.former.items

-- What is kept after the viewport end is used anew: a get of the child before goes on to wait.
pub record IsStarted (old new : PairWatchers) : Type 0 where
  pub layout : new.layout ≡ old.layout
  pub status : new.status ≡ old.status
  pub child : new.child ≡ new_hanging_get
  pub former : new.former.items ≡ old.former.items ++ former_of old.child

-- nothing was asked
pub record IsUnasked (w : PairWatchers) : Type 0 where
  pub layout : w.layout ≡ new_hanging_get
  pub status : w.status ≡ new_hanging_get
  pub child : w.child ≡ new_hanging_get
  pub former : w.former.items ≡ []

-- the same but for room
pub record IsSameBut (old new : PairWatchers) : Type 0 where
  pub layout : new.layout ≡ old.layout
  pub status : new.status ≡ old.status
  pub child : new.child ≡ old.child
  pub former : new.former.items ≡ old.former.items

-- how many gets wait
abbrev pub waiting_in : PairWatchers → ℕ
waiting_in w = number_if (is_some w.layout.waits) + number_if (is_some w.status.waits) + number_if
    (is_some w.child.waits) + length w.former.items

-- ---- what is kept stands for histories

-- the gets of the first so many children that wait
abbrev pub former_gets : (ℕ → Watching) → ℕ → List FormerGet
former_gets children n = flat_map (λ k. former_of (children k)) (up_to n)

-- What is kept of a pair stands for its watchers:
-- those of its view after one history, and those of its viewport's children after another.
pub record AreAt (setup : Setup) (view viewport : List Entry) (p : PairNo) (w : PairWatchers) : Type 0 where
  pub layout : w.layout ≡ watching setup (layout_of p) view
  pub status : w.status ≡ watching setup (status_of p) view
  pub child : w.child ≡ watching setup (child_of p (length (viewport_uses p viewport))) viewport
  pub former : w.former.items ≡ former_gets (λ k. watching setup (child_of p k) viewport)
      (length (viewport_uses p viewport) - 1)
