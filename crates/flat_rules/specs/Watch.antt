-- What the watchers tell, and when a hanging get is answered.
use Rattle.std.specs.Prelude.{ℕ, ◌*◌, ◌/◌, max, Bool, true, false, cond, not, ◌&&◌, ◌==◌, nat_lt, List, [], ◌++◌}
use Rattle.std.specs.Prelude.{length, Option, Some, None, option_map, option_and_then, unwrap_or}
use Rattle.flat_base.specs.declared.ids.Actor.{Actor}
use Rattle.flat_base.specs.declared.ids.Actor.TheVariants.{Display, Session}
use Rattle.flat_base.specs.declared.ids.PairNo.{PairNo}
use Rattle.flat_base.specs.declared.ids.SessionNo.{SessionNo}
use Rattle.flat_scene.specs.declared.calls.Call.{Call}
use Rattle.flat_scene.specs.declared.calls.ViewportProps.{ViewportProps}
use Rattle.flat_scene.specs.declared.calls.Watch.{Watch}
use Rattle.flat_scene.specs.declared.calls.Watch.TheVariants as watch
use Rattle.flat_scene.specs.declared.journal.Entry.{Entry}
use Rattle.flat_scene.specs.declared.journal.EntryKind.{EntryKind}
use Rattle.flat_scene.specs.declared.journal.EntryKind.TheVariants.{Viewport, Get}
use Rattle.flat_scene.specs.declared.journal.WatcherValue.{WatcherValue}
use Rattle.flat_scene.specs.declared.journal.WatcherValue.TheVariants as tell
use Rattle.flat_scene.specs.declared.setup.Setup.{Setup}
use Rattle.flat_scene.specs.History.{◌▹◌, is_finish, is_closed, calls}
use Rattle.flat_scene.specs.Draft.{Draft, Made, a_viewport, made_of, no_inset}
use Rattle.flat_scene.specs.Effect.{draft_of}
use Rattle.flat_scene.specs.Frames.{ratio}
use Rattle.flat_rules.specs.Shown.{is_pair, shown_view, is_connected}
use Rattle.flat_base.specs.declared.limits.TheConstants.{ONE}
use Rattle.std.specs.Result.{result_ok}
use Rattle.flat_watch.specs.Told.{Watching, asking, settled}
use Rattle.std.specs.Option.{option_or}
use Rattle.flat_rules.specs.Ends.{view_uses, viewport_uses, to_begin, to_finished, props_of, viewport_owner, view_owner}
use Rattle.flat_rules.specs.Ends.{taken_calls, is_viewport_lost, is_view_lost}

-- What a get watches: the layout or the status of a pair's view, or the child of the n-th use of its viewport end.
pub data Watcher : Type 0 where
  layout_of : PairNo → Watcher
  status_of : PairNo → Watcher
  child_of : PairNo → ℕ → Watcher

-- whether two watchers are the same
abbrev pub same_watcher : Watcher → Watcher → Bool
same_watcher (layout_of p) (layout_of q) = p.0 == q.0
same_watcher (status_of p) (status_of q) = p.0 == q.0
same_watcher (child_of p m) (child_of q n) = p.0 == q.0 && m == n
same_watcher _ _ = false

-- the layout that the properties of a viewport give at a pixel ratio
abbrev pub layout_in : ℕ → ViewportProps → WatcherValue
layout_in ratio props = tell.Layout (record { w = props.w; h = props.h; inset = props.inset; ratio = ratio })

-- a side of the display in logical units, of which there is one at least
abbrev pub logical_side : ℕ → ℕ → ℕ
logical_side ratio side = max 1 (side * ONE / ratio)

-- the display as a viewport, at its pixel ratio
abbrev pub display_props : ℕ → Setup → ViewportProps
display_props ratio setup =
    record { w = logical_side ratio setup.width; h = logical_side ratio setup.height; inset = no_inset }

-- the properties with which an entry uses a viewport end
abbrev pub props_at : EntryKind → Option ViewportProps
props_at (Viewport p props) = Some props
props_at _ = None

module _ (setup : Setup) where
  -- ---- what is told

  -- the viewport end was used; the display's counts as used from the start
  abbrev pub is_used : Option Actor → PairNo → List Entry → Bool
  is_used (Some Display) p history = true
  is_used _ p history = nat_lt 0 (length (viewport_uses p history))

  -- both ends were used
  abbrev pub are_joined : List Entry → PairNo → Bool
  are_joined history p = nat_lt 0 (length (view_uses p history)) && is_used (viewport_owner setup p) p history

  -- the properties at the last use
  abbrev pub props_given : List Entry → Option ViewportProps
  props_given [] = None
  props_given (before ▹ entry) = props_at entry.kind

  -- the properties of a use in the latest state that a finished frame's begin had, and in which the use stands
  abbrev pub props_seen : PairNo → ℕ → SessionNo → List Entry → Option ViewportProps
  props_seen p n s [] = None
  props_seen p n s (before ▹ entry) =
      option_or
      (cond (is_finish entry.kind)
      (option_and_then (props_of p n) (result_ok (draft_of setup (taken_calls setup (to_begin before) s)))) None)
      (props_seen p n s before)

  -- the pixel ratio that is told: that of the last finished frame's begin, or the head's
  abbrev pub ratio_told : List Entry → ℕ
  ratio_told history = ratio setup (to_finished history)

  -- the properties of the last use: those that frames have seen last, or those given
  abbrev pub props_told : Option Actor → List Entry → PairNo → Option ViewportProps
  props_told (Some Display) history p = Some (display_props (ratio_told history) setup)
  props_told (Some (Session s)) history p =
      option_or (props_seen p (length (viewport_uses p history)) s history) (props_given (viewport_uses p history))
  props_told _ history p = None

  -- the layout of a pair's view
  abbrev pub told_layout : List Entry → PairNo → Option WatcherValue
  told_layout history p =
      cond (is_viewport_lost setup (to_finished history) p) (Some tell.Gone)
      (cond (are_joined history p)
      (option_map (layout_in (ratio_told history)) (props_told (viewport_owner setup p) history p)) None)

  -- whether the session that owns the view end shows that view
  abbrev pub shows_view : List Entry → PairNo → Bool
  shows_view history p = unwrap_or (option_map (λ s. is_pair (shown_view setup history s) p) (view_owner setup p)) false

  -- whether it shows that view and is connected
  abbrev pub is_connected_by : List Entry → PairNo → Bool
  is_connected_by history p = shows_view history p
      && unwrap_or (option_map (is_connected setup history) (view_owner setup p)) false

  -- the status of a pair's view
  abbrev pub told_status : List Entry → PairNo → Option WatcherValue
  told_status history p =
      cond (is_viewport_lost setup (to_finished history) p) (Some tell.Gone)
      (cond (are_joined history p)
      (Some (cond (is_connected_by (to_finished history) p) tell.Connected tell.Disconnected)) None)

  -- whether the child of a pair has presented
  abbrev pub told_child : List Entry → PairNo → Option WatcherValue
  told_child history p =
      cond (is_view_lost setup (to_finished history) p) (Some tell.Gone)
      (cond (shows_view (to_finished history) p) (Some tell.HasPresented) None)

  -- the value of a watcher after a history
  abbrev pub told : List Entry → Watcher → Option WatcherValue
  told history (layout_of p) = told_layout history p
  told history (status_of p) = told_status history p
  told history (child_of p n) = told_child history p

  -- ---- who asks

  -- the watcher of a viewport: that of the last use of its pair
  abbrev pub watcher_of_made : List Entry → Made → Option Watcher
  watcher_of_made before (a_viewport p props) = Some (child_of p (length (viewport_uses p before)))
  watcher_of_made before _ = None

  -- the watcher that a get means, by the draft
  abbrev pub watcher_in : List Entry → Draft → Watch → Option Watcher
  watcher_in before draft watch.Layout = option_map layout_of draft.view
  watcher_in before draft watch.Status = option_map status_of draft.view
  watcher_in before draft (watch.Child c) = option_and_then (watcher_of_made before) (made_of draft c)

  -- the watcher of a get that an actor makes, with the calls that the get's entry carries
  abbrev pub watcher_of : List Entry → Actor → List Call → Watch → Option Watcher
  watcher_of before (Session s) carries get =
      option_and_then (λ draft. watcher_in before draft get) (result_ok (draft_of setup (calls s before ++ carries)))
  watcher_of before _ carries get = None

  -- whether it is that watcher
  abbrev pub is_watcher : Watcher → Option Watcher → Bool
  is_watcher watcher other = unwrap_or (option_map (same_watcher watcher) other) false

  -- the get of a watcher that an entry makes
  abbrev pub asked_in : Watcher → List Entry → Entry → EntryKind → Option Watch
  asked_in watcher before entry (Get get) =
      cond (is_watcher watcher (watcher_of before entry.actor entry.calls get)) (Some get) None
  asked_in watcher before entry _ = None

  -- the same of the entry's own kind
  abbrev pub asked : Watcher → List Entry → Entry → Option Watch
  asked watcher before entry = asked_in watcher before entry entry.kind

  -- who is told
  abbrev pub listener : Watcher → Option Actor
  listener (layout_of p) = option_map Session (view_owner setup p)
  listener (status_of p) = option_map Session (view_owner setup p)
  listener (child_of p n) = viewport_owner setup p

  -- whether an actor is a session that is open
  abbrev pub is_open : Option Actor → List Entry → Bool
  is_open (Some (Session s)) history = not (is_closed s history)
  is_open _ history = false

  -- what a watcher has answered, and which get it holds
  abbrev pub watching : Watcher → List Entry → Watching
  watching watcher [] = record { last = None; waits = None }
  watching watcher (before ▹ entry) =
      settled (is_open (listener watcher) (before ▹ entry)) (told (before ▹ entry) watcher)
      (asking (asked watcher before entry) (watching watcher before))
