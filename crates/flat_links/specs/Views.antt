-- What the ends of a pair tell, and the stamps of views.
use Rattle.std.specs.Prelude.{◌≡◌, ◌<◌, ◌&&◌, nat_lt, not, false, length, slice_get, slice_index_or, ℕ, Bool, cond}
use Rattle.std.specs.Prelude.{List, Option, Some, None, is_some, option_and_then, option_map}
use Rattle.flat_base.specs.declared.ids.PairNo.{PairNo}
use Rattle.flat_scene.specs.declared.calls.Call.{Call}
use Rattle.flat_scene.specs.declared.journal.WatcherValue.{WatcherValue}
use Rattle.flat_scene.specs.declared.journal.WatcherValue.TheVariants as tell
use Rattle.flat_scene.specs.declared.calls.ViewportProps.{ViewportProps}
use Rattle.flat_links.specs.declared.pairs.PairState.{PairState}
use Rattle.flat_rules.specs.Shown.{is_pair}
use Rattle.flat_rules.specs.Stamps.{is_seen, stamp_then}
use Rattle.flat_states.specs.declared.state.SessionState.{SessionState}
use Rattle.flat_states.specs.Kept.{taken_in}
use Rattle.flat_rules.specs.Watch.{layout_in}
use Rattle.flat_facts.specs.Views.{ends_of}

-- the layout, by the display's pixel ratio, whether the viewport end is lost, whether both ends are used, and the
-- properties
abbrev pub layout_by : ℕ → Bool → Bool → Option ViewportProps → Option WatcherValue
layout_by ratio lost joined props = cond lost (Some tell.Gone) (cond joined (option_map (layout_in ratio) props) None)

-- the status, by whether the view's session is connected, and shows this view
abbrev pub status_by : Bool → Bool → Bool → Option WatcherValue
status_by lost joined connected = cond lost (Some tell.Gone)
    (cond joined (Some (cond connected tell.Connected tell.Disconnected)) None)

-- the child, by whether the view end is lost, and whether its session shows the view
abbrev pub child_by : Bool → Bool → Option WatcherValue
child_by lost shown = cond lost (Some tell.Gone) (cond shown (Some tell.HasPresented) None)

-- ---- which views have ended

-- the stamp of the end of a pair's view, where there is such a pair
abbrev pub end_stamp : List PairState → PairNo → Option ℕ
end_stamp pairs p = option_and_then (λ state. state.ended) (slice_get pairs p.0)

-- whether the view of a pair has ended
abbrev pub is_ended : List PairState → PairNo → Bool
is_ended pairs p = is_some (end_stamp pairs p)

-- whether there is a view, and so many presents haven't seen its end
abbrev pub is_unseen : List PairState → ℕ → Option PairNo → Bool
is_unseen pairs taken None = false
is_unseen pairs taken (Some p) = not (is_seen (end_stamp pairs p) taken)

-- whether a session has a view whose end isn't lost:
-- it is open, and frames haven't seen the end of the last that it made
abbrev pub has_view_in : List PairState → SessionState → Bool
has_view_in pairs state = not state.closed && is_unseen pairs (taken_in state) state.account.view

-- ---- the stamps of views, pair by pair

-- a pair's state after calls of the session that owns its view end, where that had made so many presents before
abbrev pub ended_by : ℕ → Option PairNo → List Call → ℕ → PairState → PairState
ended_by p view calls presents state = record state
    { ended = stamp_then state.ended (nat_lt 0 (ends_of (record { 0 = p }) view calls)) presents }

-- The states of all pairs after such calls.
pub record EndsViews (view : Option PairNo) (calls : List Call) (presents : ℕ) (old new : List PairState) : Type 0 where
  pub count : length new ≡ length old
  pub each : (p : ℕ) (d : PairState) → p < length old
      → slice_index_or new p d ≡ ended_by p view calls presents (slice_index_or old p d)

-- The states after the view ended.
pub record EndsOne (view : Option PairNo) (presents : ℕ) (old new : List PairState) : Type 0 where
  pub count : length new ≡ length old
  pub each : (p : ℕ) (d : PairState) → p < length old
      → slice_index_or new p d ≡ (let now : PairState =
      record (slice_index_or old p d) {
        ended =
            stamp_then (slice_index_or old p d).ended (is_pair view (record { 0 = p })) presents;
      } in now)
