-- The ends of pairs: who owns them, when they were used, and what frames have seen of their end.
use Rattle.std.specs.Prelude.{ℕ, ◌+◌, Bool, true, false, cond, ◌&&◌, ◌||◌, ◌==◌, nat_lt, List, [], ◌∷◌, filter, not}
use Rattle.std.specs.Prelude.{length, Option, Some, None, Result, Ok, option_map, option_and_then, unwrap_or, slice_get}
use Rattle.std.specs.List.{list_any}
use Rattle.std.specs.Result.{result_ok}
use Rattle.flat_base.specs.declared.ids.Actor.{Actor}
use Rattle.flat_base.specs.declared.ids.Actor.TheVariants.{Session}
use Rattle.flat_base.specs.declared.ids.PairNo.{PairNo}
use Rattle.flat_base.specs.declared.ids.SessionNo.{SessionNo}
use Rattle.flat_base.specs.declared.errors.Reason.{Reason}
use Rattle.flat_scene.specs.declared.calls.Call.{Call}
use Rattle.flat_scene.specs.declared.calls.Call.TheVariants.{ReleaseView, ReleaseViewport, Clear}
use Rattle.flat_scene.specs.declared.calls.ViewportProps.{ViewportProps}
use Rattle.flat_scene.specs.declared.journal.Entry.{Entry}
use Rattle.flat_scene.specs.declared.journal.EntryKind.{EntryKind}
use Rattle.flat_scene.specs.declared.journal.EntryKind.TheVariants.{View, Viewport}
use Rattle.flat_scene.specs.declared.journal.Reply.{Reply}
use Rattle.flat_scene.specs.declared.journal.Reply.TheVariants.{Done}
use Rattle.flat_scene.specs.declared.setup.PairDecl.{PairDecl}
use Rattle.flat_scene.specs.declared.setup.Setup.{Setup}
use Rattle.flat_scene.specs.History.{◌▹◌, is_begin, is_finish, is_closed, is_session}
use Rattle.flat_scene.specs.Draft.{Draft, Made, a_viewport, of_serial, content_of, empty_draft}
use Rattle.flat_scene.specs.Effect.{after_call}
use Rattle.flat_rules.specs.Shown.{is_pair, last_taken}

-- ---- uses, in the order of the entries

-- whether a reply says that it was done
abbrev pub is_done : Reply → Bool
is_done Done = true
is_done _ = false

-- whether an entry of this kind uses the view end of a pair, or the viewport end
abbrev pub uses_view : PairNo → EntryKind → Bool
uses_view p (View q) = q.0 == p.0
uses_view p _ = false

abbrev pub uses_viewport : PairNo → EntryKind → Bool
uses_viewport p (Viewport q props) = q.0 == p.0
uses_viewport p _ = false

-- the entries that used an end and were not refused, the newest first
abbrev pub view_uses : PairNo → List Entry → List Entry
view_uses p = filter (λ entry. uses_view p entry.kind && is_done entry.reply)

abbrev pub viewport_uses : PairNo → List Entry → List Entry
viewport_uses p = filter (λ entry. uses_viewport p entry.kind && is_done entry.reply)

-- ---- frames

-- the history up to and with the begin of the last frame
abbrev pub to_begin : List Entry → List Entry
to_begin [] = []
to_begin (before ▹ entry) = cond (is_begin entry.kind) (before ▹ entry) (to_begin before)

-- the same of the last frame that is finished
abbrev pub to_finished : List Entry → List Entry
to_finished [] = []
to_finished (before ▹ entry) = cond (is_finish entry.kind) (to_begin before) (to_finished before)

-- ---- what calls do to ends

-- one, where it is so
abbrev pub count_if : Option Bool → ℕ
count_if (Some true) = 1
count_if _ = 0

-- at how many calls this holds of the draft before the call
abbrev pub times : Setup → (Draft → Call → Bool) → Result Draft Reason → List Call → ℕ
times setup test draft [] = 0
times setup test draft (call ∷ calls) =
    count_if (option_map (λ d. test d call) (result_ok draft)) + times setup test (after_call setup draft call) calls

-- whether it holds at some call of a session
abbrev pub happens : Setup → (Draft → Call → Bool) → List Call → Bool
happens setup test calls = nat_lt 0 (times setup test (Ok empty_draft) calls)

-- whether a content is a viewport of the pair, and whether that of a serial is
abbrev pub is_made_of : PairNo → Made → Bool
is_made_of p (a_viewport q props) = q.0 == p.0
is_made_of p _ = false

abbrev pub is_viewport_of : PairNo → Draft → ℕ → Bool
is_viewport_of p draft serial = unwrap_or (option_map (is_made_of p) (of_serial draft.contents serial)) false

-- the call releases a viewport of the pair, clears one, or ends the pair's view
abbrev pub releases_viewport : PairNo → Draft → Call → Bool
releases_viewport p draft (ReleaseViewport c) =
    unwrap_or (option_map (is_viewport_of p draft) (content_of draft c)) false
releases_viewport p draft _ = false

abbrev pub clears_viewport : PairNo → Draft → Call → Bool
clears_viewport p draft Clear = list_any (is_viewport_of p draft) draft.viewports
clears_viewport p draft _ = false

abbrev pub ends_view : PairNo → Draft → Call → Bool
ends_view p draft ReleaseView = is_pair draft.view p
ends_view p draft Clear = is_pair draft.view p
ends_view p draft _ = false

-- the properties of a viewport
abbrev pub props_in : Made → Option ViewportProps
props_in (a_viewport q props) = Some props
props_in _ = None

-- the serials of the viewports of a pair, where the first of the contents has that serial
abbrev pub serials_of : PairNo → ℕ → List Made → List ℕ
serials_of p next [] = []
serials_of p next (made ∷ more) =
    cond (is_made_of p made) (next ∷ serials_of p (next + 1) more) (serials_of p (next + 1) more)

-- the properties of a viewport that is neither released nor cleared
abbrev pub live_props : Draft → ℕ → Option ViewportProps
live_props draft serial =
    cond (list_any (λ live. live == serial) draft.viewports)
    (option_and_then props_in (of_serial draft.contents serial)) None

-- the same of the n-th viewport of a pair, counted from 1
abbrev pub props_of : PairNo → ℕ → Draft → Option ViewportProps
props_of p n draft = option_and_then (live_props draft) (of_serial (serials_of p 1 draft.contents) n)

-- the pairs of which this holds, by number
abbrev pub pairs_where : (PairDecl → Bool) → ℕ → List PairDecl → List PairNo
pairs_where test number [] = []
pairs_where test number (pair ∷ pairs) =
    cond (test pair) ((record { 0 = number }) ∷ pairs_where test (number + 1) pairs)
    (pairs_where test (number + 1) pairs)

module _ (setup : Setup) where
  -- the pairs whose view end a session owns, and those whose viewport end it owns
  abbrev pub views_of : SessionNo → List PairNo
  views_of s = pairs_where (λ pair. pair.view.0 == s.0) 0 setup.pairs

  abbrev pub viewports_of : SessionNo → List PairNo
  viewports_of s = pairs_where (λ pair. is_session s pair.viewport) 0 setup.pairs

  -- the declaration of a pair
  abbrev pub pair_of : PairNo → Option PairDecl
  pair_of p = slice_get setup.pairs p.0

  -- who owns the viewport end
  abbrev pub viewport_owner : PairNo → Option Actor
  viewport_owner p = option_map (λ pair. pair.viewport) (pair_of p)

  -- the session that owns the view end
  abbrev pub view_owner : PairNo → Option SessionNo
  view_owner p = option_map (λ pair. pair.view) (pair_of p)

  -- the calls up to the last present that a frame took
  abbrev pub taken_calls : List Entry → SessionNo → List Call
  taken_calls history s = unwrap_or (option_map (λ present. present.made) (last_taken setup history s)) []

  -- an owner was closed, or made a call of that sort and a frame has seen it
  abbrev pub has_ended : (Draft → Call → Bool) → List Entry → SessionNo → Bool
  has_ended test history s = is_closed s history || happens setup test (taken_calls history s)

  -- the same of an owner, which may be the display: that loses nothing
  abbrev pub loses : (Draft → Call → Bool) → List Entry → Option Actor → Bool
  loses test history (Some (Session s)) = has_ended test history s
  loses test history _ = false

  -- a viewport end is lost where its owner was closed, or cleared its viewport and a frame has seen it
  abbrev pub is_viewport_lost : List Entry → PairNo → Bool
  is_viewport_lost history p = loses (clears_viewport p) history (viewport_owner p)

  -- a view end is lost where its owner was closed, or ended its view and a frame has seen it
  abbrev pub is_view_lost : List Entry → PairNo → Bool
  is_view_lost history p = loses (ends_view p) history (option_map Session (view_owner p))

  -- a session is open and has used a view end that isn't lost
  abbrev pub has_view : List Entry → SessionNo → Bool
  has_view history s =
      not (is_closed s history)
      && list_any (λ p. nat_lt 0 (length (view_uses p history)) && not (is_view_lost history p)) (views_of s)
