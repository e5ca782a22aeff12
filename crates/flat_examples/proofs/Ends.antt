-- Ends of links and tokens: when an end is lost, when a token comes back, and what the other side is told.
use Rattle.std.proofs.Common.{◌≡◌, true, false, List, [], ◌∷◌, ◌++◌, Some, None, refl}
use Rattle.flat_base.specs.declared.ids.Actor.TheVariants.{Session}
use Rattle.flat_scene.specs.declared.calls.Call.{Call}
use Rattle.flat_scene.specs.declared.calls.Call.TheVariants as call
use Rattle.flat_scene.specs.declared.calls.ViewportProps.{ViewportProps}
use Rattle.flat_scene.specs.declared.journal.Entry.{Entry}
use Rattle.flat_scene.specs.declared.journal.Event.TheVariants as event
use Rattle.flat_scene.specs.declared.journal.EntryKind.TheVariants as kind
use Rattle.flat_scene.specs.declared.journal.Reply.TheVariants as reply
use Rattle.flat_scene.specs.declared.journal.WatcherValue.TheVariants as tell
use Rattle.flat_scene.specs.History.{◌▹◌}
use Rattle.flat_rules.specs.Ends.{is_view_lost, is_viewport_lost, has_view}
use Rattle.flat_rules.specs.Legal.{has_token, reply_to, refused_token}
use Rattle.flat_rules.specs.Posts.{tokens_back}
use Rattle.flat_rules.specs.Watch.{told, status_of, child_of}
use Rattle.flat_scene.specs.Draft.{no_inset}
use Rattle.flat_examples.specs.Words.{s, p, t, c, by_session, by_display, present}
use Rattle.flat_examples.specs.Refused.{home, left}

abbrev props : ViewportProps
props = record { w = 30; h = 40; inset = no_inset }

abbrev viewport : List Call
viewport = call.CreateViewport (c 1) (p 1) 30 40 no_inset ∷ []

-- session 1 shows a viewport on its root and session 2 the view of that pair, and a frame shows both
abbrev linked : List Entry
linked = []
    ▹ by_session 1 1 (call.CreateView (p 0) ∷ []) (kind.View (p 0)) reply.Done
    ▹ by_session 2 2 (call.CreateView (p 1) ∷ []) (kind.View (p 1)) reply.Done
    ▹ by_session 1 3 viewport (kind.Viewport (p 1) props) reply.Done
    ▹ by_session 1 4 (call.CreateTransform (t 1) ∷ call.SetRootTransform (t 1) ∷ call.SetContent (t 1) (c 1) ∷ [])
    (kind.Present (present [] [])) (reply.Presented 1 0)
    ▹ by_session 2 5 [] (kind.Present (present [] [])) (reply.Presented 1 0)
    ▹ by_display 6 (kind.Begin 10)
    ▹ by_display 7 kind.Finish

-- a present of a session after calls, the begin that takes it, and the end of that frame
abbrev one_more : List Call → List Entry
one_more calls = linked ▹ by_session 1 8 calls (kind.Present (present [] [])) (reply.Presented 2 4)

abbrev begun : List Call → List Entry
begun calls = one_more calls ▹ by_display 9 (kind.Begin 20)

abbrev finished : List Call → List Entry
finished calls = begun calls ▹ by_display 10 kind.Finish

connected_at_first : told home linked (status_of (p 1)) ≡ Some tell.Connected
connected_at_first = refl

child_at_first : told home linked (child_of (p 1) 1) ≡ Some tell.HasPresented
child_at_first = refl

-- ---- a viewport that is released: its token comes back at the end of the frame, and nothing is lost

abbrev release : List Call
release = call.ReleaseViewport (c 1) ∷ []

no_token_before_the_frame : has_token home (p 1) (begun release) ≡ false
no_token_before_the_frame = refl

refused_before_the_frame : reply_to home (begun release) (Session (s 1)) viewport (kind.Viewport (p 1) props) ≡ refused_token
refused_before_the_frame = refl

token_comes_back : tokens_back home (begun release) (s 1) ≡ event.TokenBack (p 1) ∷ []
token_comes_back = refl

used_again_after_the_frame : reply_to home (finished release) (Session (s 1)) viewport (kind.Viewport (p 1) props) ≡ reply.Done
used_again_after_the_frame = refl

released_is_not_lost : is_viewport_lost home (finished release) (p 1) ≡ false
released_is_not_lost = refl

disconnected_by_release : told home (finished release) (status_of (p 1)) ≡ Some tell.Disconnected
disconnected_by_release = refl

-- a content that is taken from its transform ends nothing
taken_away_is_not_lost : is_viewport_lost home (finished (call.SetContent (t 1) (c 0) ∷ [])) (p 1) ≡ false
taken_away_is_not_lost = refl

-- ---- a viewport that is cleared: its token never comes back, and the end is lost once a frame has seen it

abbrev clear : List Call
clear = call.Clear ∷ []

not_lost_before_the_begin : is_viewport_lost home (one_more clear) (p 1) ≡ false
not_lost_before_the_begin = refl

lost_from_the_begin : is_viewport_lost home (begun clear) (p 1) ≡ true
lost_from_the_begin = refl

no_token_after_clear : has_token home (p 1) (finished clear) ≡ false
no_token_after_clear = refl

-- the child is told at the end of the frame
still_connected_at_begin : told home (begun clear) (status_of (p 1)) ≡ Some tell.Connected
still_connected_at_begin = refl

gone_at_done : told home (finished clear) (status_of (p 1)) ≡ Some tell.Gone
gone_at_done = refl

-- what was released before the Clear isn't lost by it
released_then_cleared : is_viewport_lost home (finished (release ++ clear)) (p 1) ≡ false
released_then_cleared = refl

-- the Clear ended the session's own view too, and the display's end of that pair is never lost
own_view_is_lost : is_view_lost home (finished clear) (p 0) ≡ true
own_view_is_lost = refl

display_loses_nothing : is_viewport_lost home (finished clear) (p 0) ≡ false
display_loses_nothing = refl

has_no_view : has_view home (finished clear) (s 1) ≡ false
has_no_view = refl

-- ---- a view that is released: the parent is told gone

abbrev view_released : List Entry
view_released = linked
    ▹ by_session 2 8 (call.ReleaseView ∷ []) (kind.Present (present [] [])) (reply.Presented 2 4)
    ▹ by_display 9 (kind.Begin 20)
    ▹ by_display 10 kind.Finish

view_is_lost : is_view_lost home view_released (p 1) ≡ true
view_is_lost = refl

child_is_gone : told home view_released (child_of (p 1) 1) ≡ Some tell.Gone
child_is_gone = refl

-- a view end is used once ever
no_second_view : reply_to home view_released (Session (s 2)) (call.CreateView (p 1) ∷ []) (kind.View (p 1)) ≡ refused_token
no_second_view = refl

-- ---- a session that closes: its ends are lost at once, also those that it never used, and the others are told after a frame

abbrev closed : List Entry
closed = linked ▹ by_session 2 8 [] (kind.Close None) (reply.Closed None None)

lost_at_once : is_view_lost home closed (p 1) ≡ true
lost_at_once = refl

not_told_yet : told home closed (child_of (p 1) 1) ≡ Some tell.HasPresented
not_told_yet = refl

told_after_a_frame : told home (closed ▹ by_display 9 (kind.Begin 20) ▹ by_display 10 kind.Finish) (child_of (p 1) 1) ≡ Some tell.Gone
told_after_a_frame = refl

-- a frame that was open when the session closed tells nothing of it
closed_inside_a_frame : told home
    (linked ▹ by_display 8 (kind.Begin 20) ▹ by_session 2 9 [] (kind.Close None) (reply.Closed None None) ▹ by_display 10 kind.Finish) (child_of (p 1) 1)
    ≡ Some tell.HasPresented
closed_inside_a_frame = refl

never_used_is_lost : is_viewport_lost home left (p 1) ≡ true
never_used_is_lost = refl
