-- The words of the laws on histories, on small runs.
use Rattle.std.proofs.Common.{◌≡◌, true, false, List, [], ◌∷◌, map, refl}
use Rattle.std.specs.Prelude.{Some, None}
use Rattle.flat_base.specs.declared.ids.Actor.TheVariants.{Display, Session}
use Rattle.flat_scene.specs.declared.calls.Call.TheVariants as call
use Rattle.flat_scene.specs.declared.calls.Watch.TheVariants as watch
use Rattle.flat_scene.specs.declared.journal.Entry.{Entry}
use Rattle.flat_scene.specs.declared.journal.Event.TheVariants as event
use Rattle.flat_scene.specs.declared.journal.EntryKind.TheVariants as kind
use Rattle.flat_scene.specs.declared.journal.Reply.TheVariants as reply
use Rattle.flat_scene.specs.declared.journal.WatcherValue.TheVariants as tell
use Rattle.flat_scene.specs.History.{◌▹◌, own}
use Rattle.flat_rules.specs.Determined.{but_reply, family_moments}
use Rattle.flat_rules.specs.FirstNews.{first_news, is_asked, is_heard}
use Rattle.flat_rules.specs.Seats.{of_seat, of_display}
use Rattle.flat_rules.specs.Watch.{layout_of}
use Rattle.flat_rules.proofs.lemmas.LayoutRuns.{layout_before_first_present-setup as shop, layout_before_first_present-history as whole}
use Rattle.flat_rules.proofs.lemmas.Runs.{one_fill_one_frame-setup as home, one_fill_one_frame-history as run}
use Rattle.flat_rules.proofs.lemmas.Samples.{s, p, c, by, layout}

-- ---- seats

display-is-told : of_display run ≡ ([] ▹ by Display 13 [] (kind.Begin 1000) reply.Done ▹ by Display 14 [] kind.Finish reply.Done)
display-is-told = refl

display-is-seat-none : of_seat 0 run ≡ of_display run
display-is-seat-none = refl

session-is-its-seat : of_seat 2 whole ≡ own (s 2) whole
session-is-its-seat = refl

-- ---- what is left without replies and lines

without-replies : map but_reply (of_seat 2 ([] ▹ by (Session (s 2)) 9 [] (kind.Get watch.Layout) reply.Held))
    ≡ ([] ▹ by (Session (s 2)) 0 [] (kind.Get watch.Layout) reply.Done)
without-replies = refl

own-moments : family_moments home (λ t. false) (s 1) run
    ≡ (record { entry = by Display 0 [] kind.Finish reply.Done; events = event.FramePresented 1 ∷ [] })
    ∷ (record { entry = by Display 0 [] (kind.Begin 1000) reply.Done; events = event.Credits 5 ∷ [] }) ∷ []
own-moments = refl

-- ---- gets

-- before the second session's get, its get, and what came until it was answered
abbrev before_get : List Entry
before_get = [] ▹ by (Session (s 2)) 8 ((call.CreateView (p 1)) ∷ []) (kind.View (p 1)) reply.Done

abbrev at_get : List Entry
at_get = before_get ▹ by (Session (s 2)) 9 [] (kind.Get watch.Layout) reply.Held

abbrev a_view : List Entry
a_view = [] ▹ by (Session (s 1)) 10 ((call.CreateView (p 0)) ∷ []) (kind.View (p 0)) reply.Done

abbrev a_viewport : List Entry
a_viewport =
    a_view ▹ by (Session (s 1)) 11 ((call.CreateViewport (c 1) (p 1) 60 40 (record { top = 0; right = 0; bottom = 0; left = 0 })) ∷ [])
    (kind.Viewport (p 1) (record { w = 60; h = 40; inset = record { top = 0; right = 0; bottom = 0; left = 0 } })) reply.Done

no-news-at-once : first_news shop (layout_of (p 1)) None at_get [] ≡ None
no-news-at-once = refl

no-news-of-a-view : first_news shop (layout_of (p 1)) None at_get a_view ≡ None
no-news-of-a-view = refl

news-of-a-viewport : first_news shop (layout_of (p 1)) None at_get a_viewport ≡ Some (tell.Layout (layout 60 40 0 0 0 0))
news-of-a-viewport = refl

no-news-twice : first_news shop (layout_of (p 1)) (Some (tell.Layout (layout 60 40 0 0 0 0))) at_get a_viewport ≡ None
no-news-twice = refl

asked-by-the-get : is_asked shop (layout_of (p 1)) before_get ([] ▹ by (Session (s 2)) 9 [] (kind.Get watch.Layout) reply.Held) ≡ true
asked-by-the-get = refl

asked-no-more : is_asked shop (layout_of (p 1)) at_get a_viewport ≡ false
asked-no-more = refl

heard : is_heard shop (layout_of (p 1)) at_get ≡ true
heard = refl

heard-no-more : is_heard shop (layout_of (p 1)) whole ≡ false
heard-no-more = refl
