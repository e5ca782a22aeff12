-- Insets and pixel ratios: what a child's layout is told, and where its items, its view and its hits are.
use Rattle.std.proofs.Common.{◌≡◌, ℕ, pos, List, [], ◌∷◌, Option, Some, None, map, refl}
use Rattle.flat_base.specs.declared.shapes.Rect.{Rect}
use Rattle.flat_scene.specs.declared.calls.Call.TheVariants as call
use Rattle.flat_scene.specs.declared.calls.Inset.{Inset}
use Rattle.flat_scene.specs.declared.calls.Interaction.TheVariants.{Default}
use Rattle.flat_scene.specs.declared.frames.Hit.{Hit}
use Rattle.flat_scene.specs.declared.journal.Entry.{Entry}
use Rattle.flat_scene.specs.declared.journal.EntryKind.TheVariants as kind
use Rattle.flat_scene.specs.declared.journal.Reply.TheVariants as reply
use Rattle.flat_scene.specs.declared.journal.WatcherValue.{WatcherValue}
use Rattle.flat_scene.specs.declared.journal.WatcherValue.TheVariants as tell
use Rattle.flat_scene.specs.History.{◌▹◌}
use Rattle.flat_topology.specs.Draw.{draw_list}
use Rattle.flat_topology.specs.Hits.{hit_list}
use Rattle.flat_topology.specs.Shown.{Shown}
use Rattle.flat_topology.specs.Views.{view_nodes}
use Rattle.flat_rules.specs.Watch.{layout_of, told, logical_side}
use Rattle.flat_scene.specs.Draft.{no_inset}
use Rattle.flat_examples.specs.Words.{s, p, c, by_session, by_display, present}
use Rattle.flat_examples.proofs.Scenes.{shown_by, units, fill_view, viewport_view, nested}

abbrev inset : Inset
inset = record { top = 1; right = 2; bottom = 3; left = 4 }

-- session 1 shows a viewport of 30 by 40 at (10, 20), and session 2 a fill of 50 by 50 in it
abbrev scene : Inset → Shown
scene around = shown_by (nested 65536) (viewport_view around ∷ fill_view 1 (pos 0) (pos 0) 50 50 ∷ [])

abbrev items : ℕ → List Rect
items ratio = map (λ item. item.visible) (draw_list (nested ratio) (scene inset))

abbrev bounds : ℕ → List Rect
bounds ratio = map (λ view. view.bounds) (view_nodes (nested ratio) (scene inset))

-- ---- where things are

-- the child's fill is cut by the viewport's rectangle, and the inset plays no part
items_at_one : items 65536 ≡ units 10 20 40 60 ∷ []
items_at_one = refl

same_items : draw_list (nested 65536) (scene inset) ≡ draw_list (nested 65536) (scene no_inset)
same_items = refl

same_views : view_nodes (nested 65536) (scene inset) ≡ view_nodes (nested 65536) (scene no_inset)
same_views = refl

bounds_at_one : bounds 65536 ≡ units 0 0 100 100 ∷ units 10 20 40 60 ∷ []
bounds_at_one = refl

-- at a ratio of 2 all doubles but the display; it cuts items, and no bounds
items_at_two : items 131072 ≡ units 20 40 80 100 ∷ []
items_at_two = refl

bounds_at_two : bounds 131072 ≡ units 0 0 100 100 ∷ units 20 40 80 120 ∷ []
bounds_at_two = refl

-- at a half it halves
items_at_half : items 32768 ≡ units 5 10 20 30 ∷ []
items_at_half = refl

-- ---- what is hit, by points of the display

abbrev hit : ℕ → Hit
hit n = record { session = s n; interaction = Default }

-- inside the viewport the child is hit, and then its parent; the edge to the right is outside
inside : hit_list (nested 65536) (scene inset) (pos 39) (pos 59) ≡ hit 2 ∷ hit 1 ∷ []
inside = refl

beside : hit_list (nested 65536) (scene inset) (pos 40) (pos 59) ≡ hit 1 ∷ []
beside = refl

-- at a ratio of 2 that point is inside, and one unit left of (20, 40) isn't
inside_at_two : hit_list (nested 131072) (scene inset) (pos 40) (pos 59) ≡ hit 2 ∷ hit 1 ∷ []
inside_at_two = refl

beside_at_two : hit_list (nested 131072) (scene inset) (pos 19) (pos 40) ≡ hit 1 ∷ []
beside_at_two = refl

-- ---- what layouts tell

-- both sessions use their ends
abbrev linked : List Entry
linked = []
    ▹ by_session 1 1 (call.CreateView (p 0) ∷ []) (kind.View (p 0)) reply.Done
    ▹ by_session 2 2 (call.CreateView (p 1) ∷ []) (kind.View (p 1)) reply.Done
    ▹ by_session 1 3 (call.CreateViewport (c 1) (p 1) 30 40 inset ∷ []) (kind.Viewport (p 1) (record { w = 30; h = 40; inset = inset })) reply.Done

abbrev layout : ℕ → ℕ → Inset → ℕ → Option WatcherValue
layout w h around ratio = Some (tell.Layout (record { w = w; h = h; inset = around; ratio = ratio }))

-- the child is told size and inset of its viewport as given, with the ratio beside them
child_layout : told (nested 131072) linked (layout_of (p 1)) ≡ layout 30 40 inset 131072
child_layout = refl

-- the outermost view is told the display's size in logical units, without an inset
display_layout : told (nested 131072) linked (layout_of (p 0)) ≡ layout 50 50 no_inset 131072
display_layout = refl

-- a ratio that is set is told from the end of the first frame that began at it
abbrev set : List Entry
set = linked ▹ by_display 4 (kind.Begin 10) ▹ by_display 5 (kind.Dpr 131072) ▹ by_display 6 kind.Finish

frame_of_old_ratio : told (nested 65536) set (layout_of (p 1)) ≡ layout 30 40 inset 65536
frame_of_old_ratio = refl

begin_at_new_ratio : told (nested 65536) (set ▹ by_display 7 (kind.Begin 20)) (layout_of (p 1)) ≡ layout 30 40 inset 65536
begin_at_new_ratio = refl

frame_of_new_ratio : told (nested 65536) (set ▹ by_display 7 (kind.Begin 20) ▹ by_display 8 kind.Finish) (layout_of (p 1)) ≡ layout 30 40 inset 131072
frame_of_new_ratio = refl

-- new properties are told once a frame has taken the present that follows them
abbrev resized : List Entry
resized = linked
    ▹ by_session 1 4 (call.SetViewportProperties (c 1) 60 80 None ∷ []) (kind.Present (present [] [])) (reply.Presented 1 0)
    ▹ by_display 5 (kind.Begin 10)

layout_before_frame : told (nested 65536) resized (layout_of (p 1)) ≡ layout 30 40 inset 65536
layout_before_frame = refl

layout_after_frame : told (nested 65536) (resized ▹ by_display 6 kind.Finish) (layout_of (p 1)) ≡ layout 60 80 inset 65536
layout_after_frame = refl

-- ---- sides in logical units: rounded down, and at least 1

side_of_100_at_3 : logical_side 196608 100 ≡ 33
side_of_100_at_3 = refl

side_of_8_at_16 : logical_side 1048576 8 ≡ 1
side_of_8_at_16 = refl

side_of_100_at_quarter : logical_side 16384 100 ≡ 400
side_of_100_at_quarter = refl
