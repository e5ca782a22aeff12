-- The definitions of the laws, computed on a shell with two applications, and on a session that closes.
use Rattle.std.proofs.Common.{◌≡◌, List, [], ◌∷◌, length, map, refl, true, false, Some, None, lit≤}
use Rattle.std.specs.List.{list_any}
use Rattle.flat_base.specs.declared.ids.Actor.TheVariants.{Display, Session}
use Rattle.flat_scene.specs.declared.calls.Call.TheVariants as call
use Rattle.flat_scene.specs.declared.journal.Entry.{Entry}
use Rattle.flat_scene.specs.declared.journal.EntryKind.TheVariants as kind
use Rattle.flat_scene.specs.declared.journal.Reply.TheVariants as reply
use Rattle.flat_scene.specs.declared.journal.WatcherValue.TheVariants as tell
use Rattle.flat_scene.specs.declared.setup.Setup.{Setup}
use Rattle.flat_scene.specs.Frames.{credits, is_signalled, taken}
use Rattle.flat_scene.specs.History.{◌▹◌}
use Rattle.flat_scene.specs.ViewTrees.{is_node}
use Rattle.flat_rules.specs.Ends.{to_finished, viewport_uses}
use Rattle.flat_rules.specs.Shown.{shown_states}
use Rattle.flat_rules.specs.Watch.{layout_of, told}
use Rattle.flat_scene.specs.Draft.{no_inset}
use Rattle.flat_rules.proofs.lemmas.Samples.{by, f, layout, p, present, s}
use Rattle.flat_rules.proofs.lemmas.ShellRun.{shell_with_two_apps-history, shell_with_two_apps-setup}
use Rattle.flat_laws.specs.Ends.{times_back}
use Rattle.flat_laws.specs.Places.{NodeInViewports, nodes_in_viewports}
use Rattle.flat_laws.specs.Presents.{added_up, credited_by, is_signal_of, presented_by, Takes}
use Rattle.flat_laws.specs.Shows.{props_shown, views_at}

abbrev history : List Entry
history = shell_with_two_apps-history

abbrev begun : List Entry
begun = to_finished history

-- two frames took a present each of session 2, and told it so
presented : added_up shell_with_two_apps-setup presented_by (s 2) history ≡ 2
presented = refl

-- it had one credit, was given six, and made two presents
credited : added_up shell_with_two_apps-setup credited_by (s 2) history ≡ 6
credited = refl

left : credits shell_with_two_apps-setup history (s 2) ≡ 5
left = refl

-- nobody signals fence 2, which its first present releases: the end of the frame does
unnamed : list_any (λ entry. is_signal_of (f 2) entry.kind) history ≡ false
unnamed = refl

released : is_signalled shell_with_two_apps-setup history (f 2) ≡ true
released = refl

-- nodes of the shell have the display's rectangle above them, those of the applications a viewport's too
framed : map (λ (framed : NodeInViewports). length framed.viewports)
    (nodes_in_viewports shell_with_two_apps-setup (shown_states shell_with_two_apps-setup begun))
    ≡ 1 ∷ 1 ∷ 2 ∷ 1 ∷ 2 ∷ []
framed = refl

-- each of the three has a view
viewed : map (is_node (views_at shell_with_two_apps-setup begun)) (s 1 ∷ s 2 ∷ s 3 ∷ s 4 ∷ []) ≡ true ∷ true ∷ true ∷ false ∷ []
viewed = refl

-- the application in the pair 1 was told a layout, which is that of the viewport that the frame shows
told_layout : told shell_with_two_apps-setup history (layout_of (p 1)) ≡ Some (tell.Layout (layout 640 760 0 0 0 0))
told_layout = refl

shown_props : props_shown shell_with_two_apps-setup begun (s 1) (p 1) 1 ≡ Some (record { w = 640; h = 760; inset = no_inset })
shown_props = refl

-- the shell has no second viewport of that pair
no_props : props_shown shell_with_two_apps-setup begun (s 1) (p 1) 2 ≡ None
no_props = refl

-- the shell used the viewport end of the pair 1 once, and its token didn't come back
used : length (viewport_uses (p 1) history) ≡ 1
used = refl

not_back : times_back shell_with_two_apps-setup (p 1) history ≡ 0
not_back = refl

-- ---- a session alone, that closes while a present waits

abbrev alone : Setup
alone = record {
  width = 100;
  height = 100;
  sessions = 1;
  probes = 0;
  pairs = (record { viewport = Display; view = s 1 }) ∷ [];
  buffers = [];
  fences = (record { owners = Session (s 1) ∷ [] }) ∷ [];
  ratio = 65536;
}

-- it presents once, and then twice before the next frame
abbrev twice : List Entry
twice = []
    ▹ by (Session (s 1)) 6 (call.CreateView (p 0) ∷ []) (kind.View (p 0)) reply.Done
    ▹ by (Session (s 1)) 7 [] (kind.Present (present 0 [] [])) (reply.Presented 1 0)
    ▹ by Display 8 [] (kind.Begin 1) reply.Done
    ▹ by Display 9 [] kind.Finish reply.Done
    ▹ by (Session (s 1)) 10 [] (kind.Present (present 0 [] [])) (reply.Presented 2 4)
    ▹ by (Session (s 1)) 11 [] (kind.Present (present 0 [] [])) (reply.Presented 3 3)

abbrev second_begin : Entry
second_begin = by Display 12 [] (kind.Begin 2) reply.Done

-- the second frame takes both presents, so the first of them is never shown
second_taken : Takes alone twice second_begin (s 1) 2
second_taken = record { before_it = lit≤ tt; after_it = lit≤ tt }

third_shown : taken alone (twice ▹ second_begin) (s 1) ≡ 3
third_shown = refl

-- it closes while a present waits that releases fence 0
abbrev closed : List Entry
closed = twice
    ▹ second_begin
    ▹ by Display 13 [] kind.Finish reply.Done
    ▹ by (Session (s 1)) 14 [] (kind.Present (present 1000 [] (f 0 ∷ []))) (reply.Presented 4 4)
    ▹ by (Session (s 1)) 15 [] (kind.Close None) (reply.Closed None None)
    ▹ by Display 16 [] (kind.Begin 3) reply.Done

-- the next frame doesn't take it, and shows nothing of the session
untaken : taken alone closed (s 1) ≡ 3
untaken = refl

unseen : views_at alone closed ≡ []
unseen = refl

-- that frame's end signals the fence
unsignalled : is_signalled alone closed (f 0) ≡ false
unsignalled = refl

signalled : is_signalled alone (closed ▹ by Display 17 [] kind.Finish reply.Done) (f 0) ≡ true
signalled = refl
