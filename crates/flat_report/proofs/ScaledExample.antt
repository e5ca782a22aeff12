-- The report of a worked case in which the pixel ratio changes, computed line by line.
use Rattle.std.proofs.Common.{◌≡◌, List, [], ◌∷◌, refl}
use Rattle.std.specs.Prelude.{map, codes}
use Rattle.std.specs.Fmt.{digits}
use Rattle.flat_base.specs.declared.ids.Actor.TheVariants.{Display, Session}
use Rattle.flat_scene.specs.declared.calls.Call.TheVariants as call
use Rattle.flat_scene.specs.declared.calls.Watch.TheVariants as watch
use Rattle.flat_scene.specs.declared.journal.Entry.{Entry}
use Rattle.flat_scene.specs.declared.journal.EntryKind.TheVariants as kind
use Rattle.flat_scene.specs.declared.journal.Reply.TheVariants as reply
use Rattle.flat_scene.specs.declared.journal.WatcherValue.TheVariants as tell
use Rattle.flat_scene.specs.declared.script.DisplayLine.TheVariants as display
use Rattle.flat_scene.specs.declared.script.SessionLine.TheVariants as line
use Rattle.flat_scene.specs.History.{◌▹◌}
use Rattle.flat_places.specs.declared.script.Script.{Script}
use Rattle.flat_rules.proofs.lemmas.Runs.{one_fill_one_frame-setup}
use Rattle.flat_rules.proofs.lemmas.Samples.{s, p, t, c, by, present, layout, session_line, display_line}
use Rattle.flat_report.specs.Report.{report_lines}
use Rattle.flat_page.specs.Words.{line_of}

-- the layout that is told before the frame at the new ratio is finished, and the one behind it

abbrev dpr_of_two-history : List Entry
dpr_of_two-history = []
    ▹ by (Session (s 1)) 6 ((call.CreateView (p 0)) ∷ []) (kind.View (p 0)) reply.Done
    ▹ by (Session (s 1)) 12 ((call.CreateTransform (t 1)) ∷ (call.SetRootTransform (t 1)) ∷ (call.CreateFilledRect (c 2))
    ∷ (call.SetSolidFill (c 2) 255 0 0 255 10 10) ∷ (call.SetContent (t 1) (c 2)) ∷ []) (kind.Present (present 0 [] [])) (reply.Presented 1 0)
    ▹ by Display 13 [] (kind.Dpr 131072) reply.Done
    ▹ by (Session (s 1)) 14 [] (kind.Get watch.Layout) (reply.Now (tell.Layout (layout 100 100 0 0 0 0)))
    ▹ by Display 15 [] (kind.Begin 1000) reply.Done
    ▹ by Display 16 [] kind.Finish reply.Done
    ▹ by (Session (s 1)) 17 [] (kind.Get watch.Layout) (reply.Now (tell.Layout (record (layout 50 50 0 0 0 0) { ratio = 131072 })))
    ▹ by (Session (s 1)) 18 [] (kind.End 0) reply.Done

abbrev dpr_of_two-script : Script
dpr_of_two-script = record {
  version = 3;
  setup = one_fill_one_frame-setup;
  sessions = (codes "A" ∷ []);
  probes = [];
  buffers = [];
  pairs = (codes "t0" ∷ []);
  fences = [];
  lines =
      session_line 6 1 (line.Call (call.CreateView (p 0)))
      ∷ session_line 7 1 (line.Call (call.CreateTransform (t 1)))
      ∷ session_line 8 1 (line.Call (call.SetRootTransform (t 1)))
      ∷ session_line 9 1 (line.Call (call.CreateFilledRect (c 2)))
      ∷ session_line 10 1 (line.Call (call.SetSolidFill (c 2) 255 0 0 255 10 10))
      ∷ session_line 11 1 (line.Call (call.SetContent (t 1) (c 2)))
      ∷ session_line 12 1 (line.Present (present 0 [] []))
      ∷ display_line 13 (display.Dpr 131072)
      ∷ session_line 14 1 (line.Get watch.Layout)
      ∷ display_line 15 (display.Begin 1000)
      ∷ display_line 16 display.Done
      ∷ session_line 17 1 (line.Get watch.Layout)
      ∷ [];
  count = 17;
}

dpr_of_two-report : map line_of (report_lines dpr_of_two-script dpr_of_two-history [] []) ≡
    codes "report flatland 3"
    ∷ codes "A 6 CreateView ok"
    ∷ codes "A 12 Present 1 credits 0"
    ∷ codes "display 13 dpr ok"
    ∷ codes "A 14 GetLayout now 100 100 inset 0 0 0 0 ratio 65536"
    ∷ codes "display 15 begin 1000 frame 1"
    ∷ codes "> A credits 5"
    ∷ codes "display 16 done frame 1"
    ∷ codes "item A 1 fill 255 0 0 255 10 10 m 0 131072 131072 0 0 v 0 0 1310720 1310720 o 65536 src"
    ∷ codes "view A - 0 0 6553600 6553600"
    ∷ codes "> A framepresented 1"
    ∷ codes "A 17 GetLayout now 50 50 inset 0 0 0 0 ratio 131072"
    ∷ codes "A end 0"
    ∷ codes "report ends entries 8 frames 1"
    ∷ []
unfolding digits
dpr_of_two-report = refl
