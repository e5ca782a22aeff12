-- The reports of worked cases of the same names, computed line by line: one session, and a shell with two apps.
use Rattle.std.proofs.Common.{◌≡◌, List, [], ◌∷◌, true, refl}
use Rattle.std.specs.Prelude.{map, codes}
use Rattle.std.specs.Fmt.{digits}
use Rattle.flat_base.specs.declared.ids.Actor.TheVariants.{Display, Session}
use Rattle.flat_scene.specs.declared.calls.Call.TheVariants as call
use Rattle.flat_scene.specs.declared.journal.Entry.{Entry}
use Rattle.flat_scene.specs.declared.journal.EntryKind.TheVariants as kind
use Rattle.flat_scene.specs.declared.journal.Reply.TheVariants as reply
use Rattle.flat_scene.specs.declared.script.DisplayLine.TheVariants as display
use Rattle.flat_scene.specs.declared.script.SessionLine.TheVariants as line
use Rattle.flat_scene.specs.History.{◌▹◌}
use Rattle.flat_places.specs.declared.script.Script.{Script}
use Rattle.flat_rules.proofs.lemmas.Runs.{one_fill_one_frame-setup, one_fill_one_frame-history, one_fill_one_frame-lines, view_without_root_then_poll-setup}
use Rattle.flat_rules.proofs.lemmas.Runs.{view_without_root_then_poll-history, view_without_root_then_poll-lines, second_present_before_a_frame_closes-setup}
use Rattle.flat_rules.proofs.lemmas.Runs.{second_present_before_a_frame_closes-history, second_present_before_a_frame_closes-lines}
use Rattle.flat_rules.proofs.lemmas.Samples.{s, p, by, present, session_line, display_line}
use Rattle.flat_rules.proofs.lemmas.ShellRun.{shell_with_two_apps-setup, shell_with_two_apps-history, shell_with_two_apps-lines}
use Rattle.flat_report.specs.Report.{report_lines}
use Rattle.flat_page.specs.Words.{line_of}

-- one fill one frame

abbrev one_fill_one_frame-script : Script
one_fill_one_frame-script = record {
  version = 1;
  setup = one_fill_one_frame-setup;
  sessions = (codes "A" ∷ []);
  probes = [];
  buffers = [];
  pairs = (codes "t0" ∷ []);
  fences = [];
  lines = one_fill_one_frame-lines;
  count = 14;
}

one_fill_one_frame-report : map line_of (report_lines one_fill_one_frame-script one_fill_one_frame-history [] []) ≡
    codes "report flatland 1"
    ∷ codes "A 6 CreateView ok"
    ∷ codes "A 12 Present 1 credits 0"
    ∷ codes "display 13 begin 1000 frame 1"
    ∷ codes "> A credits 5"
    ∷ codes "display 14 done frame 1"
    ∷ codes "item A 1 fill 255 0 0 255 10 10 m 0 65536 65536 0 0 v 0 0 655360 655360 o 65536 src"
    ∷ codes "view A - 0 0 6553600 6553600"
    ∷ codes "> A framepresented 1"
    ∷ codes "A end 0"
    ∷ codes "report ends entries 5 frames 1"
    ∷ []
unfolding digits
one_fill_one_frame-report = refl

-- view without root then poll

abbrev view_without_root_then_poll-script : Script
view_without_root_then_poll-script = record {
  version = 1;
  setup = view_without_root_then_poll-setup;
  sessions = (codes "A" ∷ []);
  probes = [];
  buffers = [];
  pairs = (codes "t0" ∷ []);
  fences = [];
  lines = view_without_root_then_poll-lines;
  count = 10;
}

view_without_root_then_poll-report : map line_of (report_lines view_without_root_then_poll-script view_without_root_then_poll-history [] []) ≡
    codes "report flatland 1"
    ∷ codes "A 6 CreateView ok"
    ∷ codes "A 7 Present 1 credits 0"
    ∷ codes "display 8 begin 5 frame 1"
    ∷ codes "> A credits 5"
    ∷ codes "display 9 done frame 1"
    ∷ codes "view A - 0 0 6553600 6553600"
    ∷ codes "> A framepresented 1"
    ∷ codes "A 10 Poll 2"
    ∷ codes "A end 0"
    ∷ codes "report ends entries 6 frames 1"
    ∷ []
unfolding digits
view_without_root_then_poll-report = refl

-- a present that has to be shown, and one behind it

abbrev unsquashable-history : List Entry
unsquashable-history = []
    ▹ by (Session (s 1)) 6 ((call.CreateView (p 0)) ∷ []) (kind.View (p 0)) reply.Done
    ▹ by (Session (s 1)) 7 [] (kind.Present (record (present 0 [] []) { unsquashable = true })) (reply.Presented 1 0)
    ▹ by Display 8 [] (kind.Begin 5) reply.Done
    ▹ by Display 9 [] kind.Finish reply.Done
    ▹ by (Session (s 1)) 10 [] (kind.Present (record (present 0 [] []) { unsquashable = true })) (reply.Presented 2 4)
    ▹ by (Session (s 1)) 11 [] (kind.Present (present 0 [] [])) (reply.Presented 3 3)
    ▹ by Display 12 [] (kind.Begin 6) reply.Done
    ▹ by Display 13 [] kind.Finish reply.Done
    ▹ by Display 14 [] (kind.Begin 7) reply.Done
    ▹ by Display 15 [] kind.Finish reply.Done
    ▹ by (Session (s 1)) 16 [] (kind.End 0) reply.Done

abbrev unsquashable-script : Script
unsquashable-script = record {
  version = 2;
  setup = one_fill_one_frame-setup;
  sessions = (codes "A" ∷ []);
  probes = [];
  buffers = [];
  pairs = (codes "t0" ∷ []);
  fences = [];
  lines =
      session_line 6 1 (line.Call (call.CreateView (p 0)))
      ∷ session_line 7 1 (line.Present (record (present 0 [] []) { unsquashable = true }))
      ∷ display_line 8 (display.Begin 5)
      ∷ display_line 9 display.Done
      ∷ session_line 10 1 (line.Present (record (present 0 [] []) { unsquashable = true }))
      ∷ session_line 11 1 (line.Present (present 0 [] []))
      ∷ display_line 12 (display.Begin 6)
      ∷ display_line 13 display.Done
      ∷ display_line 14 (display.Begin 7)
      ∷ display_line 15 display.Done
      ∷ [];
  count = 15;
}

unsquashable-report : map line_of (report_lines unsquashable-script unsquashable-history [] []) ≡
    codes "report flatland 2"
    ∷ codes "A 6 CreateView ok"
    ∷ codes "A 7 Present 1 credits 0"
    ∷ codes "display 8 begin 5 frame 1"
    ∷ codes "> A credits 5"
    ∷ codes "display 9 done frame 1"
    ∷ codes "view A - 0 0 6553600 6553600"
    ∷ codes "> A framepresented 1"
    ∷ codes "A 10 Present 2 credits 4"
    ∷ codes "A 11 Present 3 credits 3"
    ∷ codes "display 12 begin 6 frame 2"
    ∷ codes "> A credits 1"
    ∷ codes "display 13 done frame 2"
    ∷ codes "view A - 0 0 6553600 6553600"
    ∷ codes "> A framepresented 1"
    ∷ codes "display 14 begin 7 frame 3"
    ∷ codes "> A credits 1"
    ∷ codes "display 15 done frame 3"
    ∷ codes "view A - 0 0 6553600 6553600"
    ∷ codes "> A framepresented 1"
    ∷ codes "A end 0"
    ∷ codes "report ends entries 11 frames 3"
    ∷ []
unfolding digits
unsquashable-report = refl

-- second present before a frame closes

abbrev second_present_before_a_frame_closes-script : Script
second_present_before_a_frame_closes-script = record {
  version = 1;
  setup = second_present_before_a_frame_closes-setup;
  sessions = (codes "A" ∷ []);
  probes = [];
  buffers = [];
  pairs = (codes "t0" ∷ []);
  fences = [];
  lines = second_present_before_a_frame_closes-lines;
  count = 9;
}

second_present_before_a_frame_closes-report : map line_of
    (report_lines second_present_before_a_frame_closes-script second_present_before_a_frame_closes-history [] []) ≡
    codes "report flatland 1"
    ∷ codes "A 6 CreateView ok"
    ∷ codes "A 7 Present 1 credits 0"
    ∷ codes "A 8 closed NO_PRESENTS_REMAINING"
    ∷ codes "A end 1"
    ∷ codes "report ends entries 4 frames 0"
    ∷ []
unfolding digits
second_present_before_a_frame_closes-report = refl

-- shell with two apps

abbrev shell_with_two_apps-script : Script
shell_with_two_apps-script = record {
  version = 1;
  setup = shell_with_two_apps-setup;
  sessions = (codes "shell" ∷ codes "mail" ∷ codes "clock" ∷ []);
  probes = [];
  buffers = (codes "mb" ∷ []);
  pairs = (codes "root" ∷ codes "tm" ∷ codes "tc" ∷ []);
  fences = (codes "g1" ∷ codes "g2" ∷ codes "d1" ∷ codes "d2" ∷ []);
  lines = shell_with_two_apps-lines;
  count = 57;
}

shell_with_two_apps-report : map line_of (report_lines shell_with_two_apps-script shell_with_two_apps-history [] []) ≡
    codes "report flatland 1"
    ∷ codes "mail 15 CreateView ok"
    ∷ codes "mail 16 GetLayout held"
    ∷ codes "clock 17 CreateView ok"
    ∷ codes "clock 18 GetStatus held"
    ∷ codes "shell 19 CreateView ok"
    ∷ codes "shell 27 CreateViewport ok"
    ∷ codes "> mail layout tm 640 760 inset 0 0 0 0 ratio 65536"
    ∷ codes "shell 29 CreateViewport ok"
    ∷ codes "> clock status tc disconnected"
    ∷ codes "shell 31 GetChildStatus held"
    ∷ codes "shell 32 Present 1 credits 0"
    ∷ codes "mail 33 Wait met 1"
    ∷ codes "mail 39 Present 1 credits 0"
    ∷ codes "clock 45 Present 1 credits 0"
    ∷ codes "clock 46 GetStatus held"
    ∷ codes "display 47 begin 16 frame 1"
    ∷ codes "> shell credits 5"
    ∷ codes "> clock credits 5"
    ∷ codes "display 48 done frame 1"
    ∷ codes "item clock 1 fill 0 0 0 128 1280 40 m 0 65536 65536 0 0 v 0 0 83886080 2621440 o 65536 over"
    ∷ codes "view shell - 0 0 83886080 52428800"
    ∷ codes "view clock shell 0 0 83886080 2621440"
    ∷ codes "apart mail"
    ∷ codes "> shell framepresented 1"
    ∷ codes "> clock status tc connected"
    ∷ codes "> clock framepresented 1"
    ∷ codes "mail 49 Signal ok"
    ∷ codes "display 50 begin 33 frame 2"
    ∷ codes "> mail credits 5"
    ∷ codes "display 51 done frame 2"
    ∷ codes "item mail 1 image mb 0 sample 0 0 640 760 size 640 760 flip 1 m 0 65536 65536 0 2621440 v 0 2621440 41943040 52428800 o 65536 src"
    ∷ codes "item clock 1 fill 0 0 0 128 1280 40 m 0 65536 65536 0 0 v 0 0 83886080 2621440 o 65536 over"
    ∷ codes "view shell - 0 0 83886080 52428800"
    ∷ codes "view mail shell 0 2621440 41943040 52428800"
    ∷ codes "view clock shell 0 0 83886080 2621440"
    ∷ codes "> shell child tm content_has_presented"
    ∷ codes "> mail framepresented 1"
    ∷ codes "mail 53 Present 2 credits 4"
    ∷ codes "mail 54 Wait met 1"
    ∷ codes "mail 55 Signal ok"
    ∷ codes "display 56 begin 50 frame 3"
    ∷ codes "> mail credits 1"
    ∷ codes "display 57 done frame 3"
    ∷ codes "item mail 2 image mb 1 sample 0 0 640 760 size 640 760 flip 1 m 0 65536 65536 0 2621440 v 0 2621440 41943040 52428800 o 65536 src"
    ∷ codes "item clock 1 fill 0 0 0 128 1280 40 m 0 65536 65536 0 0 v 0 0 83886080 2621440 o 65536 over"
    ∷ codes "view shell - 0 0 83886080 52428800"
    ∷ codes "view mail shell 0 2621440 41943040 52428800"
    ∷ codes "view clock shell 0 0 83886080 2621440"
    ∷ codes "> mail framepresented 1"
    ∷ codes "shell end 0"
    ∷ codes "mail end 0"
    ∷ codes "clock end 0"
    ∷ codes "report ends entries 26 frames 3"
    ∷ []
unfolding digits
shell_with_two_apps-report = refl
