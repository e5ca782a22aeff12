-- Scripts and faults, computed.
use Rattle.std.proofs.Common.{◌≡◌, ℕ, true, false, List, [], ◌∷◌, Some, None, Result, Ok, Err, refl, codes, pos, negsuc}
use Rattle.flat_base.specs.declared.ids.Actor.TheVariants.{Display, Session, Probe}
use Rattle.flat_scene.specs.declared.calls.Call.TheVariants as call
use Rattle.flat_scene.specs.declared.calls.Watch.TheVariants as watch
use Rattle.flat_scene.specs.declared.script.WaitCondition.TheVariants as asks
use Rattle.flat_scene.specs.declared.script.SessionLine.TheVariants as line
use Rattle.flat_scene.specs.declared.script.DisplayLine.TheVariants as display
use Rattle.flat_scene.specs.declared.script.ProbeLine.TheVariants as probe
use Rattle.flat_scene.specs.declared.script.LineBody.TheVariants as body
use Rattle.flat_places.specs.Kinds.{number}
use Rattle.flat_places.specs.declared.kinds.FaultKind.TheVariants.{NotAscii, BadHead, UnknownActor, UnknownCall, BadNumber, WrongCount, NotOwner, BadOrder}
use Rattle.flat_places.specs.declared.kinds.FaultKind.TheVariants.{UnknownVersion}
use Rattle.flat_places.specs.declared.script.Script.{Script}
use Rattle.flat_script.specs.declared.script.ScriptFault.{ScriptFault}
use Rattle.flat_script.specs.Grammar.{text_read, IsScript, IsFault}

-- the line and the number of a fault's kind, or 0 and the number of lines
abbrev outcome : Result Script ScriptFault → ℕ × ℕ
outcome (Ok s) = (0, s.count)
outcome (Err f) = (f.line, number f.kind)

-- what the text gives
abbrev gives : List ℕ → ℕ × ℕ
gives text = outcome (text_read text)

-- whole scripts, value by value

one_fill_one_frame : IsScript
    (codes
    "flatland 1\ndisplay 100 100\nsession A\npair t0 display A\nrun\nA CreateView t0\nA CreateTransform 1\nA SetRootTransform 1\nA CreateFilledRect 2\nA SetSolidFill 2 255 0 0 255 10 10\nA SetContent 1 2\nA Present 0\ndisplay begin 1000\ndisplay done\n") (record {
      version = 1;
      setup = record {
        width = 100;
        height = 100;
        sessions = 1;
        probes = 0;
        pairs = record { viewport = Display; view = record { 0 = 1 } } ∷ [];
        buffers = [];
        fences = [];
        ratio = 65536;
      };
      sessions = codes "A" ∷ [];
      probes = [];
      buffers = [];
      pairs = codes "t0" ∷ [];
      fences = [];
      lines =
          record { number = 6; actor = Session (record { 0 = 1 }); body = body.Session (line.Call (call.CreateView (record { 0 = 0 }))) } ∷
          record { number = 7; actor = Session (record { 0 = 1 }); body = body.Session (line.Call (call.CreateTransform (record { 0 = 1 }))) } ∷
          record { number = 8; actor = Session (record { 0 = 1 }); body = body.Session (line.Call (call.SetRootTransform (record { 0 = 1 }))) } ∷
          record { number = 9; actor = Session (record { 0 = 1 }); body = body.Session (line.Call (call.CreateFilledRect (record { 0 = 2 }))) } ∷
          record { number = 10; actor = Session (record { 0 = 1 }); body = body.Session (line.Call (call.SetSolidFill (record { 0 = 2 }) 255 0 0 255 10 10)) } ∷
          record { number = 11; actor = Session (record { 0 = 1 }); body = body.Session (line.Call (call.SetContent (record { 0 = 1 }) (record { 0 = 2 }))) } ∷
          record {
            number = 12;
            actor = Session (record { 0 = 1 });
            body = body.Session (line.Present (record { time = 0; acquire = []; release = []; unsquashable = false }));
          } ∷
          record { number = 13; actor = Display; body = body.Display (display.Begin 1000) } ∷
          record { number = 14; actor = Display; body = body.Display display.Done } ∷ [];
      count = 14;
    })
one_fill_one_frame = refl

signs_and_skipped_lines : IsScript (codes "# a comment\nflatland 1\ndisplay 100 90\nsession A\n\npair t0 display A\nrun\nA SetTranslation 7 -5 40\n") (record {
  version = 1;
  setup = record {
    width = 100;
    height = 90;
    sessions = 1;
    probes = 0;
    pairs = record { viewport = Display; view = record { 0 = 1 } } ∷ [];
    buffers = [];
    fences = [];
    ratio = 65536;
  };
  sessions = codes "A" ∷ [];
  probes = [];
  buffers = [];
  pairs = codes "t0" ∷ [];
  fences = [];
  lines = record {
    number = 8;
    actor = Session (record { 0 = 1 });
    body = body.Session (line.Call (call.SetTranslation (record { 0 = 7 }) (negsuc 4) (pos 40)));
  } ∷ [];
  count = 8;
})
signs_and_skipped_lines = refl

a_probe_and_its_lines : IsScript (codes "flatland 1\ndisplay 100 90\nsession A\npair t0 display A\nprobe eye\nrun\neye hit -1 40\neye await 2\n") (record {
  version = 1;
  setup = record {
    width = 100;
    height = 90;
    sessions = 1;
    probes = 1;
    pairs = record { viewport = Display; view = record { 0 = 1 } } ∷ [];
    buffers = [];
    fences = [];
    ratio = 65536;
  };
  sessions = codes "A" ∷ [];
  probes = codes "eye" ∷ [];
  buffers = [];
  pairs = codes "t0" ∷ [];
  fences = [];
  lines =
      record { number = 7; actor = Probe 0; body = body.Probe (probe.Hit (negsuc 0) (pos 40)) } ∷
      record { number = 8; actor = Probe 0; body = body.Probe (probe.Await 2) } ∷ [];
  count = 8;
})
a_probe_and_its_lines = refl

viewports_gets_and_points : IsScript
    (codes
    "flatland 1\ndisplay 9 9\nsession A\npair t0 display A\npair t1 A A\nrun\nA CreateViewport 1 t1 5 6\nA CreateViewport 2 t1 5 6 0 1 2 65536\nA SetViewportProperties 1 7 8\nA SetViewportProperties 1 7 8 0 0 0 0\nA ReleaseViewport 1\nA GetLayout\nA GetStatus\nA GetChildStatus 2\nA Wait answers 3\ndisplay hit -1 4\n") (record {
      version = 1;
      setup = record {
        width = 9;
        height = 9;
        sessions = 1;
        probes = 0;
        pairs = record { viewport = Display; view = record { 0 = 1 } } ∷ record { viewport = Session (record { 0 = 1 }); view = record { 0 = 1 } } ∷ [];
        buffers =
            [];
        fences = [];
        ratio = 65536;
      };
      sessions = codes "A" ∷ [];
      probes = [];
      buffers = [];
      pairs = codes "t0" ∷ codes "t1" ∷ [];
      fences = [];
      lines =
          record {
            number = 7;
            actor = Session (record { 0 = 1 });
            body = body.Session (line.Call (call.CreateViewport (record { 0 = 1 }) (record { 0 = 1 }) 5 6
                (record { top = 0; right = 0; bottom = 0; left = 0 })));
          } ∷
          record {
            number = 8;
            actor = Session (record { 0 = 1 });
            body = body.Session (line.Call (call.CreateViewport (record { 0 = 2 }) (record { 0 = 1 }) 5 6
                (record { top = 0; right = 1; bottom = 2; left = 65536 })));
          } ∷
          record { number = 9; actor = Session (record { 0 = 1 }); body = body.Session (line.Call (call.SetViewportProperties (record { 0 = 1 }) 7 8 None)) } ∷
          record {
            number = 10;
            actor = Session (record { 0 = 1 });
            body = body.Session (line.Call (call.SetViewportProperties (record { 0 = 1 }) 7 8 (Some (record { top = 0; right = 0; bottom = 0; left = 0 }))));
          } ∷
          record { number = 11; actor = Session (record { 0 = 1 }); body = body.Session (line.Call (call.ReleaseViewport (record { 0 = 1 }))) } ∷
          record { number = 12; actor = Session (record { 0 = 1 }); body = body.Session (line.Get watch.Layout) } ∷
          record { number = 13; actor = Session (record { 0 = 1 }); body = body.Session (line.Get watch.Status) } ∷
          record { number = 14; actor = Session (record { 0 = 1 }); body = body.Session (line.Get (watch.Child (record { 0 = 2 }))) } ∷
          record { number = 15; actor = Session (record { 0 = 1 }); body = body.Session (line.Wait (asks.Answers 3)) } ∷
          record { number = 16; actor = Display; body = body.Display (display.Hit (negsuc 0) (pos 4)) } ∷ [];
      count = 16;
    })
viewports_gets_and_points = refl

-- faults

dpr_in_version_one : IsFault (codes "flatland 1\ndisplay 100 100\nsession A\npair t0 display A\nrun\ndisplay dpr 65536\n")
    (record { line = 6; kind = UnknownCall })
dpr_in_version_one = refl

first_bad_line_decides : IsFault (codes "flatland 1\ndisplay 100 100\nsession A\npair t0 display A\nrun\nA Fly\nZ Fly\n")
    (record { line = 6; kind = UnknownCall })
first_bad_line_decides = refl

kind_10_view_of_another : IsFault (codes "flatland 1\ndisplay 100 100\nsession A\nsession B\npair t0 display A\npair t1 A B\nrun\nA CreateView t1\n")
    (record { line = 8; kind = NotOwner })
kind_10_view_of_another = refl

kind_12_begin_inside_a_frame : IsFault
    (codes "flatland 1\ndisplay 100 100\nsession A\npair t0 display A\nrun\ndisplay begin 1\ndisplay begin 1\ndisplay done\n")
    (record { line = 7; kind = BadOrder })
kind_12_begin_inside_a_frame = refl

kind_12_done_without_begin : IsFault (codes "flatland 1\ndisplay 100 100\nsession A\npair t0 display A\nrun\ndisplay done\n")
    (record { line = 6; kind = BadOrder })
kind_12_done_without_begin = refl

kind_12_text_ends_in_a_frame : IsFault (codes "flatland 1\ndisplay 100 100\nsession A\npair t0 display A\nrun\ndisplay begin 2\n")
    (record { line = 7; kind = BadOrder })
kind_12_text_ends_in_a_frame = refl

kind_12_time_falls : IsFault
    (codes "flatland 1\ndisplay 100 100\nsession A\npair t0 display A\nrun\ndisplay begin 2\ndisplay done\ndisplay begin 1\ndisplay done\n")
    (record { line = 8; kind = BadOrder })
kind_12_time_falls = refl

kind_2_carriage_return : IsFault (codes "flatland 1\r\ndisplay 100 100\r\nsession A\r\npair t0 display A\r\nrun\r\n") (record { line = 1; kind = NotAscii })
kind_2_carriage_return = refl

kind_4_before_7 : IsFault (codes "flatland 1\ndisplay 100 100\ndisplay 0 100\nsession A\npair t0 display A\nrun\n") (record { line = 3; kind = BadHead })
kind_4_before_7 = refl

kind_4_empty_text : IsFault (codes "") (record { line = 1; kind = BadHead })
kind_4_empty_text = refl

kind_4_first_word : IsFault (codes "display 100 100\nflatland 1\nsession A\npair t0 display A\nrun\n") (record { line = 1; kind = BadHead })
kind_4_first_word = refl

kind_4_no_session : IsFault (codes "flatland 1\ndisplay 100 100\nrun\n") (record { line = 3; kind = BadHead })
kind_4_no_session = refl

kind_4_text_ends_in_the_head : IsFault (codes "flatland 1\ndisplay 100 100\nsession A\npair t0 display A\n") (record { line = 5; kind = BadHead })
kind_4_text_ends_in_the_head = refl

kind_5_before_6 : IsFault (codes "flatland 1\ndisplay 100 100\nsession A\npair t0 display A\nrun\nZ Fly\n") (record { line = 6; kind = UnknownActor })
kind_5_before_6 = refl

kind_6_actor_alone : IsFault (codes "flatland 1\ndisplay 100 100\nsession A\npair t0 display A\nrun\nA\n") (record { line = 6; kind = UnknownCall })
kind_6_actor_alone = refl

kind_6_before_7 : IsFault (codes "flatland 1\ndisplay 100 100\nsession A\npair t0 display A\nrun\nA Wait colours x\n") (record { line = 6; kind = UnknownCall })
kind_6_before_7 = refl

kind_6_two_spaces : IsFault (codes "flatland 1\ndisplay 100 100\nsession A\npair t0 display A\nrun\nA  Clear\n") (record { line = 6; kind = UnknownCall })
kind_6_two_spaces = refl

kind_7_before_8 : IsFault (codes "flatland 1\ndisplay 100 100\nsession A\npair t0 display A\nrun\nA CreateTransform 01 2\n")
    (record { line = 6; kind = BadNumber })
kind_7_before_8 = refl

kind_7_minus_zero : IsFault (codes "flatland 1\ndisplay 100 100\nsession A\npair t0 display A\nrun\nA SetTranslation 1 -0 0\n")
    (record { line = 6; kind = BadNumber })
kind_7_minus_zero = refl

kind_7_time_too_great : IsFault (codes "flatland 1\ndisplay 100 100\nsession A\npair t0 display A\nrun\nA Present 9223372036854775808\n")
    (record { line = 6; kind = BadNumber })
kind_7_time_too_great = refl

kind_8_before_9 : IsFault (codes "flatland 1\ndisplay 100 100\nsession A\npair t0 display A\nrun\nA CreateView t9 t0\n")
    (record { line = 6; kind = WrongCount })
kind_8_before_9 = refl

kind_8_missing_number : IsFault (codes "flatland 1\ndisplay 100 100\nsession A\npair t0 display A\nrun\nA CreateTransform\n")
    (record { line = 6; kind = WrongCount })
kind_8_missing_number = refl

kind_8_space_at_the_end : IsFault (codes "flatland 1\ndisplay 100 100\nsession A\npair t0 display A\nrun\nA Clear \n") (record { line = 6; kind = WrongCount })
kind_8_space_at_the_end = refl

ratio_in_version_one_head : IsFault (codes "flatland 1\ndisplay 100 100 65536\nsession A\npair t0 display A\nrun\n") (record { line = 2; kind = WrongCount })
ratio_in_version_one_head = refl

replace_children_in_version_one : IsFault (codes "flatland 1\ndisplay 100 100\nsession A\npair t0 display A\nrun\nA CreateTransform 1\nA ReplaceChildren 1\n")
    (record { line = 7; kind = UnknownCall })
replace_children_in_version_one = refl

unsquashable_in_version_one : IsFault (codes "flatland 1\ndisplay 100 100\nsession A\npair t0 display A\nrun\nA Present 0 unsquashable\n")
    (record { line = 6; kind = WrongCount })
unsquashable_in_version_one = refl

version_four : IsFault (codes "flatland 4\ndisplay 100 100\nsession A\npair t0 display A\nrun\n") (record { line = 1; kind = UnknownVersion })
version_four = refl

version_zero : IsFault (codes "flatland 0\ndisplay 100 100\nsession A\npair t0 display A\nrun\n") (record { line = 1; kind = UnknownVersion })
version_zero = refl

-- the second version

words_of_the_second_version : IsScript
    (codes
    "flatland 2\ndisplay 100 90\nsession A\npair t0 display A\nfence f A\nrun\nA Present 0 unsquashable\nA Present 0 unsquashable acquire f\nA Present 1\nA ReplaceChildren 1\nA ReplaceChildren 1 3 2\n") (record {
      version = 2;
      setup = record {
        width = 100;
        height = 90;
        sessions = 1;
        probes = 0;
        pairs = record { viewport = Display; view = record { 0 = 1 } } ∷ [];
        buffers = [];
        fences = record { owners = Session (record { 0 = 1 }) ∷ [] } ∷ [];
        ratio = 65536;
      };
      sessions = codes "A" ∷ [];
      probes = [];
      buffers = [];
      pairs = codes "t0" ∷ [];
      fences = codes "f" ∷ [];
      lines =
          record {
            number = 7;
            actor = Session (record { 0 = 1 });
            body = body.Session (line.Present (record { time = 0; acquire = []; release = []; unsquashable = true }));
          } ∷
          record {
            number = 8;
            actor = Session (record { 0 = 1 });
            body = body.Session (line.Present (record { time = 0; acquire = record { 0 = 0 } ∷ []; release = []; unsquashable = true }));
          } ∷
          record {
            number = 9;
            actor = Session (record { 0 = 1 });
            body = body.Session (line.Present (record { time = 1; acquire = []; release = []; unsquashable = false }));
          } ∷
          record { number = 10; actor = Session (record { 0 = 1 }); body = body.Session (line.Call (call.ReplaceChildren (record { 0 = 1 }) [])) } ∷
          record {
            number = 11;
            actor = Session (record { 0 = 1 });
            body = body.Session (line.Call (call.ReplaceChildren (record { 0 = 1 }) (record { 0 = 3 } ∷ record { 0 = 2 } ∷ [])));
          } ∷ [];
      count = 11;
    })
words_of_the_second_version = refl

number_behind_unsquashable : IsFault (codes "flatland 2\ndisplay 100 100\nsession A\npair t0 display A\nrun\nA Present 0 unsquashable 5\n")
    (record { line = 6; kind = WrongCount })
number_behind_unsquashable = refl

unsquashable_twice : IsFault (codes "flatland 2\ndisplay 100 100\nsession A\npair t0 display A\nrun\nA Present 0 unsquashable unsquashable\n")
    (record { line = 6; kind = WrongCount })
unsquashable_twice = refl

unsquashable_for_the_time : IsFault (codes "flatland 2\ndisplay 100 100\nsession A\npair t0 display A\nrun\nA Present unsquashable\n")
    (record { line = 6; kind = BadNumber })
unsquashable_for_the_time = refl

other_word_behind_the_time_in_version_two : IsFault (codes "flatland 2\ndisplay 100 100\nsession A\npair t0 display A\nrun\nA Present 0 5\n")
    (record { line = 6; kind = WrongCount })
other_word_behind_the_time_in_version_two = refl

empty_acquire_in_version_two : IsFault (codes "flatland 2\ndisplay 100 100\nsession A\npair t0 display A\nrun\nA Present 0 unsquashable acquire\n")
    (record { line = 6; kind = WrongCount })
empty_acquire_in_version_two = refl

unsquashable_behind_a_list : gives (codes "flatland 2\ndisplay 100 100\nsession A\npair t0 display A\nfence f A\nrun\nA Present 0 acquire f unsquashable\n")
    ≡ (7, 9)
unsquashable_behind_a_list = refl

children_of_no_transform : IsFault (codes "flatland 2\ndisplay 100 100\nsession A\npair t0 display A\nrun\nA ReplaceChildren\n")
    (record { line = 6; kind = WrongCount })
children_of_no_transform = refl

child_beyond_64_bits : IsFault (codes "flatland 2\ndisplay 100 100\nsession A\npair t0 display A\nrun\nA ReplaceChildren 1 2 18446744073709551616\n")
    (record { line = 6; kind = BadNumber })
child_beyond_64_bits = refl

fence_named_unsquashable : gives
    (codes "flatland 2\ndisplay 100 100\nsession A\npair t0 display A\nfence unsquashable A\nrun\nA Present 0 unsquashable acquire unsquashable\n") ≡ (0, 7)
fence_named_unsquashable = refl

-- the whole grammar of the first version

shell_with_two_apps : gives
    (codes
    "flatland 1\ndisplay 1280 800\nsession shell\nsession mail\nsession clock\nbuffers mb mail 2 640 760\npair root display shell\npair tm shell mail\npair tc shell clock\nfence g1 mail\nfence g2 mail\nfence d1 mail\nfence d2 mail\nrun\nmail CreateView tm\nmail GetLayout\nclock CreateView tc\nclock GetStatus\nshell CreateView root\nshell CreateTransform 1\nshell SetRootTransform 1\nshell CreateTransform 2\nshell SetTranslation 2 0 40\nshell CreateTransform 3\nshell AddChild 1 2\nshell AddChild 1 3\nshell CreateViewport 1 tm 640 760\nshell SetContent 2 1\nshell CreateViewport 2 tc 1280 40\nshell SetContent 3 2\nshell GetChildStatus 1\nshell Present 0\nmail Wait answers 1\nmail CreateTransform 1\nmail SetRootTransform 1\nmail CreateImage 1 mb 0 640 760\nmail CreateImage 2 mb 1 640 760\nmail SetContent 1 1\nmail Present 0 acquire g1 release d1\nclock CreateTransform 1\nclock SetRootTransform 1\nclock CreateFilledRect 1\nclock SetSolidFill 1 0 0 0 128 1280 40\nclock SetContent 1 1\nclock Present 0\nclock GetStatus\ndisplay begin 16\ndisplay done\nmail Signal g1\ndisplay begin 33\ndisplay done\nmail SetContent 1 2\nmail Present 0 acquire g2 release d2\nmail Wait fence d1\nmail Signal g2\ndisplay begin 50\ndisplay done\n") ≡ (0, 57)
shell_with_two_apps = refl

every_line_of_a_session : gives
    (codes
    "flatland 1\ndisplay 100 100\nsession A\nsession B\npair t0 display A\npair t1 A B\nfence f A display\nprobe P\nbuffers b B 2 8 8\nrun\nA SetOrientation 1 4\nA SetScale 1 0 4294967295\nA SetOpacity 1 65537\nA SetClipBoundary 1\nA SetClipBoundary 1 -1 0 5 5\nA CreateViewport 1 t1 9 9\nA CreateViewport 1 t1 9 9 0 0 0 65536\nA SetViewportProperties 1 9 9\nA ReleaseViewport 1\nB CreateImage 1 b 7 8 8\nB SetImageSampleRegion 1 0 0 8 8\nB SetImageDestinationSize 1 9 9\nB SetImageBlendingFunction 1 2\nB SetImageFlip 1 3\nB SetImageOpacity 1 0\nB ReleaseImage 1\nA GetLayout\nA GetStatus\nA GetChildStatus 1\nA Signal f\nA Poll\nA Wait frames 1\nA Wait credits 1\nA Wait taken 1\nA Wait answers 1\nA Wait fence f\nA Present 0 acquire f f release f\nA Present 1 release f\nA Disconnect\n") ≡ (0, 39)
every_line_of_a_session = refl

every_line_of_the_display_and_of_a_probe : gives (codes
    "flatland 1\ndisplay 100 100\nsession A\nsession B\npair t0 display A\npair t1 A B\nfence f A display\nprobe P\nbuffers b B 2 8 8\nrun\ndisplay Signal f\ndisplay Wait presents B 2\ndisplay Wait fence f\ndisplay hit -1 2147483647\nP hit 0 -2147483648\nP await 3\n") ≡ (0, 16)
every_line_of_the_display_and_of_a_probe = refl

viewport_of_another : gives
    (codes
    "flatland 1\ndisplay 100 100\nsession A\nsession B\npair t0 display A\npair t1 A B\nfence f A display\nprobe P\nbuffers b B 2 8 8\nrun\nB CreateViewport 1 t1 9 9\n") ≡ (11, 10)
viewport_of_another = refl

viewport_of_the_display : gives
    (codes
    "flatland 1\ndisplay 100 100\nsession A\nsession B\npair t0 display A\npair t1 A B\nfence f A display\nprobe P\nbuffers b B 2 8 8\nrun\nA CreateViewport 1 t0 9 9\n") ≡ (11, 10)
viewport_of_the_display = refl

fence_of_others : gives
    (codes
    "flatland 1\ndisplay 100 100\nsession A\nsession B\npair t0 display A\npair t1 A B\nfence f A display\nprobe P\nbuffers b B 2 8 8\nrun\nB Present 0 acquire f\n") ≡ (11, 10)
fence_of_others = refl

buffers_of_another : gives
    (codes
    "flatland 1\ndisplay 100 100\nsession A\nsession B\npair t0 display A\npair t1 A B\nfence f A display\nprobe P\nbuffers b B 2 8 8\nrun\nA CreateImage 1 b 0 8 8\n") ≡ (11, 10)
buffers_of_another = refl

clip_number_then_missing_words : gives
    (codes
    "flatland 1\ndisplay 100 100\nsession A\nsession B\npair t0 display A\npair t1 A B\nfence f A display\nprobe P\nbuffers b B 2 8 8\nrun\nA SetClipBoundary 1 x\n") ≡ (11, 7)
clip_number_then_missing_words = refl

clip_with_missing_words : gives
    (codes
    "flatland 1\ndisplay 100 100\nsession A\nsession B\npair t0 display A\npair t1 A B\nfence f A display\nprobe P\nbuffers b B 2 8 8\nrun\nA SetClipBoundary 1 2 3\n") ≡ (11, 8)
clip_with_missing_words = refl

inset_too_great : gives
    (codes
    "flatland 1\ndisplay 100 100\nsession A\nsession B\npair t0 display A\npair t1 A B\nfence f A display\nprobe P\nbuffers b B 2 8 8\nrun\nA CreateViewport 1 t1 9 9 0 0 0 65537\n") ≡ (11, 7)
inset_too_great = refl

acquire_for_the_time : gives
    (codes
    "flatland 1\ndisplay 100 100\nsession A\nsession B\npair t0 display A\npair t1 A B\nfence f A display\nprobe P\nbuffers b B 2 8 8\nrun\nA Present acquire f\n") ≡ (11, 7)
acquire_for_the_time = refl

release_before_acquire : gives
    (codes
    "flatland 1\ndisplay 100 100\nsession A\nsession B\npair t0 display A\npair t1 A B\nfence f A display\nprobe P\nbuffers b B 2 8 8\nrun\nA Present 0 release f acquire f\n") ≡ (11, 9)
release_before_acquire = refl

acquire_twice : gives
    (codes
    "flatland 1\ndisplay 100 100\nsession A\nsession B\npair t0 display A\npair t1 A B\nfence f A display\nprobe P\nbuffers b B 2 8 8\nrun\nA Present 0 acquire f acquire f\n") ≡ (11, 9)
acquire_twice = refl

empty_acquire : gives
    (codes
    "flatland 1\ndisplay 100 100\nsession A\nsession B\npair t0 display A\npair t1 A B\nfence f A display\nprobe P\nbuffers b B 2 8 8\nrun\nA Present 0 acquire release f\n") ≡ (11, 8)
empty_acquire = refl

other_word_behind_the_time : gives
    (codes
    "flatland 1\ndisplay 100 100\nsession A\nsession B\npair t0 display A\npair t1 A B\nfence f A display\nprobe P\nbuffers b B 2 8 8\nrun\nA Present 0 f\n")
    ≡ (11, 8)
other_word_behind_the_time = refl

no_condition : gives
    (codes "flatland 1\ndisplay 100 100\nsession A\nsession B\npair t0 display A\npair t1 A B\nfence f A display\nprobe P\nbuffers b B 2 8 8\nrun\nA Wait\n")
    ≡ (11, 6)
no_condition = refl

condition_of_the_display : gives
    (codes
    "flatland 1\ndisplay 100 100\nsession A\nsession B\npair t0 display A\npair t1 A B\nfence f A display\nprobe P\nbuffers b B 2 8 8\nrun\nA Wait presents A 1\n") ≡ (11, 6)
condition_of_the_display = refl

wait_for_a_fence_of_others : gives
    (codes
    "flatland 1\ndisplay 100 100\nsession A\nsession B\npair t0 display A\npair t1 A B\nfence f A display\nprobe P\nbuffers b B 2 8 8\nrun\nB Wait fence f\n")
    ≡ (11, 10)
wait_for_a_fence_of_others = refl

presents_of_no_session : gives
    (codes
    "flatland 1\ndisplay 100 100\nsession A\nsession B\npair t0 display A\npair t1 A B\nfence f A display\nprobe P\nbuffers b B 2 8 8\nrun\ndisplay Wait presents display 1\n") ≡ (11, 9)
presents_of_no_session = refl

orientation_of_five : gives
    (codes
    "flatland 1\ndisplay 100 100\nsession A\nsession B\npair t0 display A\npair t1 A B\nfence f A display\nprobe P\nbuffers b B 2 8 8\nrun\nA SetOrientation 1 5\n") ≡ (11, 7)
orientation_of_five = refl

flip_of_zero : gives
    (codes
    "flatland 1\ndisplay 100 100\nsession A\nsession B\npair t0 display A\npair t1 A B\nfence f A display\nprobe P\nbuffers b B 2 8 8\nrun\nB SetImageFlip 1 0\n") ≡ (11, 7)
flip_of_zero = refl

call_of_a_probe : gives
    (codes "flatland 1\ndisplay 100 100\nsession A\nsession B\npair t0 display A\npair t1 A B\nfence f A display\nprobe P\nbuffers b B 2 8 8\nrun\nP Poll\n")
    ≡ (11, 6)
call_of_a_probe = refl

name_of_a_pair_as_actor : gives
    (codes "flatland 1\ndisplay 100 100\nsession A\nsession B\npair t0 display A\npair t1 A B\nfence f A display\nprobe P\nbuffers b B 2 8 8\nrun\nt0 Poll\n")
    ≡ (11, 5)
name_of_a_pair_as_actor = refl

-- probes

ninth_probe : gives (codes "flatland 1\nprobe a\nprobe b\nprobe c\nprobe d\nprobe e\nprobe f\nprobe g\nprobe h\nprobe i\n") ≡ (10, 11)
ninth_probe = refl

ninth_probe_of_a_name_in_use : gives (codes "flatland 1\nprobe a\nprobe b\nprobe c\nprobe d\nprobe e\nprobe f\nprobe g\nprobe h\nprobe a\n") ≡ (10, 4)
ninth_probe_of_a_name_in_use = refl

session_named_as_a_probe : gives (codes "flatland 1\nprobe P\nsession P\n") ≡ (3, 4)
session_named_as_a_probe = refl

probe_named_display : gives (codes "flatland 1\nprobe display\n") ≡ (2, 4)
probe_named_display = refl

probe_and_a_word : gives (codes "flatland 1\nprobe P 1\n") ≡ (2, 8)
probe_and_a_word = refl

fence_of_a_probe : gives (codes "flatland 1\nprobe P\nfence f P\n") ≡ (3, 9)
fence_of_a_probe = refl

pair_of_a_probe : gives (codes "flatland 1\nsession A\nprobe P\npair t P A\n") ≡ (4, 9)
pair_of_a_probe = refl

await_without_a_number : gives (codes "flatland 1\ndisplay 9 9\nsession A\npair t display A\nprobe P\nrun\nP await\n") ≡ (7, 8)
await_without_a_number = refl

await_beyond_32_bits : gives (codes "flatland 1\ndisplay 9 9\nsession A\npair t display A\nprobe P\nrun\nP await 4294967296\n") ≡ (7, 7)
await_beyond_32_bits = refl

await_of_a_session : gives (codes "flatland 1\ndisplay 9 9\nsession A\npair t display A\nprobe P\nrun\nA await 1\n") ≡ (7, 6)
await_of_a_session = refl

-- settled points of the head and the body

version_no_number : gives (codes "flatland x y\n") ≡ (1, 7)
version_no_number = refl

version_beyond_32_bits : gives (codes "flatland 4294967296\n") ≡ (1, 7)
version_beyond_32_bits = refl

version_and_a_word_too_many : gives (codes "flatland 2 2\n") ≡ (1, 8)
version_and_a_word_too_many = refl

second_version_line : gives (codes "flatland 1\nflatland 1\n") ≡ (2, 4)
second_version_line = refl

side_of_zero : gives (codes "flatland 1\ndisplay 0 5 7\n") ≡ (2, 7)
side_of_zero = refl

third_word_of_a_size : gives (codes "flatland 1\ndisplay 5 5 x\n") ≡ (2, 8)
third_word_of_a_size = refl

spaces_in_the_head : gives (codes "flatland 1\n  \n") ≡ (2, 4)
spaces_in_the_head = refl

spaces_in_the_body : gives (codes "flatland 1\ndisplay 100 100\nsession A\npair t0 display A\nrun\n  \n") ≡ (6, 5)
spaces_in_the_body = refl

second_pair_of_the_display : gives (codes "flatland 1\ndisplay 100 100\nsession A\npair t0 display A\npair t1 display\n") ≡ (5, 4)
second_pair_of_the_display = refl

view_end_of_the_display : gives (codes "flatland 1\ndisplay 100 100\nsession A\npair t0 display A\npair t1 A display\n") ≡ (5, 9)
view_end_of_the_display = refl

name_declared_twice : gives (codes "flatland 1\ndisplay 100 100\nsession A\npair t0 display A\nfence A A\n") ≡ (5, 4)
name_declared_twice = refl

name_of_seventeen : gives (codes "flatland 1\ndisplay 100 100\nsession A\npair t0 display A\nsession abcdefghijklmnopq\n") ≡ (5, 4)
name_of_seventeen = refl

name_of_sixteen : gives (codes "flatland 1\ndisplay 100 100\nsession A\npair t0 display A\nsession abcdefghijklmnop\nrun\n") ≡ (0, 6)
name_of_sixteen = refl

reserved_name : gives (codes "flatland 1\ndisplay 100 100\nsession A\npair t0 display A\nsession release\n") ≡ (5, 4)
reserved_name = refl

owner_of_no_session : gives (codes "flatland 1\ndisplay 100 100\nsession A\npair t0 display A\nfence f A t0\n") ≡ (5, 9)
owner_of_no_session = refl

owner_twice : gives (codes "flatland 1\ndisplay 100 100\nsession A\npair t0 display A\nfence f A A display\nrun\n") ≡ (0, 6)
owner_twice = refl

no_owner : gives (codes "flatland 1\ndisplay 100 100\nsession A\npair t0 display A\nfence f\n") ≡ (5, 8)
no_owner = refl

buffers_of_65 : gives (codes "flatland 1\ndisplay 100 100\nsession A\npair t0 display A\nbuffers b A 65 1 1\n") ≡ (5, 7)
buffers_of_65 = refl

run_and_a_word : gives (codes "flatland 1\ndisplay 100 100\nsession A\npair t0 display A\nrun 1\n") ≡ (5, 8)
run_and_a_word = refl

run_too_early : gives (codes "flatland 1\nrun 1\n") ≡ (2, 4)
run_too_early = refl

no_line_feed_at_the_end : gives
    (codes "flatland 1\ndisplay 100 100\nsession A\npair t0 display A\nrun\nA SetHitRegions 1\nA SetHitRegions 1 0 0 1 1 0 -5 0 1 1 1") ≡ (0, 7)
no_line_feed_at_the_end = refl

regions_of_four_words : gives (codes "flatland 1\ndisplay 100 100\nsession A\npair t0 display A\nrun\nA SetHitRegions 1 0 0 1 1\n") ≡ (6, 8)
regions_of_four_words = refl

interaction_of_two : gives (codes "flatland 1\ndisplay 100 100\nsession A\npair t0 display A\nrun\nA SetHitRegions 1 0 0 1 1 2\n") ≡ (6, 7)
interaction_of_two = refl

begin_with_a_bad_time_inside_a_frame : gives (codes "flatland 1\ndisplay 100 100\nsession A\npair t0 display A\nrun\ndisplay begin 5\ndisplay begin x\n")
    ≡ (7, 7)
begin_with_a_bad_time_inside_a_frame = refl

-- the third version

words_of_the_third_version : IsScript
    (codes "flatland 3\ndisplay 100 90 131072\nsession A\npair t0 display A\nrun\ndisplay dpr 16384\nA Present 0 unsquashable\n") (record {
      version = 3;
      setup = record {
        width = 100;
        height = 90;
        sessions = 1;
        probes = 0;
        pairs = record { viewport = Display; view = record { 0 = 1 } } ∷ [];
        buffers = [];
        fences = [];
        ratio = 131072;
      };
      sessions = codes "A" ∷ [];
      probes = [];
      buffers = [];
      pairs = codes "t0" ∷ [];
      fences = [];
      lines =
          record { number = 6; actor = Display; body = body.Display (display.Dpr 16384) } ∷
          record {
            number = 7;
            actor = Session (record { 0 = 1 });
            body = body.Session (line.Present (record { time = 0; acquire = []; release = []; unsquashable = true }));
          } ∷ [];
      count = 7;
    })
words_of_the_third_version = refl

ratio_too_small : IsFault (codes "flatland 3\ndisplay 100 100 16383\nsession A\npair t0 display A\nrun\n") (record { line = 2; kind = BadNumber })
ratio_too_small = refl

ratio_too_great : IsFault (codes "flatland 3\ndisplay 100 100\nsession A\npair t0 display A\nrun\ndisplay dpr 1048577\n")
    (record { line = 6; kind = BadNumber })
ratio_too_great = refl

ratio_of_a_session : IsFault (codes "flatland 3\ndisplay 100 100\nsession A\npair t0 display A\nrun\nA dpr 65536\n") (record { line = 6; kind = UnknownCall })
ratio_of_a_session = refl

ratio_in_version_two_head : IsFault (codes "flatland 2\ndisplay 100 100 65536\nsession A\npair t0 display A\nrun\n") (record { line = 2; kind = WrongCount })
ratio_in_version_two_head = refl

dpr_in_version_two : IsFault (codes "flatland 2\ndisplay 100 100\nsession A\npair t0 display A\nrun\ndisplay dpr 65536\n")
    (record { line = 6; kind = UnknownCall })
dpr_in_version_two = refl
