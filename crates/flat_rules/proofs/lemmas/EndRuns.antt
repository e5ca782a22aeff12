-- Small runs in which something ends, of the worked cases of the same names: sessions, a frame with a release fence.
use Rattle.std.proofs.Common.{◌≡◌, pos, List, [], ◌∷◌, refl}
use Rattle.std.specs.Prelude.{None}
use Rattle.flat_base.specs.declared.ids.Actor.TheVariants.{Display, Session}
use Rattle.flat_scene.specs.declared.calls.Call.TheVariants as call
use Rattle.flat_scene.specs.declared.calls.Watch.TheVariants as watch
use Rattle.flat_scene.specs.declared.journal.Entry.{Entry}
use Rattle.flat_scene.specs.declared.journal.Event.TheVariants as event
use Rattle.flat_scene.specs.declared.journal.EntryKind.TheVariants as kind
use Rattle.flat_scene.specs.declared.journal.Reply.TheVariants as reply
use Rattle.flat_scene.specs.declared.journal.WatcherValue.TheVariants as tell
use Rattle.flat_scene.specs.declared.script.WaitCondition.TheVariants as asks
use Rattle.flat_scene.specs.declared.script.DisplayLine.TheVariants as display
use Rattle.flat_scene.specs.declared.script.SessionLine.TheVariants as line
use Rattle.flat_scene.specs.declared.script.ScriptLine.{ScriptLine}
use Rattle.flat_scene.specs.declared.setup.Setup.{Setup}
use Rattle.flat_scene.specs.History.{◌▹◌}
use Rattle.flat_scene.specs.Interleave.{Interleaves}
use Rattle.flat_rules.specs.Legal.{Legal}
use Rattle.flat_rules.specs.AllPosts.{posts}
use Rattle.flat_scene.specs.Draft.{no_inset}
use Rattle.flat_rules.proofs.LegalByTests.{legal-by-tests}
use Rattle.flat_rules.proofs.lemmas.Samples.{s, f, p, t, c, by, present, post, session_line, display_line}

-- closed inside a frame

abbrev pub closed_inside_a_frame-setup : Setup
closed_inside_a_frame-setup = record {
  width = 100;
  height = 100;
  sessions = 1;
  probes = 0;
  pairs = (record { viewport = Display; view = s 1 } ∷ []);
  buffers = [];
  fences = [];
  ratio = 65536;
}

abbrev pub closed_inside_a_frame-history : List Entry
closed_inside_a_frame-history = []
    ▹ by (Session (s 1)) 6 ((call.CreateView (p 0)) ∷ []) (kind.View (p 0)) reply.Done
    ▹ by (Session (s 1)) 12 ((call.CreateTransform (t 1)) ∷ (call.SetRootTransform (t 1)) ∷ (call.CreateFilledRect (c 2))
    ∷ (call.SetSolidFill (c 2) 255 0 0 255 10 10) ∷ (call.SetContent (t 1) (c 2)) ∷ []) (kind.Present (present 0 [] [])) (reply.Presented 1 0)
    ▹ by Display 13 [] (kind.Begin 1000) reply.Done
    ▹ by (Session (s 1)) 14 [] (kind.Close None) (reply.Closed None None)
    ▹ by Display 15 [] kind.Finish reply.Done
    ▹ by Display 16 [] (kind.Begin 2000) reply.Done
    ▹ by Display 17 [] kind.Finish reply.Done
    ▹ by (Session (s 1)) 18 [] (kind.End 0) reply.Done

pub closed_inside_a_frame-legal : Legal closed_inside_a_frame-setup closed_inside_a_frame-history
closed_inside_a_frame-legal = legal-by-tests closed_inside_a_frame-setup closed_inside_a_frame-history refl
    ((((((((tt, refl), refl), refl), refl), refl), refl), refl), refl)

closed_inside_a_frame-posts : posts closed_inside_a_frame-setup closed_inside_a_frame-history ≡ (post 2 1 (event.Credits 5) ∷ [])
closed_inside_a_frame-posts = refl

abbrev pub closed_inside_a_frame-lines : List ScriptLine
closed_inside_a_frame-lines =
    session_line 6 1 (line.Call (call.CreateView (p 0)))
    ∷ session_line 7 1 (line.Call (call.CreateTransform (t 1)))
    ∷ session_line 8 1 (line.Call (call.SetRootTransform (t 1)))
    ∷ session_line 9 1 (line.Call (call.CreateFilledRect (c 2)))
    ∷ session_line 10 1 (line.Call (call.SetSolidFill (c 2) 255 0 0 255 10 10))
    ∷ session_line 11 1 (line.Call (call.SetContent (t 1) (c 2)))
    ∷ session_line 12 1 (line.Present (present 0 [] []))
    ∷ display_line 13 (display.Begin 1000)
    ∷ session_line 14 1 (line.Disconnect)
    ∷ display_line 15 display.Done
    ∷ display_line 16 (display.Begin 2000)
    ∷ display_line 17 display.Done
    ∷ []

closed_inside_a_frame-reading : Interleaves closed_inside_a_frame-setup 17 closed_inside_a_frame-lines closed_inside_a_frame-history
closed_inside_a_frame-reading = record {
  sessions = (
    record {
      follows = (
        (
          ((tt, record { line = refl; carried = refl; kind = refl }), record { line = refl; carried = refl; kind = refl }),
          record { line = refl; carried = refl; kind = refl },
        ),
        record { line = refl; carried = refl; kind = refl },
      );
      ended = refl;
    },
    tt,
  );
  display = (
    (
      ((tt, record { line = refl; carried = refl; kind = refl }), record { line = refl; carried = refl; kind = refl }),
      record { line = refl; carried = refl; kind = refl },
    ),
    record { line = refl; carried = refl; kind = refl },
  );
  all_read = refl;
}

-- app gone before all

abbrev pub app_gone_before_all-setup : Setup
app_gone_before_all-setup = record {
  width = 1280;
  height = 800;
  sessions = 3;
  probes = 0;
  pairs = (record { viewport = Display; view = s 1 } ∷ record { viewport = Session (s 1); view = s 2 } ∷ record { viewport = Session (s 1); view = s 3 } ∷ []);
  buffers = (record { owner = s 2; count = 2; w = 640; h = 760 } ∷ []);
  fences = (record { owners = (Session (s 2) ∷ []) } ∷ record { owners = (Session (s 2) ∷ []) } ∷ record { owners = (Session (s 2) ∷ []) }
      ∷ record { owners = (Session (s 2) ∷ []) } ∷ []);
  ratio = 65536;
}

abbrev pub app_gone_before_all-history : List Entry
app_gone_before_all-history = []
    ▹ by (Session (s 2)) 15 [] (kind.Close None) (reply.Closed None None)
    ▹ by (Session (s 3)) 18 ((call.CreateView (p 2)) ∷ []) (kind.View (p 2)) reply.Done
    ▹ by (Session (s 3)) 19 [] (kind.Get watch.Status) reply.Held
    ▹ by (Session (s 1)) 20 ((call.CreateView (p 0)) ∷ []) (kind.View (p 0)) reply.Done
    ▹ by (Session (s 1)) 28 ((call.CreateTransform (t 1)) ∷ (call.SetRootTransform (t 1)) ∷ (call.CreateTransform (t 2))
    ∷ (call.SetTranslation (t 2) (pos 0) (pos 40)) ∷ (call.CreateTransform (t 3)) ∷ (call.AddChild (t 1) (t 2)) ∷ (call.AddChild (t 1) (t 3))
    ∷ (call.CreateViewport (c 1) (p 1) 640 760 no_inset) ∷ []) (kind.Viewport (p 1) (record { w = 640; h = 760; inset = no_inset })) reply.Done
    ▹ by (Session (s 1)) 30 ((call.SetContent (t 2) (c 1)) ∷ (call.CreateViewport (c 2) (p 2) 1280 40 no_inset) ∷ [])
    (kind.Viewport (p 2) (record { w = 1280; h = 40; inset = no_inset })) reply.Done
    ▹ by (Session (s 1)) 32 ((call.SetContent (t 3) (c 2)) ∷ []) (kind.Get (watch.Child (c 1))) reply.Held
    ▹ by (Session (s 1)) 33 [] (kind.Present (present 0 [] [])) (reply.Presented 1 0)
    ▹ by (Session (s 3)) 46 ((call.CreateTransform (t 1)) ∷ (call.SetRootTransform (t 1)) ∷ (call.CreateFilledRect (c 1))
    ∷ (call.SetSolidFill (c 1) 0 0 0 128 1280 40) ∷ (call.SetContent (t 1) (c 1)) ∷ []) (kind.Present (present 0 [] [])) (reply.Presented 1 0)
    ▹ by (Session (s 3)) 47 [] (kind.Get watch.Status) reply.Held
    ▹ by Display 48 [] (kind.Begin 16) reply.Done
    ▹ by Display 49 [] kind.Finish reply.Done
    ▹ by Display 51 [] (kind.Begin 33) reply.Done
    ▹ by Display 52 [] kind.Finish reply.Done
    ▹ by Display 57 [] (kind.Begin 50) reply.Done
    ▹ by Display 58 [] kind.Finish reply.Done
    ▹ by (Session (s 1)) 59 [] (kind.End 0) reply.Done
    ▹ by (Session (s 2)) 59 [] (kind.End 14) reply.Done
    ▹ by (Session (s 3)) 59 [] (kind.End 0) reply.Done

pub app_gone_before_all-legal : Legal app_gone_before_all-setup app_gone_before_all-history
app_gone_before_all-legal = legal-by-tests app_gone_before_all-setup app_gone_before_all-history refl
    (((((((((((((((((((tt, refl), refl), refl), refl), refl), refl), refl), refl), refl), refl), refl), refl), refl), refl), refl), refl), refl), refl), refl)

app_gone_before_all-posts : posts app_gone_before_all-setup app_gone_before_all-history
    ≡ (post 5 3 (event.Told (p 2) watch.Status tell.Disconnected) ∷ post 10 1 (event.Credits 5) ∷ post 10 3 (event.Credits 5)
    ∷ post 11 1 (event.Told (p 1) (watch.Child (c 1)) tell.Gone) ∷ post 11 1 (event.FramePresented 1) ∷ post 11 3 (event.Told (p 2) watch.Status tell.Connected)
    ∷ post 11 3 (event.FramePresented 1) ∷ [])
app_gone_before_all-posts = refl

abbrev pub app_gone_before_all-lines : List ScriptLine
app_gone_before_all-lines =
    session_line 15 2 (line.Disconnect)
    ∷ session_line 16 2 (line.Call (call.CreateView (p 1)))
    ∷ session_line 17 2 (line.Get watch.Layout)
    ∷ session_line 18 3 (line.Call (call.CreateView (p 2)))
    ∷ session_line 19 3 (line.Get watch.Status)
    ∷ session_line 20 1 (line.Call (call.CreateView (p 0)))
    ∷ session_line 21 1 (line.Call (call.CreateTransform (t 1)))
    ∷ session_line 22 1 (line.Call (call.SetRootTransform (t 1)))
    ∷ session_line 23 1 (line.Call (call.CreateTransform (t 2)))
    ∷ session_line 24 1 (line.Call (call.SetTranslation (t 2) (pos 0) (pos 40)))
    ∷ session_line 25 1 (line.Call (call.CreateTransform (t 3)))
    ∷ session_line 26 1 (line.Call (call.AddChild (t 1) (t 2)))
    ∷ session_line 27 1 (line.Call (call.AddChild (t 1) (t 3)))
    ∷ session_line 28 1 (line.Call (call.CreateViewport (c 1) (p 1) 640 760 no_inset))
    ∷ session_line 29 1 (line.Call (call.SetContent (t 2) (c 1)))
    ∷ session_line 30 1 (line.Call (call.CreateViewport (c 2) (p 2) 1280 40 no_inset))
    ∷ session_line 31 1 (line.Call (call.SetContent (t 3) (c 2)))
    ∷ session_line 32 1 (line.Get (watch.Child (c 1)))
    ∷ session_line 33 1 (line.Present (present 0 [] []))
    ∷ session_line 34 2 (line.Wait (asks.Answers 1))
    ∷ session_line 35 2 (line.Call (call.CreateTransform (t 1)))
    ∷ session_line 36 2 (line.Call (call.SetRootTransform (t 1)))
    ∷ session_line 37 2 (line.Call (call.CreateImage (c 1) (record { 0 = 0 }) 0 640 760))
    ∷ session_line 38 2 (line.Call (call.CreateImage (c 2) (record { 0 = 0 }) 1 640 760))
    ∷ session_line 39 2 (line.Call (call.SetContent (t 1) (c 1)))
    ∷ session_line 40 2 (line.Present (present 0 ((f 0) ∷ []) ((f 2) ∷ [])))
    ∷ session_line 41 3 (line.Call (call.CreateTransform (t 1)))
    ∷ session_line 42 3 (line.Call (call.SetRootTransform (t 1)))
    ∷ session_line 43 3 (line.Call (call.CreateFilledRect (c 1)))
    ∷ session_line 44 3 (line.Call (call.SetSolidFill (c 1) 0 0 0 128 1280 40))
    ∷ session_line 45 3 (line.Call (call.SetContent (t 1) (c 1)))
    ∷ session_line 46 3 (line.Present (present 0 [] []))
    ∷ session_line 47 3 (line.Get watch.Status)
    ∷ display_line 48 (display.Begin 16)
    ∷ display_line 49 display.Done
    ∷ session_line 50 2 (line.Signal (f 0))
    ∷ display_line 51 (display.Begin 33)
    ∷ display_line 52 display.Done
    ∷ session_line 53 2 (line.Call (call.SetContent (t 1) (c 2)))
    ∷ session_line 54 2 (line.Present (present 0 ((f 1) ∷ []) ((f 3) ∷ [])))
    ∷ session_line 55 2 (line.Wait (asks.Fence (f 2)))
    ∷ session_line 56 2 (line.Signal (f 1))
    ∷ display_line 57 (display.Begin 50)
    ∷ display_line 58 display.Done
    ∷ []

app_gone_before_all-reading : Interleaves app_gone_before_all-setup 58 app_gone_before_all-lines app_gone_before_all-history
app_gone_before_all-reading = record {
  sessions = (
    record {
      follows = (
        (
          (
            (
              ((tt, record { line = refl; carried = refl; kind = refl }), record { line = refl; carried = refl; kind = refl }),
              record { line = refl; carried = refl; kind = refl },
            ),
            record { line = refl; carried = refl; kind = refl },
          ),
          record { line = refl; carried = refl; kind = refl },
        ),
        record { line = refl; carried = refl; kind = refl },
      );
      ended = refl;
    },
    (
      record { follows = ((tt, record { line = refl; carried = refl; kind = refl }), record { line = refl; carried = refl; kind = refl }); ended = refl },
      (
        record {
          follows = (
            (
              (
                ((tt, record { line = refl; carried = refl; kind = refl }), record { line = refl; carried = refl; kind = refl }),
                record { line = refl; carried = refl; kind = refl },
              ),
              record { line = refl; carried = refl; kind = refl },
            ),
            record { line = refl; carried = refl; kind = refl },
          );
          ended = refl;
        },
        tt,
      ),
    ),
  );
  display = (
    (
      (
        (
          ((tt, record { line = refl; carried = refl; kind = refl }), record { line = refl; carried = refl; kind = refl }),
          record { line = refl; carried = refl; kind = refl },
        ),
        record { line = refl; carried = refl; kind = refl },
      ),
      record { line = refl; carried = refl; kind = refl },
    ),
    record { line = refl; carried = refl; kind = refl },
  );
  all_read = refl;
}

-- parent gone

abbrev pub parent_gone-setup : Setup
parent_gone-setup = record {
  width = 100;
  height = 100;
  sessions = 2;
  probes = 0;
  pairs = (record { viewport = Display; view = s 1 } ∷ record { viewport = Session (s 1); view = s 2 } ∷ []);
  buffers = [];
  fences = [];
  ratio = 65536;
}

abbrev pub parent_gone-history : List Entry
parent_gone-history = []
    ▹ by (Session (s 2)) 8 ((call.CreateView (p 1)) ∷ []) (kind.View (p 1)) reply.Done
    ▹ by (Session (s 2)) 9 [] (kind.Get watch.Status) reply.Held
    ▹ by (Session (s 1)) 10 [] (kind.Close None) (reply.Closed None None)
    ▹ by Display 11 [] (kind.Begin 1) reply.Done
    ▹ by Display 12 [] kind.Finish reply.Done
    ▹ by (Session (s 1)) 13 [] (kind.End 0) reply.Done
    ▹ by (Session (s 2)) 13 [] (kind.End 0) reply.Done

pub parent_gone-legal : Legal parent_gone-setup parent_gone-history
parent_gone-legal = legal-by-tests parent_gone-setup parent_gone-history refl (((((((tt, refl), refl), refl), refl), refl), refl), refl)

parent_gone-posts : posts parent_gone-setup parent_gone-history ≡ (post 4 2 (event.Told (p 1) watch.Status tell.Gone) ∷ [])
parent_gone-posts = refl

abbrev pub parent_gone-lines : List ScriptLine
parent_gone-lines =
    session_line 8 2 (line.Call (call.CreateView (p 1)))
    ∷ session_line 9 2 (line.Get watch.Status)
    ∷ session_line 10 1 (line.Disconnect)
    ∷ display_line 11 (display.Begin 1)
    ∷ display_line 12 display.Done
    ∷ []

parent_gone-reading : Interleaves parent_gone-setup 12 parent_gone-lines parent_gone-history
parent_gone-reading = record {
  sessions = (
    record {
      follows =
          ((tt, record { line = refl; carried = refl; kind = refl }), record { line = refl; carried = refl; kind = refl });
      ended = refl;
    },
    (
      record {
        follows = (
          ((tt, record { line = refl; carried = refl; kind = refl }), record { line = refl; carried = refl; kind = refl }),
          record { line = refl; carried = refl; kind = refl },
        );
        ended = refl;
      },
      tt,
    ),
  );
  display =
      ((tt, record { line = refl; carried = refl; kind = refl }), record { line = refl; carried = refl; kind = refl });
  all_read = refl;
}

-- release fence signalled at done

abbrev pub release_fence_signalled_at_done-setup : Setup
release_fence_signalled_at_done-setup = record {
  width = 100;
  height = 100;
  sessions = 1;
  probes = 0;
  pairs = (record { viewport = Display; view = s 1 } ∷ []);
  buffers = [];
  fences = (record { owners = (Session (s 1) ∷ []) } ∷ []);
  ratio = 65536;
}

abbrev pub release_fence_signalled_at_done-history : List Entry
release_fence_signalled_at_done-history = []
    ▹ by (Session (s 1)) 7 ((call.CreateView (p 0)) ∷ []) (kind.View (p 0)) reply.Done
    ▹ by (Session (s 1)) 8 [] (kind.Present (present 0 [] ((f 0) ∷ []))) (reply.Presented 1 0)
    ▹ by Display 9 [] (kind.Begin 1) reply.Done
    ▹ by (Session (s 1)) 10 [] (kind.Wait (asks.Fence (f 0))) (reply.Unmet 0)
    ▹ by Display 11 [] kind.Finish reply.Done
    ▹ by (Session (s 1)) 12 [] (kind.Wait (asks.Fence (f 0))) (reply.Met 1)
    ▹ by (Session (s 1)) 13 [] (kind.End 0) reply.Done

pub release_fence_signalled_at_done-legal : Legal release_fence_signalled_at_done-setup release_fence_signalled_at_done-history
release_fence_signalled_at_done-legal = legal-by-tests release_fence_signalled_at_done-setup release_fence_signalled_at_done-history refl
    (((((((tt, refl), refl), refl), refl), refl), refl), refl)

release_fence_signalled_at_done-posts : posts release_fence_signalled_at_done-setup release_fence_signalled_at_done-history
    ≡ (post 2 1 (event.Credits 5) ∷ post 4 1 (event.FramePresented 1) ∷ [])
release_fence_signalled_at_done-posts = refl

abbrev pub release_fence_signalled_at_done-lines : List ScriptLine
release_fence_signalled_at_done-lines =
    session_line 7 1 (line.Call (call.CreateView (p 0)))
    ∷ session_line 8 1 (line.Present (present 0 [] ((f 0) ∷ [])))
    ∷ display_line 9 (display.Begin 1)
    ∷ session_line 10 1 (line.Wait (asks.Fence (f 0)))
    ∷ display_line 11 display.Done
    ∷ session_line 12 1 (line.Wait (asks.Fence (f 0)))
    ∷ []

release_fence_signalled_at_done-reading : Interleaves release_fence_signalled_at_done-setup 12 release_fence_signalled_at_done-lines
    release_fence_signalled_at_done-history
release_fence_signalled_at_done-reading = record {
  sessions = (
    record {
      follows = (
        (
          (
            ((tt, record { line = refl; carried = refl; kind = refl }), record { line = refl; carried = refl; kind = refl }),
            record { line = refl; carried = refl; kind = refl },
          ),
          record { line = refl; carried = refl; kind = refl },
        ),
        record { line = refl; carried = refl; kind = refl },
      );
      ended = refl;
    },
    tt,
  );
  display =
      ((tt, record { line = refl; carried = refl; kind = refl }), record { line = refl; carried = refl; kind = refl });
  all_read = refl;
}
