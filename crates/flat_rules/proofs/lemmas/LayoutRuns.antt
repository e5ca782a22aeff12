-- Small runs about layouts, of the worked cases of the same names.
use Rattle.std.proofs.Common.{◌≡◌, List, [], ◌∷◌, refl}
use Rattle.std.specs.Prelude.{Some, None}
use Rattle.flat_base.specs.declared.ids.Actor.TheVariants.{Display, Session}
use Rattle.flat_base.specs.declared.errors.FlatlandError.TheVariants as error
use Rattle.flat_scene.specs.declared.calls.Call.TheVariants as call
use Rattle.flat_scene.specs.declared.calls.Watch.TheVariants as watch
use Rattle.flat_scene.specs.declared.journal.Entry.{Entry}
use Rattle.flat_scene.specs.declared.journal.Event.TheVariants as event
use Rattle.flat_scene.specs.declared.journal.EntryKind.TheVariants as kind
use Rattle.flat_scene.specs.declared.journal.Reply.TheVariants as reply
use Rattle.flat_scene.specs.declared.journal.WatcherValue.TheVariants as tell
use Rattle.flat_scene.specs.declared.script.DisplayLine.TheVariants as display
use Rattle.flat_scene.specs.declared.script.SessionLine.TheVariants as line
use Rattle.flat_scene.specs.declared.script.ScriptLine.{ScriptLine}
use Rattle.flat_scene.specs.declared.setup.Setup.{Setup}
use Rattle.flat_scene.specs.History.{◌▹◌}
use Rattle.flat_scene.specs.Interleave.{Interleaves}
use Rattle.flat_rules.specs.Legal.{Legal}
use Rattle.flat_rules.specs.AllPosts.{posts}
use Rattle.flat_scene.specs.Draft.{no_inset}
use Rattle.flat_rules.proofs.LegalByTests.{legal-by-tests}
use Rattle.flat_rules.proofs.lemmas.Samples.{s, p, t, c, by, present, layout, post, session_line, display_line}

-- layout before first present

abbrev pub layout_before_first_present-setup : Setup
layout_before_first_present-setup = record {
  width = 100;
  height = 100;
  sessions = 2;
  probes = 0;
  pairs = (record { viewport = Display; view = s 1 } ∷ record { viewport = Session (s 1); view = s 2 } ∷ []);
  buffers = [];
  fences = [];
  ratio = 65536;
}

abbrev pub layout_before_first_present-history : List Entry
layout_before_first_present-history = []
    ▹ by (Session (s 2)) 8 ((call.CreateView (p 1)) ∷ []) (kind.View (p 1)) reply.Done
    ▹ by (Session (s 2)) 9 [] (kind.Get watch.Layout) reply.Held
    ▹ by (Session (s 1)) 10 ((call.CreateView (p 0)) ∷ []) (kind.View (p 0)) reply.Done
    ▹ by (Session (s 1)) 11 ((call.CreateViewport (c 1) (p 1) 60 40 no_inset) ∷ []) (kind.Viewport (p 1) (record { w = 60; h = 40; inset = no_inset }))
    reply.Done
    ▹ by (Session (s 2)) 12 [] (kind.Get watch.Layout) reply.Held
    ▹ by (Session (s 2)) 13 [] (kind.Get watch.Layout) (reply.Closed (Some error.BadHangingGet) None)
    ▹ by (Session (s 1)) 14 [] (kind.End 0) reply.Done
    ▹ by (Session (s 2)) 14 [] (kind.End 0) reply.Done

pub layout_before_first_present-legal : Legal layout_before_first_present-setup layout_before_first_present-history
layout_before_first_present-legal = legal-by-tests layout_before_first_present-setup layout_before_first_present-history refl
    ((((((((tt, refl), refl), refl), refl), refl), refl), refl), refl)

layout_before_first_present-posts : posts layout_before_first_present-setup layout_before_first_present-history
    ≡ (post 3 2 (event.Told (p 1) watch.Layout (tell.Layout (layout 60 40 0 0 0 0))) ∷ [])
layout_before_first_present-posts = refl

abbrev pub layout_before_first_present-lines : List ScriptLine
layout_before_first_present-lines =
    session_line 8 2 (line.Call (call.CreateView (p 1)))
    ∷ session_line 9 2 (line.Get watch.Layout)
    ∷ session_line 10 1 (line.Call (call.CreateView (p 0)))
    ∷ session_line 11 1 (line.Call (call.CreateViewport (c 1) (p 1) 60 40 no_inset))
    ∷ session_line 12 2 (line.Get watch.Layout)
    ∷ session_line 13 2 (line.Get watch.Layout)
    ∷ []

layout_before_first_present-reading : Interleaves layout_before_first_present-setup 13 layout_before_first_present-lines layout_before_first_present-history
layout_before_first_present-reading = record {
  sessions = (
    record {
      follows = (
        ((tt, record { line = refl; carried = refl; kind = refl }), record { line = refl; carried = refl; kind = refl }),
        record { line = refl; carried = refl; kind = refl },
      );
      ended = refl;
    },
    (
      record {
        follows = (
          (
            (
              ((tt, record { line = refl; carried = refl; kind = refl }), record { line = refl; carried = refl; kind = refl }),
              record { line = refl; carried = refl; kind = refl },
            ),
            record { line = refl; carried = refl; kind = refl },
          ),
          record { line = refl; carried = refl; kind = refl },
        );
        ended = refl;
      },
      tt,
    ),
  );
  display = tt;
  all_read = refl;
}

-- layout changes between gets

abbrev pub layout_changes_between_gets-setup : Setup
layout_changes_between_gets-setup = record {
  width = 100;
  height = 100;
  sessions = 2;
  probes = 0;
  pairs = (record { viewport = Display; view = s 1 } ∷ record { viewport = Session (s 1); view = s 2 } ∷ []);
  buffers = [];
  fences = [];
  ratio = 65536;
}

abbrev pub layout_changes_between_gets-history : List Entry
layout_changes_between_gets-history = []
    ▹ by (Session (s 1)) 8 ((call.CreateView (p 0)) ∷ []) (kind.View (p 0)) reply.Done
    ▹ by (Session (s 1)) 11 ((call.CreateTransform (t 1)) ∷ (call.SetRootTransform (t 1)) ∷ (call.CreateViewport (c 1) (p 1) 60 40 no_inset) ∷ [])
    (kind.Viewport (p 1) (record { w = 60; h = 40; inset = no_inset })) reply.Done
    ▹ by (Session (s 1)) 13 ((call.SetContent (t 1) (c 1)) ∷ []) (kind.Present (present 0 [] [])) (reply.Presented 1 0)
    ▹ by (Session (s 2)) 14 ((call.CreateView (p 1)) ∷ []) (kind.View (p 1)) reply.Done
    ▹ by (Session (s 2)) 15 [] (kind.Get watch.Layout) (reply.Now (tell.Layout (layout 60 40 0 0 0 0)))
    ▹ by Display 16 [] (kind.Begin 1) reply.Done
    ▹ by Display 17 [] kind.Finish reply.Done
    ▹ by (Session (s 1)) 19 ((call.SetViewportProperties (c 1) 50 50 None) ∷ []) (kind.Present (present 0 [] [])) (reply.Presented 2 4)
    ▹ by Display 20 [] (kind.Begin 2) reply.Done
    ▹ by Display 21 [] kind.Finish reply.Done
    ▹ by (Session (s 1)) 23 ((call.SetViewportProperties (c 1) 60 40 None) ∷ []) (kind.Present (present 0 [] [])) (reply.Presented 3 4)
    ▹ by Display 24 [] (kind.Begin 3) reply.Done
    ▹ by Display 25 [] kind.Finish reply.Done
    ▹ by (Session (s 2)) 26 [] (kind.Get watch.Layout) reply.Held
    ▹ by (Session (s 1)) 28 ((call.SetViewportProperties (c 1) 50 50 None) ∷ []) (kind.Present (present 0 [] [])) (reply.Presented 4 4)
    ▹ by Display 29 [] (kind.Begin 4) reply.Done
    ▹ by Display 30 [] kind.Finish reply.Done
    ▹ by (Session (s 1)) 31 [] (kind.End 0) reply.Done
    ▹ by (Session (s 2)) 31 [] (kind.End 0) reply.Done

pub layout_changes_between_gets-legal : Legal layout_changes_between_gets-setup layout_changes_between_gets-history
layout_changes_between_gets-legal = legal-by-tests layout_changes_between_gets-setup layout_changes_between_gets-history refl
    (((((((((((((((((((tt, refl), refl), refl), refl), refl), refl), refl), refl), refl), refl), refl), refl), refl), refl), refl), refl), refl), refl), refl)

layout_changes_between_gets-posts : posts layout_changes_between_gets-setup layout_changes_between_gets-history
    ≡ (post 5 1 (event.Credits 5) ∷ post 6 1 (event.FramePresented 1) ∷ post 8 1 (event.Credits 1) ∷ post 9 1 (event.FramePresented 1)
    ∷ post 11 1 (event.Credits 1) ∷ post 12 1 (event.FramePresented 1) ∷ post 15 1 (event.Credits 1) ∷ post 16 1 (event.FramePresented 1)
    ∷ post 16 2 (event.Told (p 1) watch.Layout (tell.Layout (layout 50 50 0 0 0 0))) ∷ [])
layout_changes_between_gets-posts = refl

abbrev pub layout_changes_between_gets-lines : List ScriptLine
layout_changes_between_gets-lines =
    session_line 8 1 (line.Call (call.CreateView (p 0)))
    ∷ session_line 9 1 (line.Call (call.CreateTransform (t 1)))
    ∷ session_line 10 1 (line.Call (call.SetRootTransform (t 1)))
    ∷ session_line 11 1 (line.Call (call.CreateViewport (c 1) (p 1) 60 40 no_inset))
    ∷ session_line 12 1 (line.Call (call.SetContent (t 1) (c 1)))
    ∷ session_line 13 1 (line.Present (present 0 [] []))
    ∷ session_line 14 2 (line.Call (call.CreateView (p 1)))
    ∷ session_line 15 2 (line.Get watch.Layout)
    ∷ display_line 16 (display.Begin 1)
    ∷ display_line 17 display.Done
    ∷ session_line 18 1 (line.Call (call.SetViewportProperties (c 1) 50 50 None))
    ∷ session_line 19 1 (line.Present (present 0 [] []))
    ∷ display_line 20 (display.Begin 2)
    ∷ display_line 21 display.Done
    ∷ session_line 22 1 (line.Call (call.SetViewportProperties (c 1) 60 40 None))
    ∷ session_line 23 1 (line.Present (present 0 [] []))
    ∷ display_line 24 (display.Begin 3)
    ∷ display_line 25 display.Done
    ∷ session_line 26 2 (line.Get watch.Layout)
    ∷ session_line 27 1 (line.Call (call.SetViewportProperties (c 1) 50 50 None))
    ∷ session_line 28 1 (line.Present (present 0 [] []))
    ∷ display_line 29 (display.Begin 4)
    ∷ display_line 30 display.Done
    ∷ []

layout_changes_between_gets-reading : Interleaves layout_changes_between_gets-setup 30 layout_changes_between_gets-lines layout_changes_between_gets-history
layout_changes_between_gets-reading = record {
  sessions = (
    record {
      follows = (
        (
          (
            (
              (
                ((tt, record { line = refl; carried = refl; kind = refl }), record { line = refl; carried = refl; kind = refl }),
                record { line = refl; carried = refl; kind = refl },
              ),
              record { line = refl; carried = refl; kind = refl },
            ),
            record { line = refl; carried = refl; kind = refl },
          ),
          record { line = refl; carried = refl; kind = refl },
        ),
        record { line = refl; carried = refl; kind = refl },
      );
      ended = refl;
    },
    (
      record {
        follows = (
          (
            ((tt, record { line = refl; carried = refl; kind = refl }), record { line = refl; carried = refl; kind = refl }),
            record { line = refl; carried = refl; kind = refl },
          ),
          record { line = refl; carried = refl; kind = refl },
        );
        ended = refl;
      },
      tt,
    ),
  );
  display = (
    (
      (
        (
          (
            (
              ((tt, record { line = refl; carried = refl; kind = refl }), record { line = refl; carried = refl; kind = refl }),
              record { line = refl; carried = refl; kind = refl },
            ),
            record { line = refl; carried = refl; kind = refl },
          ),
          record { line = refl; carried = refl; kind = refl },
        ),
        record { line = refl; carried = refl; kind = refl },
      ),
      record { line = refl; carried = refl; kind = refl },
    ),
    record { line = refl; carried = refl; kind = refl },
  );
  all_read = refl;
}
