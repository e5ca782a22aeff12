-- A shell with two applications, as a whole.
use Rattle.std.proofs.Common.{◌≡◌, pos, List, [], ◌∷◌, refl}
use Rattle.flat_base.specs.declared.ids.Actor.TheVariants.{Display, Session}
use Rattle.flat_scene.specs.declared.calls.Call.TheVariants as call
use Rattle.flat_scene.specs.declared.calls.Watch.TheVariants as watch
use Rattle.flat_scene.specs.declared.journal.Entry.{Entry}
use Rattle.flat_scene.specs.declared.journal.Event.TheVariants as event
use Rattle.flat_scene.specs.declared.journal.EntryKind.TheVariants as kind
use Rattle.flat_scene.specs.declared.journal.Reply.TheVariants as reply
use Rattle.flat_scene.specs.declared.journal.WatcherValue.TheVariants as tell
use Rattle.flat_scene.specs.declared.script.WaitCondition.TheVariants as asks
use Rattle.flat_scene.specs.declared.script.DisplayLine.TheVariants as display
use Rattle.flat_scene.specs.declared.script.SessionLine.TheVariants as line
use Rattle.flat_scene.specs.declared.script.ScriptLine.{ScriptLine}
use Rattle.flat_scene.specs.declared.setup.Setup.{Setup}
use Rattle.flat_scene.specs.History.{◌▹◌}
use Rattle.flat_scene.specs.Interleave.{Interleaves}
use Rattle.flat_rules.specs.Legal.{Legal}
use Rattle.flat_rules.specs.AllPosts.{posts}
use Rattle.flat_scene.specs.Draft.{no_inset}
use Rattle.flat_rules.proofs.LegalByTests.{legal-by-tests}
use Rattle.flat_rules.proofs.lemmas.Samples.{s, f, p, t, c, by, present, layout, post, session_line, display_line}

-- shell with two apps

abbrev pub shell_with_two_apps-setup : Setup
shell_with_two_apps-setup = record {
  width = 1280;
  height = 800;
  sessions = 3;
  probes = 0;
  pairs = (record { viewport = Display; view = s 1 } ∷ record { viewport = Session (s 1); view = s 2 } ∷ record { viewport = Session (s 1); view = s 3 } ∷ []);
  buffers = (record { owner = s 2; count = 2; w = 640; h = 760 } ∷ []);
  fences = (record { owners = (Session (s 2) ∷ []) } ∷ record { owners = (Session (s 2) ∷ []) } ∷ record { owners = (Session (s 2) ∷ []) }
      ∷ record { owners = (Session (s 2) ∷ []) } ∷ []);
  ratio = 65536;
}

abbrev pub shell_with_two_apps-history : List Entry
shell_with_two_apps-history = []
    ▹ by (Session (s 2)) 15 ((call.CreateView (p 1)) ∷ []) (kind.View (p 1)) reply.Done
    ▹ by (Session (s 2)) 16 [] (kind.Get watch.Layout) reply.Held
    ▹ by (Session (s 3)) 17 ((call.CreateView (p 2)) ∷ []) (kind.View (p 2)) reply.Done
    ▹ by (Session (s 3)) 18 [] (kind.Get watch.Status) reply.Held
    ▹ by (Session (s 1)) 19 ((call.CreateView (p 0)) ∷ []) (kind.View (p 0)) reply.Done
    ▹ by (Session (s 1)) 27 ((call.CreateTransform (t 1)) ∷ (call.SetRootTransform (t 1)) ∷ (call.CreateTransform (t 2))
    ∷ (call.SetTranslation (t 2) (pos 0) (pos 40)) ∷ (call.CreateTransform (t 3)) ∷ (call.AddChild (t 1) (t 2)) ∷ (call.AddChild (t 1) (t 3))
    ∷ (call.CreateViewport (c 1) (p 1) 640 760 no_inset) ∷ []) (kind.Viewport (p 1) (record { w = 640; h = 760; inset = no_inset })) reply.Done
    ▹ by (Session (s 1)) 29 ((call.SetContent (t 2) (c 1)) ∷ (call.CreateViewport (c 2) (p 2) 1280 40 no_inset) ∷ [])
    (kind.Viewport (p 2) (record { w = 1280; h = 40; inset = no_inset })) reply.Done
    ▹ by (Session (s 1)) 31 ((call.SetContent (t 3) (c 2)) ∷ []) (kind.Get (watch.Child (c 1))) reply.Held
    ▹ by (Session (s 1)) 32 [] (kind.Present (present 0 [] [])) (reply.Presented 1 0)
    ▹ by (Session (s 2)) 33 [] (kind.Wait (asks.Answers 1)) (reply.Met 1)
    ▹ by (Session (s 2)) 39 ((call.CreateTransform (t 1)) ∷ (call.SetRootTransform (t 1)) ∷ (call.CreateImage (c 1) (record { 0 = 0 }) 0 640 760)
    ∷ (call.CreateImage (c 2) (record { 0 = 0 }) 1 640 760) ∷ (call.SetContent (t 1) (c 1)) ∷ []) (kind.Present (present 0 ((f 0) ∷ []) ((f 2) ∷ [])))
    (reply.Presented 1 0)
    ▹ by (Session (s 3)) 45 ((call.CreateTransform (t 1)) ∷ (call.SetRootTransform (t 1)) ∷ (call.CreateFilledRect (c 1))
    ∷ (call.SetSolidFill (c 1) 0 0 0 128 1280 40) ∷ (call.SetContent (t 1) (c 1)) ∷ []) (kind.Present (present 0 [] [])) (reply.Presented 1 0)
    ▹ by (Session (s 3)) 46 [] (kind.Get watch.Status) reply.Held
    ▹ by Display 47 [] (kind.Begin 16) reply.Done
    ▹ by Display 48 [] kind.Finish reply.Done
    ▹ by (Session (s 2)) 49 [] (kind.Signal (f 0)) reply.Done
    ▹ by Display 50 [] (kind.Begin 33) reply.Done
    ▹ by Display 51 [] kind.Finish reply.Done
    ▹ by (Session (s 2)) 53 ((call.SetContent (t 1) (c 2)) ∷ []) (kind.Present (present 0 ((f 1) ∷ []) ((f 3) ∷ []))) (reply.Presented 2 4)
    ▹ by (Session (s 2)) 54 [] (kind.Wait (asks.Fence (f 2))) (reply.Met 1)
    ▹ by (Session (s 2)) 55 [] (kind.Signal (f 1)) reply.Done
    ▹ by Display 56 [] (kind.Begin 50) reply.Done
    ▹ by Display 57 [] kind.Finish reply.Done
    ▹ by (Session (s 1)) 58 [] (kind.End 0) reply.Done
    ▹ by (Session (s 2)) 58 [] (kind.End 0) reply.Done
    ▹ by (Session (s 3)) 58 [] (kind.End 0) reply.Done

pub shell_with_two_apps-legal : Legal shell_with_two_apps-setup shell_with_two_apps-history
shell_with_two_apps-legal = legal-by-tests shell_with_two_apps-setup shell_with_two_apps-history refl (
  (
    (
      (
        (
          (
            (
              (
                (
                  (((((((((((((((((tt, refl), refl), refl), refl), refl), refl), refl), refl), refl), refl), refl), refl), refl), refl), refl), refl), refl),
                  refl,
                ),
                refl,
              ),
              refl,
            ),
            refl,
          ),
          refl,
        ),
        refl,
      ),
      refl,
    ),
    refl,
  ),
  refl,
)

shell_with_two_apps-posts : posts shell_with_two_apps-setup shell_with_two_apps-history
    ≡ (post 5 2 (event.Told (p 1) watch.Layout (tell.Layout (layout 640 760 0 0 0 0))) ∷ post 6 3 (event.Told (p 2) watch.Status tell.Disconnected)
    ∷ post 13 1 (event.Credits 5) ∷ post 13 3 (event.Credits 5) ∷ post 14 1 (event.FramePresented 1) ∷ post 14 3 (event.Told (p 2) watch.Status tell.Connected)
    ∷ post 14 3 (event.FramePresented 1) ∷ post 16 2 (event.Credits 5) ∷ post 17 1 (event.Told (p 1) (watch.Child (c 1)) tell.HasPresented)
    ∷ post 17 2 (event.FramePresented 1) ∷ post 21 2 (event.Credits 1) ∷ post 22 2 (event.FramePresented 1) ∷ [])
shell_with_two_apps-posts = refl

abbrev pub shell_with_two_apps-lines : List ScriptLine
shell_with_two_apps-lines =
    session_line 15 2 (line.Call (call.CreateView (p 1)))
    ∷ session_line 16 2 (line.Get watch.Layout)
    ∷ session_line 17 3 (line.Call (call.CreateView (p 2)))
    ∷ session_line 18 3 (line.Get watch.Status)
    ∷ session_line 19 1 (line.Call (call.CreateView (p 0)))
    ∷ session_line 20 1 (line.Call (call.CreateTransform (t 1)))
    ∷ session_line 21 1 (line.Call (call.SetRootTransform (t 1)))
    ∷ session_line 22 1 (line.Call (call.CreateTransform (t 2)))
    ∷ session_line 23 1 (line.Call (call.SetTranslation (t 2) (pos 0) (pos 40)))
    ∷ session_line 24 1 (line.Call (call.CreateTransform (t 3)))
    ∷ session_line 25 1 (line.Call (call.AddChild (t 1) (t 2)))
    ∷ session_line 26 1 (line.Call (call.AddChild (t 1) (t 3)))
    ∷ session_line 27 1 (line.Call (call.CreateViewport (c 1) (p 1) 640 760 no_inset))
    ∷ session_line 28 1 (line.Call (call.SetContent (t 2) (c 1)))
    ∷ session_line 29 1 (line.Call (call.CreateViewport (c 2) (p 2) 1280 40 no_inset))
    ∷ session_line 30 1 (line.Call (call.SetContent (t 3) (c 2)))
    ∷ session_line 31 1 (line.Get (watch.Child (c 1)))
    ∷ session_line 32 1 (line.Present (present 0 [] []))
    ∷ session_line 33 2 (line.Wait (asks.Answers 1))
    ∷ session_line 34 2 (line.Call (call.CreateTransform (t 1)))
    ∷ session_line 35 2 (line.Call (call.SetRootTransform (t 1)))
    ∷ session_line 36 2 (line.Call (call.CreateImage (c 1) (record { 0 = 0 }) 0 640 760))
    ∷ session_line 37 2 (line.Call (call.CreateImage (c 2) (record { 0 = 0 }) 1 640 760))
    ∷ session_line 38 2 (line.Call (call.SetContent (t 1) (c 1)))
    ∷ session_line 39 2 (line.Present (present 0 ((f 0) ∷ []) ((f 2) ∷ [])))
    ∷ session_line 40 3 (line.Call (call.CreateTransform (t 1)))
    ∷ session_line 41 3 (line.Call (call.SetRootTransform (t 1)))
    ∷ session_line 42 3 (line.Call (call.CreateFilledRect (c 1)))
    ∷ session_line 43 3 (line.Call (call.SetSolidFill (c 1) 0 0 0 128 1280 40))
    ∷ session_line 44 3 (line.Call (call.SetContent (t 1) (c 1)))
    ∷ session_line 45 3 (line.Present (present 0 [] []))
    ∷ session_line 46 3 (line.Get watch.Status)
    ∷ display_line 47 (display.Begin 16)
    ∷ display_line 48 display.Done
    ∷ session_line 49 2 (line.Signal (f 0))
    ∷ display_line 50 (display.Begin 33)
    ∷ display_line 51 display.Done
    ∷ session_line 52 2 (line.Call (call.SetContent (t 1) (c 2)))
    ∷ session_line 53 2 (line.Present (present 0 ((f 1) ∷ []) ((f 3) ∷ [])))
    ∷ session_line 54 2 (line.Wait (asks.Fence (f 2)))
    ∷ session_line 55 2 (line.Signal (f 1))
    ∷ display_line 56 (display.Begin 50)
    ∷ display_line 57 display.Done
    ∷ []

shell_with_two_apps-reading : Interleaves shell_with_two_apps-setup 57 shell_with_two_apps-lines shell_with_two_apps-history
shell_with_two_apps-reading = record {
  sessions = (
    record {
      follows = (
        (
          (
            (
              ((tt, record { line = refl; carried = refl; kind = refl }), record { line = refl; carried = refl; kind = refl }),
              record { line = refl; carried = refl; kind = refl },
            ),
            record { line = refl; carried = refl; kind = refl },
          ),
          record { line = refl; carried = refl; kind = refl },
        ),
        record { line = refl; carried = refl; kind = refl },
      );
      ended = refl;
    },
    (
      record {
        follows = (
          (
            (
              (
                (
                  (
                    (
                      ((tt, record { line = refl; carried = refl; kind = refl }), record { line = refl; carried = refl; kind = refl }),
                      record { line = refl; carried = refl; kind = refl },
                    ),
                    record { line = refl; carried = refl; kind = refl },
                  ),
                  record { line = refl; carried = refl; kind = refl },
                ),
                record { line = refl; carried = refl; kind = refl },
              ),
              record { line = refl; carried = refl; kind = refl },
            ),
            record { line = refl; carried = refl; kind = refl },
          ),
          record { line = refl; carried = refl; kind = refl },
        );
        ended = refl;
      },
      (
        record {
          follows = (
            (
              (
                ((tt, record { line = refl; carried = refl; kind = refl }), record { line = refl; carried = refl; kind = refl }),
                record { line = refl; carried = refl; kind = refl },
              ),
              record { line = refl; carried = refl; kind = refl },
            ),
            record { line = refl; carried = refl; kind = refl },
          );
          ended = refl;
        },
        tt,
      ),
    ),
  );
  display = (
    (
      (
        (
          ((tt, record { line = refl; carried = refl; kind = refl }), record { line = refl; carried = refl; kind = refl }),
          record { line = refl; carried = refl; kind = refl },
        ),
        record { line = refl; carried = refl; kind = refl },
      ),
      record { line = refl; carried = refl; kind = refl },
    ),
    record { line = refl; carried = refl; kind = refl },
  );
  all_read = refl;
}
