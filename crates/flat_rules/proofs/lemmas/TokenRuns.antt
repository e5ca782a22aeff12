-- Small runs about links, of the worked cases of the same names: tokens that come back or don't, and a cycle.
use Rattle.std.proofs.Common.{◌≡◌, List, [], ◌∷◌, refl}
use Rattle.std.specs.Prelude.{Some}
use Rattle.flat_base.specs.declared.ids.Actor.TheVariants.{Display, Session}
use Rattle.flat_base.specs.declared.errors.Reason.TheVariants as reason
use Rattle.flat_base.specs.declared.errors.FlatlandError.TheVariants as error
use Rattle.flat_scene.specs.declared.calls.Call.TheVariants as call
use Rattle.flat_scene.specs.declared.journal.Entry.{Entry}
use Rattle.flat_scene.specs.declared.journal.Event.TheVariants as event
use Rattle.flat_scene.specs.declared.journal.EntryKind.TheVariants as kind
use Rattle.flat_scene.specs.declared.journal.Reply.TheVariants as reply
use Rattle.flat_scene.specs.declared.script.DisplayLine.TheVariants as display
use Rattle.flat_scene.specs.declared.script.SessionLine.TheVariants as line
use Rattle.flat_scene.specs.declared.script.ScriptLine.{ScriptLine}
use Rattle.flat_scene.specs.declared.setup.Setup.{Setup}
use Rattle.flat_scene.specs.History.{◌▹◌}
use Rattle.flat_scene.specs.Interleave.{Interleaves}
use Rattle.flat_rules.specs.Legal.{Legal}
use Rattle.flat_rules.specs.AllPosts.{posts}
use Rattle.flat_scene.specs.Draft.{no_inset}
use Rattle.flat_rules.proofs.LegalByTests.{legal-by-tests}
use Rattle.flat_rules.proofs.lemmas.Samples.{s, p, t, c, by, present, post, session_line, display_line}

-- misuse b16 token not back yet

abbrev pub b16_token_not_back_yet-setup : Setup
b16_token_not_back_yet-setup = record {
  width = 100;
  height = 100;
  sessions = 2;
  probes = 0;
  pairs = (record { viewport = Display; view = s 1 } ∷ record { viewport = Session (s 1); view = s 2 } ∷ []);
  buffers = [];
  fences = [];
  ratio = 65536;
}

abbrev pub b16_token_not_back_yet-history : List Entry
b16_token_not_back_yet-history = []
    ▹ by (Session (s 1)) 8 ((call.CreateView (p 0)) ∷ []) (kind.View (p 0)) reply.Done
    ▹ by (Session (s 1)) 9 ((call.CreateViewport (c 1) (p 1) 60 40 no_inset) ∷ []) (kind.Viewport (p 1) (record { w = 60; h = 40; inset = no_inset }))
    reply.Done
    ▹ by (Session (s 1)) 10 [] (kind.Present (present 0 [] [])) (reply.Presented 1 0)
    ▹ by Display 11 [] (kind.Begin 1) reply.Done
    ▹ by Display 12 [] kind.Finish reply.Done
    ▹ by (Session (s 1)) 14 ((call.ReleaseViewport (c 1)) ∷ []) (kind.Present (present 0 [] [])) (reply.Presented 2 4)
    ▹ by (Session (s 1)) 15 ((call.CreateViewport (c 2) (p 1) 30 30 no_inset) ∷ []) (kind.Viewport (p 1) (record { w = 30; h = 30; inset = no_inset }))
    (reply.Closed (Some error.BadOperation) (Some reason.TokenNotHeld))
    ▹ by Display 16 [] (kind.Begin 2) reply.Done
    ▹ by Display 17 [] kind.Finish reply.Done
    ▹ by (Session (s 1)) 19 [] (kind.End 1) reply.Done
    ▹ by (Session (s 2)) 19 [] (kind.End 0) reply.Done

pub b16_token_not_back_yet-legal : Legal b16_token_not_back_yet-setup b16_token_not_back_yet-history
b16_token_not_back_yet-legal = legal-by-tests b16_token_not_back_yet-setup b16_token_not_back_yet-history refl
    (((((((((((tt, refl), refl), refl), refl), refl), refl), refl), refl), refl), refl), refl)

b16_token_not_back_yet-posts : posts b16_token_not_back_yet-setup b16_token_not_back_yet-history
    ≡ (post 3 1 (event.Credits 5) ∷ post 4 1 (event.FramePresented 1) ∷ [])
b16_token_not_back_yet-posts = refl

abbrev pub b16_token_not_back_yet-lines : List ScriptLine
b16_token_not_back_yet-lines =
    session_line 8 1 (line.Call (call.CreateView (p 0)))
    ∷ session_line 9 1 (line.Call (call.CreateViewport (c 1) (p 1) 60 40 no_inset))
    ∷ session_line 10 1 (line.Present (present 0 [] []))
    ∷ display_line 11 (display.Begin 1)
    ∷ display_line 12 display.Done
    ∷ session_line 13 1 (line.Call (call.ReleaseViewport (c 1)))
    ∷ session_line 14 1 (line.Present (present 0 [] []))
    ∷ session_line 15 1 (line.Call (call.CreateViewport (c 2) (p 1) 30 30 no_inset))
    ∷ display_line 16 (display.Begin 2)
    ∷ display_line 17 display.Done
    ∷ session_line 18 1 (line.Call (call.CreateViewport (c 1) (p 1) 30 30 no_inset))
    ∷ []

b16_token_not_back_yet-reading : Interleaves b16_token_not_back_yet-setup 18 b16_token_not_back_yet-lines b16_token_not_back_yet-history
b16_token_not_back_yet-reading = record {
  sessions = (
    record {
      follows = (
        (
          (
            (
              ((tt, record { line = refl; carried = refl; kind = refl }), record { line = refl; carried = refl; kind = refl }),
              record { line = refl; carried = refl; kind = refl },
            ),
            record { line = refl; carried = refl; kind = refl },
          ),
          record { line = refl; carried = refl; kind = refl },
        ),
        record { line = refl; carried = refl; kind = refl },
      );
      ended = refl;
    },
    (record { follows = (tt, record { line = refl; carried = refl; kind = refl }); ended = refl }, tt),
  );
  display = (
    (
      ((tt, record { line = refl; carried = refl; kind = refl }), record { line = refl; carried = refl; kind = refl }),
      record { line = refl; carried = refl; kind = refl },
    ),
    record { line = refl; carried = refl; kind = refl },
  );
  all_read = refl;
}

-- cycle of links is never reached

abbrev pub cycle_of_links_is_never_reached-setup : Setup
cycle_of_links_is_never_reached-setup = record {
  width = 100;
  height = 100;
  sessions = 2;
  probes = 0;
  pairs = (record { viewport = Display; view = s 1 } ∷ record { viewport = Session (s 1); view = s 2 } ∷ record { viewport = Session (s 2); view = s 1 } ∷ []);
  buffers = [];
  fences = [];
  ratio = 65536;
}

abbrev pub cycle_of_links_is_never_reached-history : List Entry
cycle_of_links_is_never_reached-history = []
    ▹ by (Session (s 1)) 9 ((call.CreateView (p 2)) ∷ []) (kind.View (p 2)) reply.Done
    ▹ by (Session (s 1)) 12 ((call.CreateTransform (t 1)) ∷ (call.SetRootTransform (t 1)) ∷ (call.CreateViewport (c 1) (p 1) 10 10 no_inset) ∷ [])
    (kind.Viewport (p 1) (record { w = 10; h = 10; inset = no_inset })) reply.Done
    ▹ by (Session (s 1)) 14 ((call.SetContent (t 1) (c 1)) ∷ []) (kind.Present (present 0 [] [])) (reply.Presented 1 0)
    ▹ by (Session (s 2)) 15 ((call.CreateView (p 1)) ∷ []) (kind.View (p 1)) reply.Done
    ▹ by (Session (s 2)) 18 ((call.CreateTransform (t 1)) ∷ (call.SetRootTransform (t 1)) ∷ (call.CreateViewport (c 1) (p 2) 10 10 no_inset) ∷ [])
    (kind.Viewport (p 2) (record { w = 10; h = 10; inset = no_inset })) reply.Done
    ▹ by (Session (s 2)) 20 ((call.SetContent (t 1) (c 1)) ∷ []) (kind.Present (present 0 [] [])) (reply.Presented 1 0)
    ▹ by Display 21 [] (kind.Begin 1) reply.Done
    ▹ by Display 22 [] kind.Finish reply.Done
    ▹ by (Session (s 1)) 23 [] (kind.End 0) reply.Done
    ▹ by (Session (s 2)) 23 [] (kind.End 0) reply.Done

pub cycle_of_links_is_never_reached-legal : Legal cycle_of_links_is_never_reached-setup cycle_of_links_is_never_reached-history
cycle_of_links_is_never_reached-legal = legal-by-tests cycle_of_links_is_never_reached-setup cycle_of_links_is_never_reached-history refl
    ((((((((((tt, refl), refl), refl), refl), refl), refl), refl), refl), refl), refl)

cycle_of_links_is_never_reached-posts : posts cycle_of_links_is_never_reached-setup cycle_of_links_is_never_reached-history
    ≡ (post 6 1 (event.Credits 5) ∷ post 6 2 (event.Credits 5) ∷ post 7 1 (event.FramePresented 1) ∷ post 7 2 (event.FramePresented 1) ∷ [])
cycle_of_links_is_never_reached-posts = refl

abbrev pub cycle_of_links_is_never_reached-lines : List ScriptLine
cycle_of_links_is_never_reached-lines =
    session_line 9 1 (line.Call (call.CreateView (p 2)))
    ∷ session_line 10 1 (line.Call (call.CreateTransform (t 1)))
    ∷ session_line 11 1 (line.Call (call.SetRootTransform (t 1)))
    ∷ session_line 12 1 (line.Call (call.CreateViewport (c 1) (p 1) 10 10 no_inset))
    ∷ session_line 13 1 (line.Call (call.SetContent (t 1) (c 1)))
    ∷ session_line 14 1 (line.Present (present 0 [] []))
    ∷ session_line 15 2 (line.Call (call.CreateView (p 1)))
    ∷ session_line 16 2 (line.Call (call.CreateTransform (t 1)))
    ∷ session_line 17 2 (line.Call (call.SetRootTransform (t 1)))
    ∷ session_line 18 2 (line.Call (call.CreateViewport (c 1) (p 2) 10 10 no_inset))
    ∷ session_line 19 2 (line.Call (call.SetContent (t 1) (c 1)))
    ∷ session_line 20 2 (line.Present (present 0 [] []))
    ∷ display_line 21 (display.Begin 1)
    ∷ display_line 22 display.Done
    ∷ []

cycle_of_links_is_never_reached-reading : Interleaves cycle_of_links_is_never_reached-setup 22 cycle_of_links_is_never_reached-lines
    cycle_of_links_is_never_reached-history
cycle_of_links_is_never_reached-reading = record {
  sessions = (
    record {
      follows = (
        (
          ((tt, record { line = refl; carried = refl; kind = refl }), record { line = refl; carried = refl; kind = refl }),
          record { line = refl; carried = refl; kind = refl },
        ),
        record { line = refl; carried = refl; kind = refl },
      );
      ended = refl;
    },
    (
      record {
        follows = (
          (
            ((tt, record { line = refl; carried = refl; kind = refl }), record { line = refl; carried = refl; kind = refl }),
            record { line = refl; carried = refl; kind = refl },
          ),
          record { line = refl; carried = refl; kind = refl },
        );
        ended = refl;
      },
      tt,
    ),
  );
  display =
      ((tt, record { line = refl; carried = refl; kind = refl }), record { line = refl; carried = refl; kind = refl });
  all_read = refl;
}

-- token comes back

abbrev pub token_comes_back-setup : Setup
token_comes_back-setup = record {
  width = 100;
  height = 100;
  sessions = 2;
  probes = 0;
  pairs = (record { viewport = Display; view = s 1 } ∷ record { viewport = Session (s 1); view = s 2 } ∷ []);
  buffers = [];
  fences = [];
  ratio = 65536;
}

abbrev pub token_comes_back-history : List Entry
token_comes_back-history = []
    ▹ by (Session (s 1)) 8 ((call.CreateView (p 0)) ∷ []) (kind.View (p 0)) reply.Done
    ▹ by (Session (s 1)) 9 ((call.CreateViewport (c 1) (p 1) 60 40 no_inset) ∷ []) (kind.Viewport (p 1) (record { w = 60; h = 40; inset = no_inset }))
    reply.Done
    ▹ by (Session (s 1)) 10 [] (kind.Present (present 0 [] [])) (reply.Presented 1 0)
    ▹ by Display 11 [] (kind.Begin 1) reply.Done
    ▹ by Display 12 [] kind.Finish reply.Done
    ▹ by (Session (s 1)) 14 ((call.ReleaseViewport (c 1)) ∷ []) (kind.Present (present 0 [] [])) (reply.Presented 2 4)
    ▹ by Display 15 [] (kind.Begin 2) reply.Done
    ▹ by Display 16 [] kind.Finish reply.Done
    ▹ by (Session (s 1)) 17 ((call.CreateViewport (c 1) (p 1) 30 30 no_inset) ∷ []) (kind.Viewport (p 1) (record { w = 30; h = 30; inset = no_inset }))
    reply.Done
    ▹ by (Session (s 1)) 18 [] (kind.End 0) reply.Done
    ▹ by (Session (s 2)) 18 [] (kind.End 0) reply.Done

pub token_comes_back-legal : Legal token_comes_back-setup token_comes_back-history
token_comes_back-legal = legal-by-tests token_comes_back-setup token_comes_back-history refl
    (((((((((((tt, refl), refl), refl), refl), refl), refl), refl), refl), refl), refl), refl)

token_comes_back-posts : posts token_comes_back-setup token_comes_back-history
    ≡ (post 3 1 (event.Credits 5) ∷ post 4 1 (event.FramePresented 1) ∷ post 6 1 (event.Credits 1) ∷ post 7 1 (event.FramePresented 1)
    ∷ post 7 1 (event.TokenBack (p 1)) ∷ [])
token_comes_back-posts = refl

abbrev pub token_comes_back-lines : List ScriptLine
token_comes_back-lines =
    session_line 8 1 (line.Call (call.CreateView (p 0)))
    ∷ session_line 9 1 (line.Call (call.CreateViewport (c 1) (p 1) 60 40 no_inset))
    ∷ session_line 10 1 (line.Present (present 0 [] []))
    ∷ display_line 11 (display.Begin 1)
    ∷ display_line 12 display.Done
    ∷ session_line 13 1 (line.Call (call.ReleaseViewport (c 1)))
    ∷ session_line 14 1 (line.Present (present 0 [] []))
    ∷ display_line 15 (display.Begin 2)
    ∷ display_line 16 display.Done
    ∷ session_line 17 1 (line.Call (call.CreateViewport (c 1) (p 1) 30 30 no_inset))
    ∷ []

token_comes_back-reading : Interleaves token_comes_back-setup 17 token_comes_back-lines token_comes_back-history
token_comes_back-reading = record {
  sessions = (
    record {
      follows = (
        (
          (
            (
              ((tt, record { line = refl; carried = refl; kind = refl }), record { line = refl; carried = refl; kind = refl }),
              record { line = refl; carried = refl; kind = refl },
            ),
            record { line = refl; carried = refl; kind = refl },
          ),
          record { line = refl; carried = refl; kind = refl },
        ),
        record { line = refl; carried = refl; kind = refl },
      );
      ended = refl;
    },
    (record { follows = (tt, record { line = refl; carried = refl; kind = refl }); ended = refl }, tt),
  );
  display = (
    (
      ((tt, record { line = refl; carried = refl; kind = refl }), record { line = refl; carried = refl; kind = refl }),
      record { line = refl; carried = refl; kind = refl },
    ),
    record { line = refl; carried = refl; kind = refl },
  );
  all_read = refl;
}
