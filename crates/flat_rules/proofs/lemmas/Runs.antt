-- Small runs as a whole, of the worked cases of the same names: legal, with their replies and their events, and readings of their scripts.
use Rattle.std.proofs.Common.{◌≡◌, List, [], ◌∷◌, refl}
use Rattle.std.specs.Prelude.{Some, None, drop}
use Rattle.flat_base.specs.declared.ids.Actor.TheVariants.{Display, Session}
use Rattle.flat_base.specs.declared.errors.Reason.TheVariants as reason
use Rattle.flat_base.specs.declared.errors.FlatlandError.TheVariants as error
use Rattle.flat_scene.specs.declared.calls.Call.TheVariants as call
use Rattle.flat_scene.specs.declared.journal.Entry.{Entry}
use Rattle.flat_scene.specs.declared.journal.Event.TheVariants as event
use Rattle.flat_scene.specs.declared.journal.EntryKind.TheVariants as kind
use Rattle.flat_scene.specs.declared.journal.Reply.TheVariants as reply
use Rattle.flat_scene.specs.declared.script.WaitCondition.TheVariants as asks
use Rattle.flat_scene.specs.declared.script.DisplayLine.TheVariants as display
use Rattle.flat_scene.specs.declared.script.SessionLine.TheVariants as line
use Rattle.flat_scene.specs.declared.script.ScriptLine.{ScriptLine}
use Rattle.flat_scene.specs.declared.setup.Setup.{Setup}
use Rattle.flat_scene.specs.History.{◌▹◌}
use Rattle.flat_scene.specs.Interleave.{Interleaves}
use Rattle.flat_rules.specs.Legal.{Legal, unread_events}
use Rattle.flat_rules.specs.AllPosts.{posts}
use Rattle.flat_rules.proofs.LegalByTests.{legal-by-tests}
use Rattle.flat_rules.proofs.lemmas.Samples.{s, f, p, t, c, by, present, post, session_line, display_line}

-- one fill one frame

abbrev pub one_fill_one_frame-setup : Setup
one_fill_one_frame-setup = record {
  width = 100;
  height = 100;
  sessions = 1;
  probes = 0;
  pairs = (record { viewport = Display; view = s 1 } ∷ []);
  buffers = [];
  fences = [];
  ratio = 65536;
}

abbrev pub one_fill_one_frame-history : List Entry
one_fill_one_frame-history = []
    ▹ by (Session (s 1)) 6 ((call.CreateView (p 0)) ∷ []) (kind.View (p 0)) reply.Done
    ▹ by (Session (s 1)) 12 ((call.CreateTransform (t 1)) ∷ (call.SetRootTransform (t 1)) ∷ (call.CreateFilledRect (c 2))
    ∷ (call.SetSolidFill (c 2) 255 0 0 255 10 10) ∷ (call.SetContent (t 1) (c 2)) ∷ []) (kind.Present (present 0 [] [])) (reply.Presented 1 0)
    ▹ by Display 13 [] (kind.Begin 1000) reply.Done
    ▹ by Display 14 [] kind.Finish reply.Done
    ▹ by (Session (s 1)) 15 [] (kind.End 0) reply.Done

pub one_fill_one_frame-legal : Legal one_fill_one_frame-setup one_fill_one_frame-history
one_fill_one_frame-legal = legal-by-tests one_fill_one_frame-setup one_fill_one_frame-history refl (((((tt, refl), refl), refl), refl), refl)

one_fill_one_frame-posts : posts one_fill_one_frame-setup one_fill_one_frame-history ≡ (post 2 1 (event.Credits 5) ∷ post 3 1 (event.FramePresented 1) ∷ [])
one_fill_one_frame-posts = refl

abbrev pub one_fill_one_frame-lines : List ScriptLine
one_fill_one_frame-lines =
    session_line 6 1 (line.Call (call.CreateView (p 0)))
    ∷ session_line 7 1 (line.Call (call.CreateTransform (t 1)))
    ∷ session_line 8 1 (line.Call (call.SetRootTransform (t 1)))
    ∷ session_line 9 1 (line.Call (call.CreateFilledRect (c 2)))
    ∷ session_line 10 1 (line.Call (call.SetSolidFill (c 2) 255 0 0 255 10 10))
    ∷ session_line 11 1 (line.Call (call.SetContent (t 1) (c 2)))
    ∷ session_line 12 1 (line.Present (present 0 [] []))
    ∷ display_line 13 (display.Begin 1000)
    ∷ display_line 14 display.Done
    ∷ []

one_fill_one_frame-reading : Interleaves one_fill_one_frame-setup 14 one_fill_one_frame-lines one_fill_one_frame-history
one_fill_one_frame-reading = record {
  sessions = (
    record {
      follows = (
        ((tt, record { line = refl; carried = refl; kind = refl }), record { line = refl; carried = refl; kind = refl }),
        record { line = refl; carried = refl; kind = refl },
      );
      ended = refl;
    },
    tt,
  );
  display =
      ((tt, record { line = refl; carried = refl; kind = refl }), record { line = refl; carried = refl; kind = refl });
  all_read = refl;
}

-- no lines no frames

abbrev pub no_lines_no_frames-setup : Setup
no_lines_no_frames-setup = record {
  width = 100;
  height = 100;
  sessions = 1;
  probes = 0;
  pairs = (record { viewport = Display; view = s 1 } ∷ []);
  buffers = [];
  fences = [];
  ratio = 65536;
}

abbrev pub no_lines_no_frames-history : List Entry
no_lines_no_frames-history = []
    ▹ by (Session (s 1)) 6 [] (kind.End 0) reply.Done

pub no_lines_no_frames-legal : Legal no_lines_no_frames-setup no_lines_no_frames-history
no_lines_no_frames-legal = legal-by-tests no_lines_no_frames-setup no_lines_no_frames-history refl (tt, refl)

no_lines_no_frames-posts : posts no_lines_no_frames-setup no_lines_no_frames-history ≡ []
no_lines_no_frames-posts = refl

abbrev pub no_lines_no_frames-lines : List ScriptLine
no_lines_no_frames-lines = []

no_lines_no_frames-reading : Interleaves no_lines_no_frames-setup 5 no_lines_no_frames-lines no_lines_no_frames-history
no_lines_no_frames-reading = record {
  sessions = (record { follows = (tt, record { line = refl; carried = refl; kind = refl }); ended = refl }, tt);
  display = tt;
  all_read = refl;
}

-- view without root then poll

abbrev pub view_without_root_then_poll-setup : Setup
view_without_root_then_poll-setup = record {
  width = 100;
  height = 100;
  sessions = 1;
  probes = 0;
  pairs = (record { viewport = Display; view = s 1 } ∷ []);
  buffers = [];
  fences = [];
  ratio = 65536;
}

abbrev pub view_without_root_then_poll-history : List Entry
view_without_root_then_poll-history = []
    ▹ by (Session (s 1)) 6 ((call.CreateView (p 0)) ∷ []) (kind.View (p 0)) reply.Done
    ▹ by (Session (s 1)) 7 [] (kind.Present (present 0 [] [])) (reply.Presented 1 0)
    ▹ by Display 8 [] (kind.Begin 5) reply.Done
    ▹ by Display 9 [] kind.Finish reply.Done
    ▹ by (Session (s 1)) 10 [] kind.Poll (reply.Polled 2)
    ▹ by (Session (s 1)) 11 [] (kind.End 0) reply.Done

pub view_without_root_then_poll-legal : Legal view_without_root_then_poll-setup view_without_root_then_poll-history
view_without_root_then_poll-legal = legal-by-tests view_without_root_then_poll-setup view_without_root_then_poll-history refl
    ((((((tt, refl), refl), refl), refl), refl), refl)

view_without_root_then_poll-posts : posts view_without_root_then_poll-setup view_without_root_then_poll-history
    ≡ (post 2 1 (event.Credits 5) ∷ post 3 1 (event.FramePresented 1) ∷ [])
view_without_root_then_poll-posts = refl

-- its poll is handed both events, and at the end none is unread
view_without_root_then_poll-handed : unread_events view_without_root_then_poll-setup (s 1) (drop 2 view_without_root_then_poll-history) ≡ event.Credits 5
    ∷ event.FramePresented 1 ∷ []
view_without_root_then_poll-handed = refl

view_without_root_then_poll-unread : unread_events view_without_root_then_poll-setup (s 1) view_without_root_then_poll-history ≡ []
view_without_root_then_poll-unread = refl

abbrev pub view_without_root_then_poll-lines : List ScriptLine
view_without_root_then_poll-lines =
    session_line 6 1 (line.Call (call.CreateView (p 0)))
    ∷ session_line 7 1 (line.Present (present 0 [] []))
    ∷ display_line 8 (display.Begin 5)
    ∷ display_line 9 display.Done
    ∷ session_line 10 1 (line.Poll)
    ∷ []

view_without_root_then_poll-reading : Interleaves view_without_root_then_poll-setup 10 view_without_root_then_poll-lines view_without_root_then_poll-history
view_without_root_then_poll-reading = record {
  sessions = (
    record {
      follows = (
        (
          ((tt, record { line = refl; carried = refl; kind = refl }), record { line = refl; carried = refl; kind = refl }),
          record { line = refl; carried = refl; kind = refl },
        ),
        record { line = refl; carried = refl; kind = refl },
      );
      ended = refl;
    },
    tt,
  );
  display =
      ((tt, record { line = refl; carried = refl; kind = refl }), record { line = refl; carried = refl; kind = refl });
  all_read = refl;
}

-- fence signalled between frames

abbrev pub fence_signalled_between_frames-setup : Setup
fence_signalled_between_frames-setup = record {
  width = 100;
  height = 100;
  sessions = 1;
  probes = 0;
  pairs = (record { viewport = Display; view = s 1 } ∷ []);
  buffers = [];
  fences = (record { owners = (Display ∷ Session (s 1) ∷ []) } ∷ []);
  ratio = 65536;
}

abbrev pub fence_signalled_between_frames-history : List Entry
fence_signalled_between_frames-history = []
    ▹ by (Session (s 1)) 7 ((call.CreateView (p 0)) ∷ []) (kind.View (p 0)) reply.Done
    ▹ by (Session (s 1)) 13 ((call.CreateTransform (t 1)) ∷ (call.SetRootTransform (t 1)) ∷ (call.CreateFilledRect (c 1))
    ∷ (call.SetSolidFill (c 1) 0 0 255 128 20 10) ∷ (call.SetContent (t 1) (c 1)) ∷ []) (kind.Present (present 0 ((f 0) ∷ []) [])) (reply.Presented 1 0)
    ▹ by Display 14 [] (kind.Begin 100) reply.Done
    ▹ by Display 15 [] kind.Finish reply.Done
    ▹ by Display 16 [] (kind.Signal (f 0)) reply.Done
    ▹ by Display 17 [] (kind.Begin 200) reply.Done
    ▹ by Display 18 [] kind.Finish reply.Done
    ▹ by (Session (s 1)) 19 [] (kind.End 0) reply.Done

pub fence_signalled_between_frames-legal : Legal fence_signalled_between_frames-setup fence_signalled_between_frames-history
fence_signalled_between_frames-legal = legal-by-tests fence_signalled_between_frames-setup fence_signalled_between_frames-history refl
    ((((((((tt, refl), refl), refl), refl), refl), refl), refl), refl)

fence_signalled_between_frames-posts : posts fence_signalled_between_frames-setup fence_signalled_between_frames-history
    ≡ (post 5 1 (event.Credits 5) ∷ post 6 1 (event.FramePresented 1) ∷ [])
fence_signalled_between_frames-posts = refl

abbrev pub fence_signalled_between_frames-lines : List ScriptLine
fence_signalled_between_frames-lines =
    session_line 7 1 (line.Call (call.CreateView (p 0)))
    ∷ session_line 8 1 (line.Call (call.CreateTransform (t 1)))
    ∷ session_line 9 1 (line.Call (call.SetRootTransform (t 1)))
    ∷ session_line 10 1 (line.Call (call.CreateFilledRect (c 1)))
    ∷ session_line 11 1 (line.Call (call.SetSolidFill (c 1) 0 0 255 128 20 10))
    ∷ session_line 12 1 (line.Call (call.SetContent (t 1) (c 1)))
    ∷ session_line 13 1 (line.Present (present 0 ((f 0) ∷ []) []))
    ∷ display_line 14 (display.Begin 100)
    ∷ display_line 15 display.Done
    ∷ display_line 16 (display.Signal (f 0))
    ∷ display_line 17 (display.Begin 200)
    ∷ display_line 18 display.Done
    ∷ []

fence_signalled_between_frames-reading : Interleaves fence_signalled_between_frames-setup 18 fence_signalled_between_frames-lines
    fence_signalled_between_frames-history
fence_signalled_between_frames-reading = record {
  sessions = (
    record {
      follows = (
        ((tt, record { line = refl; carried = refl; kind = refl }), record { line = refl; carried = refl; kind = refl }),
        record { line = refl; carried = refl; kind = refl },
      );
      ended = refl;
    },
    tt,
  );
  display = (
    (
      (
        ((tt, record { line = refl; carried = refl; kind = refl }), record { line = refl; carried = refl; kind = refl }),
        record { line = refl; carried = refl; kind = refl },
      ),
      record { line = refl; carried = refl; kind = refl },
    ),
    record { line = refl; carried = refl; kind = refl },
  );
  all_read = refl;
}

-- unready present holds back later ones

abbrev pub unready_present_holds_back_later_ones-setup : Setup
unready_present_holds_back_later_ones-setup = record {
  width = 100;
  height = 100;
  sessions = 1;
  probes = 0;
  pairs = (record { viewport = Display; view = s 1 } ∷ []);
  buffers = [];
  fences = (record { owners = (Display ∷ Session (s 1) ∷ []) } ∷ []);
  ratio = 65536;
}

abbrev pub unready_present_holds_back_later_ones-history : List Entry
unready_present_holds_back_later_ones-history = []
    ▹ by (Session (s 1)) 7 ((call.CreateView (p 0)) ∷ []) (kind.View (p 0)) reply.Done
    ▹ by (Session (s 1)) 8 [] (kind.Present (present 0 [] [])) (reply.Presented 1 0)
    ▹ by Display 9 [] (kind.Begin 1) reply.Done
    ▹ by Display 10 [] kind.Finish reply.Done
    ▹ by (Session (s 1)) 11 [] (kind.Present (present 0 [] [])) (reply.Presented 2 4)
    ▹ by (Session (s 1)) 12 [] (kind.Present (present 0 ((f 0) ∷ []) [])) (reply.Presented 3 3)
    ▹ by (Session (s 1)) 13 [] (kind.Present (present 0 [] [])) (reply.Presented 4 2)
    ▹ by Display 14 [] (kind.Begin 2) reply.Done
    ▹ by Display 15 [] kind.Finish reply.Done
    ▹ by Display 16 [] (kind.Signal (f 0)) reply.Done
    ▹ by Display 17 [] (kind.Begin 3) reply.Done
    ▹ by Display 18 [] kind.Finish reply.Done
    ▹ by (Session (s 1)) 19 [] (kind.End 0) reply.Done

pub unready_present_holds_back_later_ones-legal : Legal unready_present_holds_back_later_ones-setup unready_present_holds_back_later_ones-history
unready_present_holds_back_later_ones-legal = legal-by-tests unready_present_holds_back_later_ones-setup unready_present_holds_back_later_ones-history refl
    (((((((((((((tt, refl), refl), refl), refl), refl), refl), refl), refl), refl), refl), refl), refl), refl)

unready_present_holds_back_later_ones-posts : posts unready_present_holds_back_later_ones-setup unready_present_holds_back_later_ones-history
    ≡ (post 2 1 (event.Credits 5) ∷ post 3 1 (event.FramePresented 1) ∷ post 7 1 (event.Credits 1) ∷ post 8 1 (event.FramePresented 1)
    ∷ post 10 1 (event.Credits 2) ∷ post 11 1 (event.FramePresented 2) ∷ [])
unready_present_holds_back_later_ones-posts = refl

abbrev pub unready_present_holds_back_later_ones-lines : List ScriptLine
unready_present_holds_back_later_ones-lines =
    session_line 7 1 (line.Call (call.CreateView (p 0)))
    ∷ session_line 8 1 (line.Present (present 0 [] []))
    ∷ display_line 9 (display.Begin 1)
    ∷ display_line 10 display.Done
    ∷ session_line 11 1 (line.Present (present 0 [] []))
    ∷ session_line 12 1 (line.Present (present 0 ((f 0) ∷ []) []))
    ∷ session_line 13 1 (line.Present (present 0 [] []))
    ∷ display_line 14 (display.Begin 2)
    ∷ display_line 15 display.Done
    ∷ display_line 16 (display.Signal (f 0))
    ∷ display_line 17 (display.Begin 3)
    ∷ display_line 18 display.Done
    ∷ []

unready_present_holds_back_later_ones-reading : Interleaves unready_present_holds_back_later_ones-setup 18 unready_present_holds_back_later_ones-lines
    unready_present_holds_back_later_ones-history
unready_present_holds_back_later_ones-reading = record {
  sessions = (
    record {
      follows = (
        (
          (
            (
              ((tt, record { line = refl; carried = refl; kind = refl }), record { line = refl; carried = refl; kind = refl }),
              record { line = refl; carried = refl; kind = refl },
            ),
            record { line = refl; carried = refl; kind = refl },
          ),
          record { line = refl; carried = refl; kind = refl },
        ),
        record { line = refl; carried = refl; kind = refl },
      );
      ended = refl;
    },
    tt,
  );
  display = (
    (
      (
        (
          (
            ((tt, record { line = refl; carried = refl; kind = refl }), record { line = refl; carried = refl; kind = refl }),
            record { line = refl; carried = refl; kind = refl },
          ),
          record { line = refl; carried = refl; kind = refl },
        ),
        record { line = refl; carried = refl; kind = refl },
      ),
      record { line = refl; carried = refl; kind = refl },
    ),
    record { line = refl; carried = refl; kind = refl },
  );
  all_read = refl;
}

-- present waits for its time

abbrev pub present_waits_for_its_time-setup : Setup
present_waits_for_its_time-setup = record {
  width = 100;
  height = 100;
  sessions = 1;
  probes = 0;
  pairs = (record { viewport = Display; view = s 1 } ∷ []);
  buffers = [];
  fences = [];
  ratio = 65536;
}

abbrev pub present_waits_for_its_time-history : List Entry
present_waits_for_its_time-history = []
    ▹ by (Session (s 1)) 6 ((call.CreateView (p 0)) ∷ []) (kind.View (p 0)) reply.Done
    ▹ by (Session (s 1)) 7 [] (kind.Present (present 1000 [] [])) (reply.Presented 1 0)
    ▹ by (Session (s 1)) 8 [] (kind.Wait (asks.Credits 1)) (reply.Unmet 0)
    ▹ by Display 9 [] (kind.Begin 999) reply.Done
    ▹ by Display 10 [] kind.Finish reply.Done
    ▹ by Display 11 [] (kind.Begin 1000) reply.Done
    ▹ by Display 12 [] kind.Finish reply.Done
    ▹ by (Session (s 1)) 13 [] (kind.End 0) reply.Done

pub present_waits_for_its_time-legal : Legal present_waits_for_its_time-setup present_waits_for_its_time-history
present_waits_for_its_time-legal = legal-by-tests present_waits_for_its_time-setup present_waits_for_its_time-history refl
    ((((((((tt, refl), refl), refl), refl), refl), refl), refl), refl)

present_waits_for_its_time-posts : posts present_waits_for_its_time-setup present_waits_for_its_time-history
    ≡ (post 5 1 (event.Credits 5) ∷ post 6 1 (event.FramePresented 1) ∷ [])
present_waits_for_its_time-posts = refl

abbrev pub present_waits_for_its_time-lines : List ScriptLine
present_waits_for_its_time-lines =
    session_line 6 1 (line.Call (call.CreateView (p 0)))
    ∷ session_line 7 1 (line.Present (present 1000 [] []))
    ∷ session_line 8 1 (line.Wait (asks.Credits 1))
    ∷ display_line 9 (display.Begin 999)
    ∷ display_line 10 display.Done
    ∷ display_line 11 (display.Begin 1000)
    ∷ display_line 12 display.Done
    ∷ []

present_waits_for_its_time-reading : Interleaves present_waits_for_its_time-setup 12 present_waits_for_its_time-lines present_waits_for_its_time-history
present_waits_for_its_time-reading = record {
  sessions = (
    record {
      follows = (
        (
          ((tt, record { line = refl; carried = refl; kind = refl }), record { line = refl; carried = refl; kind = refl }),
          record { line = refl; carried = refl; kind = refl },
        ),
        record { line = refl; carried = refl; kind = refl },
      );
      ended = refl;
    },
    tt,
  );
  display = (
    (
      ((tt, record { line = refl; carried = refl; kind = refl }), record { line = refl; carried = refl; kind = refl }),
      record { line = refl; carried = refl; kind = refl },
    ),
    record { line = refl; carried = refl; kind = refl },
  );
  all_read = refl;
}

-- second present before a frame closes

abbrev pub second_present_before_a_frame_closes-setup : Setup
second_present_before_a_frame_closes-setup = record {
  width = 100;
  height = 100;
  sessions = 1;
  probes = 0;
  pairs = (record { viewport = Display; view = s 1 } ∷ []);
  buffers = [];
  fences = [];
  ratio = 65536;
}

abbrev pub second_present_before_a_frame_closes-history : List Entry
second_present_before_a_frame_closes-history = []
    ▹ by (Session (s 1)) 6 ((call.CreateView (p 0)) ∷ []) (kind.View (p 0)) reply.Done
    ▹ by (Session (s 1)) 7 [] (kind.Present (present 0 [] [])) (reply.Presented 1 0)
    ▹ by (Session (s 1)) 8 [] (kind.Present (present 0 [] [])) (reply.Closed (Some error.NoPresentsRemaining) None)
    ▹ by (Session (s 1)) 10 [] (kind.End 1) reply.Done

pub second_present_before_a_frame_closes-legal : Legal second_present_before_a_frame_closes-setup second_present_before_a_frame_closes-history
second_present_before_a_frame_closes-legal = legal-by-tests second_present_before_a_frame_closes-setup second_present_before_a_frame_closes-history refl
    ((((tt, refl), refl), refl), refl)

second_present_before_a_frame_closes-posts : posts second_present_before_a_frame_closes-setup second_present_before_a_frame_closes-history ≡ []
second_present_before_a_frame_closes-posts = refl

abbrev pub second_present_before_a_frame_closes-lines : List ScriptLine
second_present_before_a_frame_closes-lines =
    session_line 6 1 (line.Call (call.CreateView (p 0)))
    ∷ session_line 7 1 (line.Present (present 0 [] []))
    ∷ session_line 8 1 (line.Present (present 0 [] []))
    ∷ session_line 9 1 (line.Poll)
    ∷ []

second_present_before_a_frame_closes-reading : Interleaves second_present_before_a_frame_closes-setup 9 second_present_before_a_frame_closes-lines
    second_present_before_a_frame_closes-history
second_present_before_a_frame_closes-reading = record {
  sessions = (
    record {
      follows = (
        (
          ((tt, record { line = refl; carried = refl; kind = refl }), record { line = refl; carried = refl; kind = refl }),
          record { line = refl; carried = refl; kind = refl },
        ),
        record { line = refl; carried = refl; kind = refl },
      );
      ended = refl;
    },
    tt,
  );
  display = tt;
  all_read =
      refl;
}

-- misuse b01 zero id

abbrev pub b01_zero_id-setup : Setup
b01_zero_id-setup = record {
  width = 100;
  height = 100;
  sessions = 1;
  probes = 0;
  pairs = (record { viewport = Display; view = s 1 } ∷ []);
  buffers = [];
  fences = [];
  ratio = 65536;
}

abbrev pub b01_zero_id-history : List Entry
b01_zero_id-history = []
    ▹ by (Session (s 1)) 6 ((call.CreateTransform (t 0)) ∷ []) (kind.Close (Some reason.ZeroId)) (reply.Closed (Some error.BadOperation) (Some reason.ZeroId))
    ▹ by (Session (s 1)) 7 [] (kind.End 0) reply.Done

pub b01_zero_id-legal : Legal b01_zero_id-setup b01_zero_id-history
b01_zero_id-legal = legal-by-tests b01_zero_id-setup b01_zero_id-history refl ((tt, refl), refl)

b01_zero_id-posts : posts b01_zero_id-setup b01_zero_id-history ≡ []
b01_zero_id-posts = refl

abbrev pub b01_zero_id-lines : List ScriptLine
b01_zero_id-lines =
    session_line 6 1 (line.Call (call.CreateTransform (t 0)))
    ∷ []

b01_zero_id-reading : Interleaves b01_zero_id-setup 6 b01_zero_id-lines b01_zero_id-history
b01_zero_id-reading = record {
  sessions = (
    record {
      follows =
          ((tt, record { line = refl; carried = refl; kind = refl }), record { line = refl; carried = refl; kind = refl });
      ended = refl;
    },
    tt,
  );
  display = tt;
  all_read = refl;
}
