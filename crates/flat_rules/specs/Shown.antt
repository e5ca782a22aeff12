-- What a frame shows of each session, and who is connected to the display. The history ends with the frame's begin.
use Rattle.std.specs.Prelude.{Bool, false, cond, ◌==◌, List, map, Option, Some, None, option_and_then}
use Rattle.std.specs.Result.{result_ok}
use Rattle.flat_base.specs.declared.ids.PairNo.{PairNo}
use Rattle.flat_base.specs.declared.ids.SessionNo.{SessionNo}
use Rattle.flat_scene.specs.declared.journal.Entry.{Entry}
use Rattle.flat_scene.specs.declared.setup.Setup.{Setup}
use Rattle.flat_scene.specs.declared.trees.Tree.{Tree}
use Rattle.flat_scene.specs.Draft.{of_serial}
use Rattle.flat_scene.specs.Effect.{draft_of}
use Rattle.flat_scene.specs.Frames.{taken, sessions_to}
use Rattle.flat_scene.specs.History.{is_closed, presents, Published}
use Rattle.flat_scene.specs.Tree.{tree}
use Rattle.flat_topology.specs.Join.{is_joined}
use Rattle.flat_topology.specs.Shown.{Shown}

-- whether it is that pair
abbrev pub is_pair : Option PairNo → PairNo → Bool
is_pair (Some q) p = q.0 == p.0
is_pair None p = false

module _ (setup : Setup) where
  -- the tree that a present shows: that of all calls up to it
  abbrev pub tree_of : Published → Option Tree
  tree_of present = option_and_then tree (result_ok (draft_of setup present.made))

  -- the last present that a frame took, if one did
  abbrev pub last_taken : List Entry → SessionNo → Option Published
  last_taken history s = of_serial (presents s history) (taken setup history s)

  -- what is shown of a session
  abbrev pub shown : List Entry → SessionNo → Option Tree
  shown history s = cond (is_closed s history) None (option_and_then tree_of (last_taken history s))

  -- what is shown of all sessions
  abbrev pub shown_states : List Entry → Shown
  shown_states history = map (shown history) (sessions_to setup.sessions)

  -- the pair of the view that a session shows
  abbrev pub shown_view : List Entry → SessionNo → Option PairNo
  shown_view history s = option_and_then (λ t. t.view) (shown history s)

  -- whether a session is connected to the display
  abbrev pub is_connected : List Entry → SessionNo → Bool
  is_connected history s = is_joined setup (shown_states history) s.0
