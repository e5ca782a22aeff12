-- What stands of a run that stopped somewhere in its script.
use Rattle.std.specs.Prelude.{◌≡◌, List}
use Rattle.std.specs.List.{AllByRecursion}
use Rattle.flat_scene.specs.declared.frames.FrameOut.{FrameOut}
use Rattle.flat_scene.specs.declared.journal.Entry.{Entry}
use Rattle.flat_scene.specs.Frames.{sessions_to}
use Rattle.flat_scene.specs.History.{own}
use Rattle.flat_scene.specs.Interleave.{Follows, FollowsDisplay, by_display, display_lines, session_lines}
use Rattle.flat_rules.specs.Legal.{Legal}
use Rattle.flat_report.specs.Report.{finished}
use Rattle.flat_places.specs.declared.script.Script.{Script}

-- A history begins a script: it is legal, and each actor's entries are the reading of its lines so far.
pub record Begins (script : Script) (history : List Entry) : Type 0 where
  pub legal : Legal script.setup history
  pub sessions : AllByRecursion (λ s. Follows script.setup script.count (session_lines s script.lines) (own s history))
      (sessions_to script.setup.sessions)
  pub display : FollowsDisplay (display_lines script.lines) (by_display history)

-- These are the frames that such a history finished.
pub record AreBegun (script : Script) (shown : List FrameOut) : Type 0 where
  pub history : List Entry
  pub begins : Begins script history
  pub are : shown ≡ finished script.setup history
