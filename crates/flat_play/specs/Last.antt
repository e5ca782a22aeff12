-- The last finished frame, as it is kept.
use Rattle.std.specs.Prelude.{◌≡◌, ◌+◌, ◌<◌, ◌^◌, ℕ, ℤ, List, Option, Some, None, length}
use Rattle.std.specs.Arc.{arc_value}
use Rattle.std.specs.declared.sync.Arc.{Arc}
use Rattle.flat_base.specs.declared.ids.Actor.TheVariants.{Display}
use Rattle.flat_scene.specs.declared.journal.Entry.{Entry}
use Rattle.flat_scene.specs.declared.setup.Setup.{Setup}
use Rattle.flat_scene.specs.Frames.{ratio}
use Rattle.flat_scene.specs.Setups.{at_ratio}
use Rattle.flat_rules.specs.Ends.{to_finished}
use Rattle.flat_rules.specs.Legal.{frames}
use Rattle.flat_rules.specs.Shown.{shown_states}
use Rattle.flat_topology.specs.declared.GlobalTopology.{GlobalTopology}
use Rattle.flat_topology.specs.Changes.{AreSame}
use Rattle.flat_topology.specs.Connected.{joined_lists}
use Rattle.flat_topology.specs.Fit.{FitsSetup}
use Rattle.flat_topology.specs.Hits.{hit_list}
use Rattle.flat_topology.specs.Shown.{Shown}
use Rattle.flat_report.specs.declared.report.HitAnswer.{HitAnswer}
use Rattle.flat_core.specs.declared.start.FrameStart.{FrameStart}
use Rattle.flat_play.specs.declared.frame.LastFrame.{LastFrame}

-- what is joined, if anything is, are these states
abbrev pub IsJoined : {Z : Type 0} → Setup → Shown → Option (Arc GlobalTopology Z) → Type 0
IsJoined setup shown None = Unit {0}
IsJoined setup shown (Some joined) = arc_value joined ≡ joined_lists setup shown

-- What the frame shows fits the setup, and nothing else is joined of it, at the frame's pixel ratio.
pub record IsLast (setup : Setup) (last : LastFrame) : Type 0 where
  pub count : length last.reuse ≡ setup.sessions
  pub fits : FitsSetup setup last.reuse
  pub joined : IsJoined (at_ratio last.ratio setup) last.reuse last.joined

-- It is the last one that a history finishes, or shows nothing if there is none.
pub record EndsFrames (setup : Setup) (history : List Entry) (last : LastFrame) : Type 0 where
  pub number : last.frame.0 ≡ frames history
  pub is : IsLast setup last
  pub shows : last.reuse ≡ shown_states setup (to_finished history)
  pub scales : last.ratio ≡ ratio setup (to_finished history)

-- It stays what it is, whatever is joined of it.
pub record StaysLast (setup : Setup) (old new : LastFrame) : Type 0 where
  pub frame : new.frame ≡ old.frame
  pub ratio : new.ratio ≡ old.ratio
  pub reuse : new.reuse ≡ old.reuse
  pub is : IsLast setup new

-- ---- the frame after it

-- A frame may follow that starts so: what it shows fits the setup, and outside of the sessions that changed it is what
-- the last one shows.
pub record MayFollow (setup : Setup) (start : FrameStart) (last : LastFrame) : Type 0 where
  pub count : length start.shown ≡ setup.sessions
  pub fits : FitsSetup setup start.shown
  pub same : AreSame start.changed last.reuse start.shown
  pub few : last.frame.0 + 1 < 2 ^ 32

-- It shows what a frame started with.
pub record ShowsStart (setup : Setup) (start : FrameStart) (last : LastFrame) : Type 0 where
  pub is : IsLast setup last
  pub shows : last.reuse ≡ start.shown
  pub scales : last.ratio ≡ start.ratio

-- ---- points

-- the answer to a point that the display asks for, by the last finished frame
abbrev pub point_answer : Setup → LastFrame → ℕ → ℤ → ℤ → HitAnswer
point_answer setup last number x y = record {
  actor = Display;
  line = number;
  frame = last.frame;
  hits = hit_list (at_ratio last.ratio setup) last.reuse x y;
}
