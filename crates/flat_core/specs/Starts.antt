-- What a begin decides of its frame.
use Rattle.std.specs.Prelude.{◌≡◌, Bool, true, false, not, ◌&&◌, List, [], ◌∷◌, ◌++◌, Some, slice_get, ℕ}
use Rattle.std.specs.List.{list_any}
use Rattle.flat_base.specs.declared.ids.SessionNo.{SessionNo}
use Rattle.flat_scene.specs.declared.journal.Entry.{Entry}
use Rattle.flat_scene.specs.declared.script.DisplayLine.{DisplayLine}
use Rattle.flat_scene.specs.declared.script.DisplayLine.TheVariants as display
use Rattle.flat_scene.specs.declared.setup.Setup.{Setup}
use Rattle.flat_scene.specs.Frames.{going, is_ready, is_signalled, is_unsquashable, ratio, waiting}
use Rattle.flat_scene.specs.History.{is_closed, Published}
use Rattle.flat_states.specs.Machines.{Machine}
use Rattle.flat_rules.specs.Ends.{to_begin}
use Rattle.flat_rules.specs.Shown.{shown, shown_states, tree_of}
use Rattle.flat_topology.specs.Changes.{AreSame}
use Rattle.flat_core.specs.declared.start.FrameStart.{FrameStart}
use Rattle.flat_core.specs.Views.{AreViewed}

-- What a frame starts with is that of the last begin: what is shown, the pixel ratio, and who has a view.
pub record IsStart (setup : Setup) (history : List Entry) (start : FrameStart) : Type 0 where
  pub shows : start.shown ≡ shown_states setup (to_begin history)
  pub scales : start.ratio ≡ ratio setup (to_begin history)
  pub views : AreViewed setup (to_begin history) start.with_view

-- A frame has begun: besides, which sessions may show another state than before.
pub record StartsFrame (setup : Setup) (history : List Entry) (old new : FrameStart) : Type 0 where
  pub start : IsStart setup history new
  pub changed : AreSame new.changed old.shown new.shown

-- A begin takes the longest ready prefix of each open session: the first present that still waits wasn't ready, or
-- follows an unsquashable one that was taken; and an unsquashable one that was taken is the last, and is shown.
pub record TakesReady (old : Machine) (history : List Entry) (time : ℕ) : Type 0 where
  pub next : (s : SessionNo) (present : Published) → is_closed s old.history ≡ false
      → slice_get (waiting old.setup history s) 0 ≡ Some present
      → (not (list_any is_unsquashable (going old.setup history s))
      && is_ready time (is_signalled old.setup old.history) present.args) ≡ false
  pub unsquashable : (s : SessionNo) (earlier later : List Published) (present : Published)
      → is_closed s old.history ≡ false
      → going old.setup history s ≡ earlier ++ present ∷ later → is_unsquashable present ≡ true
      → (later ≡ []) × (shown old.setup history s ≡ tree_of old.setup present)

-- a line of the display that begins no frame and ends none
abbrev pub is_beside : DisplayLine → Bool
is_beside (display.Begin time) = false
is_beside display.Done = false
is_beside _ = true
