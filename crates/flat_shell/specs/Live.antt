-- The compositor of a live stage: what it may enter, and what it knows.
use Rattle.std.specs.Prelude.{◌≡◌, ℕ, ◌+◌, ◌-◌, ◌<◌, ◌≤◌, ◌^◌, Bool, true, false, cond, List, length, slice_index}
use Rattle.std.specs.Prelude.{Option, Some, None, Result, Ok, Err}
use Rattle.std.specs.Arc.{arc_value}
use Rattle.flat_base.specs.Last.{last_item}
use Rattle.flat_base.specs.declared.ids.Actor.TheVariants.{Display}
use Rattle.flat_scene.specs.declared.frames.FrameOut.{FrameOut}
use Rattle.flat_scene.specs.declared.journal.Entry.{Entry}
use Rattle.flat_scene.specs.declared.journal.EntryKind.{EntryKind}
use Rattle.flat_scene.specs.declared.journal.Reply.{Reply}
use Rattle.flat_scene.specs.declared.script.WaitCondition.{WaitCondition}
use Rattle.flat_scene.specs.declared.script.DisplayLine.{DisplayLine}
use Rattle.flat_scene.specs.declared.script.DisplayLine.TheVariants as display
use Rattle.flat_scene.specs.declared.setup.Setup.{Setup}
use Rattle.flat_scene.specs.Frames.{ratio}
use Rattle.flat_scene.specs.Heads.{is_setup}
use Rattle.flat_scene.specs.Journals.{history_of}
use Rattle.flat_rules.specs.Ends.{to_begin, to_finished}
use Rattle.flat_rules.specs.Legal.{Legal, asked_of, begin_time, frames, is_frame_open, value_of}
use Rattle.flat_rules.specs.Owned.{is_played_display}
use Rattle.flat_rules.specs.Shown.{shown_states}
use Rattle.flat_scene.specs.declared.frames.SessionSet.{SessionSet}
use Rattle.flat_topology.specs.Changes.{AreSame}
use Rattle.flat_topology.specs.Shown.{Shown}
use Rattle.flat_report.specs.Report.{finished, frame_at}
use Rattle.flat_play.specs.declared.frame.LastFrame.{LastFrame}
use Rattle.flat_play.specs.Last.{IsLast}
use Rattle.flat_stage.specs.Displays.{CompositorView, DisplayEnters, DisplaySees, DisplayView}
use Rattle.flat_stage.specs.Seats.{entries_of_seat, setup_of, shares_of}
use Rattle.flat_shell.specs.declared.fault.DisplayFault.{DisplayFault}
use Rattle.flat_shell.specs.declared.fault.DisplayFault.TheVariants.{Full, NotOwned, Unmet}
use Rattle.flat_shell.specs.declared.compositor_parts.CompositorParts.{CompositorParts}

-- ---- what callers see

-- how many entries the display may still make
abbrev pub left : DisplayView → ℕ
left seat = slice_index (shares_of seat.stage) 0 - length seat.mine

-- a frame may begin at a time: there is room for its begin and its done, and the last one didn't begin later
abbrev pub MayBegin : ℕ → DisplayView → Type 0
MayBegin time seat = (2 ≤ left seat) × (begin_time (history_of seat.mine) ≤ time)

-- what came of a line of the display that makes an entry of a kind
abbrev pub Enters : DisplayLine → EntryKind → DisplayView → DisplayView → Result (Unit {0}) DisplayFault → Type 0
Enters text kind old new (Ok done) = (reply : Reply) × DisplayEnters (length old.mine + 1) kind reply old new
Enters text kind old new (Err NotOwned) = (is_played_display (setup_of old.stage) text ≡ false) × (new ≡ old)
Enters text kind old new (Err Full) = (left old ≡ 0) × (new ≡ old)
Enters text kind old new (Err (Unmet value)) = ⊥

-- The display looked at a condition, and had that value, at a point of a legal history that begins with all that it had
-- seen.
pub record HasLooked (c : WaitCondition) (value : ℕ) (old new : DisplayView) : Type 0 where
  pub own : is_played_display (setup_of old.stage) (display.Wait c) ≡ true
  pub value_then : value ≡ value_of (setup_of old.stage) (history_of new.seen) Display c
  pub legal : Legal (setup_of old.stage) (history_of new.seen)
  pub whole : new.mine ≡ entries_of_seat 0 new.seen
  pub sees : DisplaySees old new

-- what came of a wait of the display
abbrev pub Waits : WaitCondition → DisplayView → DisplayView → Result ℕ DisplayFault → Type 0
Waits c old new (Ok value) = HasLooked c value old new × (asked_of c ≤ value)
Waits c old new (Err (Unmet value)) = HasLooked c value old new × (value < asked_of c)
Waits c old new (Err NotOwned) = (is_played_display (setup_of old.stage) (display.Wait c) ≡ false) × (new ≡ old)
Waits c old new (Err Full) = ⊥

-- the frame that is composed of the last begin
abbrev pub next_frame : DisplayView → FrameOut
next_frame seat = frame_at (setup_of seat.stage) (frames (history_of seat.seen) + 1) (to_begin (history_of seat.seen))

-- ---- what a compositor knows

-- What is kept beside a seat, while a frame is open or not: its stage, the setup and the share of this, the number of
-- its entries, when the last frame began, and the last finished frame.
pub record IsKept (is_open : Bool) (keeper : CompositorParts) (seat : DisplayView) : Type 0 where
  pub own : seat.stage ≡ arc_value keeper.stage
  pub setup : arc_value keeper.setup ≡ setup_of seat.stage
  pub valid : is_setup (setup_of seat.stage) ≡ true
  pub share : keeper.share ≡ slice_index (shares_of seat.stage) 0
  pub few : keeper.share < 2 ^ 32
  pub made : keeper.made ≡ length seat.mine
  pub room : length seat.mine + cond is_open 1 0 ≤ slice_index (shares_of seat.stage) 0
  pub time : keeper.time ≡ begin_time (history_of seat.mine)
  pub whole : seat.mine ≡ entries_of_seat 0 seat.seen
  pub legal : Legal (setup_of seat.stage) (history_of seat.seen)
  pub frame : is_frame_open (history_of seat.seen) ≡ is_open
  pub frames : keeper.frames.0 ≡ frames (history_of seat.seen)
  pub shown : keeper.shown ≡ last_item (finished (setup_of seat.stage) (history_of seat.seen))

-- what is composed is the last finished frame, or nothing before the first
pub record HasLast (setup : Setup) (history : List Entry) (last : LastFrame) : Type 0 where
  pub is : IsLast setup last
  pub number : last.frame.0 ≡ frames history
  pub showing : last.reuse ≡ shown_states setup (to_finished history)
  pub scaling : last.ratio ≡ ratio setup (to_finished history)

-- what is known of the last frame while another is open: its number, and which sessions show something else now
pub record GoesBefore (setup : Setup) (seat : DisplayView) (changed : SessionSet) (shown : Shown)
    (last : LastFrame) : Type 0 where
  pub is : IsLast setup last
  pub number : last.frame.0 ≡ frames (history_of seat.seen)
  pub same : AreSame changed last.reuse shown

-- nothing is known of it after memory ran out
abbrev pub MayGoBefore : Setup → CompositorView → Option LastFrame → Type 0
MayGoBefore setup compositor None = Unit {0}
MayGoBefore setup compositor (Some last) =
    GoesBefore setup compositor.display compositor.start.changed compositor.start.shown last

-- what is composed is the last begin
pub record IsComposed (setup : Setup) (history : List Entry) (last : LastFrame) : Type 0 where
  pub is : IsLast setup last
  pub showing : last.reuse ≡ shown_states setup (to_begin history)
  pub scaling : last.ratio ≡ ratio setup (to_begin history)
