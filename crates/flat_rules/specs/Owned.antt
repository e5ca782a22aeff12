-- Which lines an actor may read: they name only what a session owns, or what is declared.
use Rattle.std.specs.Prelude.{Bool, true, false, ◌&&◌}
use Rattle.std.specs.List.{list_all}
use Rattle.flat_base.specs.declared.ids.SessionNo.{SessionNo}
use Rattle.flat_scene.specs.declared.calls.Call.{Call}
use Rattle.flat_scene.specs.declared.calls.Call.TheVariants.{CreateView, CreateViewport, CreateImage}
use Rattle.flat_scene.specs.declared.script.WaitCondition.{WaitCondition}
use Rattle.flat_scene.specs.declared.script.WaitCondition.TheVariants as asks
use Rattle.flat_scene.specs.declared.script.DisplayLine.{DisplayLine}
use Rattle.flat_scene.specs.declared.script.DisplayLine.TheVariants as display
use Rattle.flat_scene.specs.declared.script.SessionLine.{SessionLine}
use Rattle.flat_scene.specs.declared.script.SessionLine.TheVariants as line
use Rattle.flat_scene.specs.declared.setup.Setup.{Setup}
use Rattle.flat_scene.specs.Setups.{is_declared, is_ratio}
use Rattle.flat_rules.specs.Legal.{owns_view, owns_viewport, owns_fence, owns_buffers, display_owns}

-- a call that uses no end; an image is of buffers that the session owns
abbrev pub is_private : Setup → SessionNo → Call → Bool
is_private setup s (CreateView pair) = false
is_private setup s (CreateViewport c pair w h inset) = false
is_private setup s (CreateImage c buffers i w h) = owns_buffers setup s buffers
is_private setup s _ = true

-- a call that is played: a view is of a pair whose view end the session owns, a viewport of one whose viewport end it
-- owns, and an image of its buffers
abbrev pub is_played_call : Setup → SessionNo → Call → Bool
is_played_call setup s (CreateView pair) = owns_view setup s pair
is_played_call setup s (CreateViewport c pair w h inset) = owns_viewport setup s pair
is_played_call setup s call = is_private setup s call

-- what a session may wait for: a fence is its own
abbrev pub is_played_condition : Setup → SessionNo → WaitCondition → Bool
is_played_condition setup s (asks.Frames n) = true
is_played_condition setup s (asks.Credits n) = true
is_played_condition setup s (asks.Taken n) = true
is_played_condition setup s (asks.Answers n) = true
is_played_condition setup s (asks.Fence f) = owns_fence setup s f
is_played_condition setup s (asks.Presents other n) = false

-- a line of a session: it names only what the session owns
abbrev pub is_played_line : Setup → SessionNo → SessionLine → Bool
is_played_line setup s (line.Call call) = is_played_call setup s call
is_played_line setup s (line.Present args) =
    list_all (owns_fence setup s) args.acquire && list_all (owns_fence setup s) args.release
is_played_line setup s (line.Get watch) = true
is_played_line setup s (line.Signal f) = owns_fence setup s f
is_played_line setup s line.Poll = true
is_played_line setup s (line.Wait c) = is_played_condition setup s c
is_played_line setup s line.Disconnect = true

-- a line of the display: it names only fences of the display, declared sessions, and a pixel ratio that a display may
-- have
abbrev pub is_played_display : Setup → DisplayLine → Bool
is_played_display setup (display.Begin time) = true
is_played_display setup display.Done = true
is_played_display setup (display.Signal f) = display_owns setup f
is_played_display setup (display.Wait (asks.Presents s n)) = is_declared setup s
is_played_display setup (display.Wait (asks.Fence f)) = display_owns setup f
is_played_display setup (display.Hit x y) = true
is_played_display setup (display.Dpr ratio) = is_ratio ratio
is_played_display setup _ = false
