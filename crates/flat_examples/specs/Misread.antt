-- Histories that are legal and yet no reading of a script, and readings that are not in written order.
use Rattle.std.specs.Prelude.{ℕ, List, [], ◌∷◌}
use Rattle.flat_base.specs.declared.ids.Actor.TheVariants.{Display, Session}
use Rattle.flat_base.specs.declared.errors.Reason.{Reason}
use Rattle.flat_base.specs.declared.errors.Reason.TheVariants.{ZeroId}
use Rattle.flat_scene.specs.declared.calls.Call.{Call}
use Rattle.flat_scene.specs.declared.calls.Call.TheVariants as call
use Rattle.flat_scene.specs.declared.journal.Entry.{Entry}
use Rattle.flat_scene.specs.declared.journal.EntryKind.TheVariants as kind
use Rattle.flat_scene.specs.declared.journal.Reply.TheVariants as reply
use Rattle.flat_scene.specs.declared.script.LineBody.TheVariants as body
use Rattle.flat_scene.specs.declared.script.DisplayLine.{DisplayLine}
use Rattle.flat_scene.specs.declared.script.DisplayLine.TheVariants as display
use Rattle.flat_scene.specs.declared.script.SessionLine.{SessionLine}
use Rattle.flat_scene.specs.declared.script.SessionLine.TheVariants as line
use Rattle.flat_scene.specs.declared.script.ScriptLine.{ScriptLine}
use Rattle.flat_scene.specs.declared.setup.Setup.{Setup}
use Rattle.flat_scene.specs.History.{◌▹◌}
use Rattle.flat_scene.specs.Interleave.{Interleaves, IsWritten}
use Rattle.flat_rules.specs.Legal.{Legal}
use Rattle.flat_examples.specs.Words.{s, p, t, by_session, by_display}
use Rattle.flat_examples.specs.Refused.{home, views, polls, closes, leaves, ends}

-- Two histories are legal; the first interleaves the script, and the second does not.
pub record Misreads (setup : Setup) (count : ℕ) (lines : List ScriptLine) (right wrong : List Entry) : Type 0 where
  pub right_legal : Legal setup right
  pub reads : Interleaves setup count lines right
  pub wrong_legal : Legal setup wrong
  pub refused : ¬ (Interleaves setup count lines wrong)

-- Two histories interleave the script; the first is in written order, and the second is not.
pub record Reorders (setup : Setup) (count : ℕ) (lines : List ScriptLine) (right wrong : List Entry) : Type 0 where
  pub right_reads : Interleaves setup count lines right
  pub written : IsWritten setup right
  pub wrong_reads : Interleaves setup count lines wrong
  pub refused : ¬ (IsWritten setup wrong)

-- a line of a session, and of the display
abbrev pub of_session : ℕ → ℕ → SessionLine → ScriptLine
of_session number who text = record { number = number; actor = Session (s who); body = body.Session text }

abbrev pub of_display : ℕ → DisplayLine → ScriptLine
of_display number text = record { number = number; actor = Display; body = body.Display text }

-- the ends of both sessions after two lines
abbrev pub ended : List Entry → List Entry
ended before = before ▹ by_session 1 3 [] (kind.End 0) reply.Done ▹ by_session 2 3 [] (kind.End 0) reply.Done

-- ---- a view, which is line 1, and a poll, which is line 2

abbrev pub view_line : Entry
view_line = views 1 (call.CreateView (p 0) ∷ []) reply.Done

abbrev pub poll_line : Entry
poll_line = polls 1 2 []

abbrev pub view_then_poll : List ScriptLine
view_then_poll = of_session 1 1 (line.Call (call.CreateView (p 0))) ∷ of_session 2 1 line.Poll ∷ []

abbrev pub in_order : List Entry
in_order = [] ▹ view_line ▹ poll_line

-- the lines are read backwards
abbrev pub backwards : List Entry
backwards = ended ([] ▹ poll_line ▹ view_line)

abbrev pub LinesGoBack : Type 0
LinesGoBack = Misreads home 2 view_then_poll (ended in_order) backwards

-- a line is left out
abbrev pub skipped : List Entry
skipped = ended ([] ▹ view_line)

abbrev pub LineIsSkipped : Type 0
LineIsSkipped = Misreads home 2 view_then_poll (ended in_order) skipped

-- session 2 has no End
abbrev pub half_ended : List Entry
half_ended = in_order ▹ by_session 1 3 [] (kind.End 0) reply.Done

abbrev pub EndIsMissing : Type 0
EndIsMissing = Misreads home 2 view_then_poll (ended in_order) half_ended

-- ---- closes: the script decides whether there is one, and how many lines are refused after it

-- session 1 closes at line 2, by its own wish or for a reason
abbrev pub left_with : List Call → List Entry
left_with carried = ended ([] ▹ leaves 2 carried)

abbrev pub closed_for : Reason → List Call → List Entry
closed_for why carried = ended ([] ▹ closes 2 carried why)

-- a session leaves, and is closed for a get of content 0 that it didn't make
abbrev pub good_call : List Call
good_call = call.CreateTransform (t 1) ∷ []

abbrev pub call_then_leave : List ScriptLine
call_then_leave = of_session 1 1 (line.Call (call.CreateTransform (t 1))) ∷ of_session 2 1 line.Disconnect ∷ []

abbrev pub CloseWithoutMisuse : Type 0
CloseWithoutMisuse = Misreads home 2 call_then_leave (left_with good_call) (closed_for ZeroId good_call)

-- the End after a close counts a line that isn't there
abbrev pub miscounted : List Entry
miscounted = [] ▹ leaves 2 good_call ▹ ends 3 1 [] ▹ by_session 2 3 [] (kind.End 0) reply.Done

abbrev pub OtherCount : Type 0
OtherCount = Misreads home 2 call_then_leave (left_with good_call) miscounted

-- ---- the display's lines

abbrev pub begin_then_done : List ScriptLine
begin_then_done = of_display 1 (display.Begin 10) ∷ of_display 2 display.Done ∷ []

abbrev pub frame : ℕ → List Entry
frame time = [] ▹ by_display 1 (kind.Begin time) ▹ by_display 2 kind.Finish

-- the display's last line is not read
abbrev pub half_framed : List Entry
half_framed = ended ([] ▹ by_display 1 (kind.Begin 10))

abbrev pub DisplayStopsEarly : Type 0
DisplayStopsEarly = Misreads home 2 begin_then_done (ended (frame 10)) half_framed

-- a begin has another time than its line
abbrev pub OtherTime : Type 0
OtherTime = Misreads home 2 begin_then_done (ended (frame 10)) (ended (frame 11))

-- ---- two sessions' lines

abbrev pub two_polls : List ScriptLine
two_polls = of_session 1 1 line.Poll ∷ of_session 2 2 line.Poll ∷ []

abbrev pub written : List Entry
written = ended ([] ▹ polls 1 1 [] ▹ polls 2 2 [])

-- the second session comes before the first, as it may in a race
abbrev pub crossed : List Entry
crossed = ended ([] ▹ polls 2 2 [] ▹ polls 1 1 [])

abbrev pub OthersComeFirst : Type 0
OthersComeFirst = Reorders home 2 two_polls written crossed

-- the sessions end in another order
abbrev pub swapped : List Entry
swapped = [] ▹ polls 1 1 [] ▹ polls 2 2 [] ▹ by_session 2 3 [] (kind.End 0) reply.Done ▹ by_session 1 3 []
    (kind.End 0) reply.Done

abbrev pub EndsCross : Type 0
EndsCross = Reorders home 2 two_polls written swapped
