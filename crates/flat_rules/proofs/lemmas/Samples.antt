-- Words for the runs that are computed.
use Rattle.std.proofs.Common.{false, ℕ, List}
use Rattle.flat_base.specs.declared.ids.Actor.{Actor}
use Rattle.flat_base.specs.declared.ids.Actor.TheVariants.{Display, Session}
use Rattle.flat_base.specs.declared.ids.ContentId.{ContentId}
use Rattle.flat_base.specs.declared.ids.FenceNo.{FenceNo}
use Rattle.flat_base.specs.declared.ids.PairNo.{PairNo}
use Rattle.flat_base.specs.declared.ids.SessionNo.{SessionNo}
use Rattle.flat_base.specs.declared.ids.TransformId.{TransformId}
use Rattle.flat_base.specs.declared.limits.TheConstants.{ONE}
use Rattle.flat_scene.specs.declared.calls.Call.{Call}
use Rattle.flat_scene.specs.declared.calls.PresentArgs.{PresentArgs}
use Rattle.flat_scene.specs.declared.journal.Entry.{Entry}
use Rattle.flat_scene.specs.declared.journal.Event.{Event}
use Rattle.flat_scene.specs.declared.journal.EntryKind.{EntryKind}
use Rattle.flat_scene.specs.declared.journal.Layout.{Layout}
use Rattle.flat_scene.specs.declared.journal.PostedEvent.{PostedEvent}
use Rattle.flat_scene.specs.declared.journal.Reply.{Reply}
use Rattle.flat_scene.specs.declared.script.LineBody.TheVariants as body
use Rattle.flat_scene.specs.declared.script.DisplayLine.{DisplayLine}
use Rattle.flat_scene.specs.declared.script.SessionLine.{SessionLine}
use Rattle.flat_scene.specs.declared.script.ScriptLine.{ScriptLine}

abbrev pub s : ℕ → SessionNo
s n = record { 0 = n }

abbrev pub f : ℕ → FenceNo
f n = record { 0 = n }

abbrev pub p : ℕ → PairNo
p n = record { 0 = n }

abbrev pub t : ℕ → TransformId
t n = record { 0 = n }

abbrev pub c : ℕ → ContentId
c n = record { 0 = n }

abbrev pub by : Actor → ℕ → List Call → EntryKind → Reply → Entry
by actor line calls kind reply = record { actor = actor; line = line; calls = calls; kind = kind; reply = reply }

abbrev pub present : ℕ → List FenceNo → List FenceNo → PresentArgs
present time acquire release = record { time = time; acquire = acquire; release = release; unsquashable = false }

abbrev pub layout : ℕ → ℕ → ℕ → ℕ → ℕ → ℕ → Layout
layout w h top right bottom left = record { w = w; h = h; inset = record { top = top; right = right; bottom = bottom; left = left }; ratio = ONE }

abbrev pub post : ℕ → ℕ → Event → PostedEvent
post entry session event = record { entry = entry; session = s session; event = event }

abbrev pub session_line : ℕ → ℕ → SessionLine → ScriptLine
session_line number session line = record { number = number; actor = Session (s session); body = body.Session line }

abbrev pub display_line : ℕ → DisplayLine → ScriptLine
display_line number line = record { number = number; actor = Display; body = body.Display line }
