-- Pointers' lines that stand beside a script:
-- whom a pointer that goes down hits, in the frame that was finished last before its line.
use Rattle.std.specs.Prelude.{ℕ, ◌+◌, cond, ◌&&◌, nat_lt, List, []}
use Rattle.flat_scene.specs.declared.frames.Hit.{Hit}
use Rattle.flat_scene.specs.declared.journal.Entry.{Entry}
use Rattle.flat_scene.specs.declared.setup.Setup.{Setup}
use Rattle.flat_scene.specs.History.{◌▹◌, is_finish}
use Rattle.flat_report.specs.Report.{begin_of, hits_at}
use Rattle.flat_pointer.specs.declared.text.PointerCall.{PointerCall}
use Rattle.flat_pointer.specs.declared.text.PointerCall.TheVariants.{Down}
use Rattle.flat_pointer.specs.declared.text.PointerLine.{PointerLine}
use Rattle.flat_pointer.specs.declared.text.PointerTouch.{PointerTouch}

-- how many frames were finished by lines before that of a number
abbrev pub frames_before : ℕ → List Entry → ℕ
frames_before number [] = 0
frames_before number (before ▹ entry) =
    cond (is_finish entry.kind && nat_lt entry.line number) 1 0 + frames_before number before

-- whom a call hits by the states at a begin: a Down those at its point, and another call nobody
abbrev pub call_hits : Setup → List Entry → PointerCall → List Hit
call_hits setup begun (Down x y) = hits_at setup begun x y
call_hits setup begun _ = []

-- a line of a pointer, with whom it hits in the frame that was finished last before it
abbrev pub touch_of : Setup → List Entry → PointerLine → PointerTouch
touch_of setup history line =
    record { line = line; hits = call_hits setup (begin_of (frames_before line.number history) history) line.call }

-- ---- how a history goes on

-- ---- how far the lines are answered
