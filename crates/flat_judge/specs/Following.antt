-- A run that follows a text: after each entry, the text so far is the run's own, and says whose entry is next.
use Rattle.std.specs.Prelude.{◌≡◌, ℕ, ◌+◌, ◌<◌, ◌≤◌, ◌&&◌, ◌==◌, not, Bool, true, false, List, [], ◌∷◌, ◌++◌, length}
use Rattle.std.specs.Prelude.{drop, take_while, Option, Some, None, cond, map, nat_lt, codes, if◌then◌else◌}
use Rattle.std.specs.List.{list_all}
use Rattle.std.specs.Str.{bytes_eq}
use Rattle.flat_base.specs.declared.ids.Actor.{Actor}
use Rattle.flat_base.specs.declared.ids.Actor.TheVariants.{Display, Session}
use Rattle.flat_scene.specs.declared.frames.LostDisplay.{LostDisplay}
use Rattle.flat_scene.specs.declared.journal.Entry.{Entry}
use Rattle.flat_scene.specs.History.{◌▹◌, is_finish}
use Rattle.flat_rules.specs.Legal.{frames}
use Rattle.flat_rules.specs.Ends.{to_finished}
use Rattle.flat_rules.specs.Posts.{posted}
use Rattle.flat_rules.specs.AllPosts.{posts}
use Rattle.flat_text.specs.Number.{natural}
use Rattle.flat_places.specs.declared.script.Script.{Script}
use Rattle.flat_places.specs.Names.{place_of}
use Rattle.flat_page.specs.Words.{text_of}
use Rattle.flat_lines.specs.Ends.{title_line}
use Rattle.flat_lines.specs.EntryLines.{entry_line, event_line}
use Rattle.flat_lines.specs.FrameLines.{lost_line}
use Rattle.flat_report.specs.Report.{history_lines, hits_at, is_loss, is_lost_before, shown_lines}
use Rattle.flat_report.specs.Runs.{is_display_number}
use Rattle.flat_judge.specs.declared.following.ReplayProgress.{ReplayProgress}
use Rattle.flat_judge.specs.GuidedRuns.{Grown}
use Rattle.flat_judge.specs.Verdicts.{IsRead, NoRun, Run, report_of}

-- ---- the text of the entries so far

-- the first line of a report, and the lines of these entries
abbrev pub told : Script → List LostDisplay → List Entry → List ℕ
told script lost history = text_of (title_line script.version ∷ history_lines script lost history)

-- A text begins with these bytes, and goes on at this place.
pub record Begins (text bytes : List ℕ) (at : ℕ) : Type 0 where
  pub long : at ≡ length bytes
  pub is : text ≡ bytes ++ drop at text

-- A text that goes on at a place has these bytes there, and then goes on at the next; or it hasn't.
abbrev pub Passes : List ℕ → ℕ → List ℕ → Option ℕ → Type 0
Passes text at bytes (Some next) =
    (next ≤ length text) × ((before : List ℕ) → Begins text before at → Begins text (before ++ bytes) next)
Passes text at bytes None = (before rest : List ℕ) → Begins text before at → text ≡ before ++ (bytes ++ rest) → ⊥

-- ---- what a text says next

-- the word with which a text begins, and what stands behind it and the byte after it
abbrev pub first_word : List ℕ → List ℕ
first_word text = take_while (nat_lt 32) text

abbrev pub behind_word : List ℕ → List ℕ
behind_word text = drop (length (first_word text) + 1) text

-- the declared session at a place of the list of names
abbrev pub session_at : Script → Option ℕ → Option Actor
session_at script (Some place) =
    if nat_lt place script.setup.sessions then Some (Session (record { 0 = place + 1 })) else None
session_at script None = None

-- Whose entry a line with these first words is. It is nobody's if it ends the report, or names no actor who makes
-- entries.
abbrev pub actor_by : Script → List ℕ → List ℕ → Option Actor
actor_by script first second =
    if bytes_eq first (codes "display") then Some Display
    else (if bytes_eq first (codes "report") && bytes_eq second (codes "ends") then None
    else session_at script (place_of script.sessions first))

-- whose entry the next line of a text is
abbrev pub next_actor : Script → List ℕ → Option Actor
next_actor script text = actor_by script (first_word text) (first_word (behind_word text))

-- the display that a line with these first words says was lost
abbrev pub display_by : List ℕ → List ℕ → Option ℕ
display_by first second = if bytes_eq first (codes "display") then natural second else None

-- the display that the next line of a text says was lost, if it says so of one
abbrev pub next_display : List ℕ → Option ℕ
next_display text = display_by (first_word text) (first_word (behind_word text))

-- a display may be lost behind these
abbrev pub fits_behind : List LostDisplay → LostDisplay → Bool
fits_behind lost next = list_all (λ one. is_lost_before one next && not (next.display == one.display)) lost

-- The next line doesn't say of a display that it was lost at a frame behind these.
abbrev pub NoMoreLost : ℕ → List LostDisplay → List ℕ → Type 0
NoMoreLost frame lost text = (one : LostDisplay) (rest : List ℕ) → one.frame.0 ≡ frame
    → is_display_number one.display ≡ true
    → fits_behind lost one ≡ true → text ≡ text_of (lost_line one ∷ []) ++ rest → ⊥

-- The losses may be those of each run that has as many frames, or more.
abbrev pub AreLosses : ℕ → List LostDisplay → Type 0
AreLosses frame lost = ((history : List Entry) → frame ≤ frames history → is_loss history lost ≡ true)
    × (list_all (λ one. is_display_number one.display) lost ≡ true)

-- One display more is lost at a frame behind others, as a text says from a place on.
pub record ReadsLoss (frame : ℕ) (old new : List LostDisplay) (text : List ℕ) (at next : ℕ) : Type 0 where
  pub one : LostDisplay
  pub is : new ≡ old ++ one ∷ []
  pub is_at : ((one.frame.0 == frame) && is_display_number one.display) ≡ true
  pub fits : fits_behind old one ≡ true
  pub passes : Passes text at (text_of (lost_line one ∷ [])) (Some next)
  pub further : at < next

-- Some displays more are lost at a frame, as a text says from a place on, and it says of no further one.
pub record ReadsLosses (frame : ℕ) (old new : List LostDisplay) (text : List ℕ) (at next : ℕ) : Type 0 where
  pub more : List LostDisplay
  pub is : new ≡ old ++ more
  pub are_at : list_all (λ one. (one.frame.0 == frame) && is_display_number one.display) more ≡ true
  pub passes : Passes text at (text_of (map lost_line more)) (Some next)
  pub stops : NoMoreLost frame new (drop next text)
  pub losses : 0 < frame → AreLosses frame old → AreLosses frame new

-- ---- runs that have the text as their report

-- a history with these entries behind it, the oldest first
abbrev pub and_then : List Entry → List Entry → List Entry
and_then before [] = before
and_then before (entry ∷ later) = and_then (before ▹ entry) later

-- displays are lost behind the frame of a number
abbrev pub are_behind : ℕ → List LostDisplay → Bool
are_behind frame lost = list_all (λ one. nat_lt frame one.frame.0) lost

-- A run goes on so: it has these entries and losses, up to a frame, and later ones.
pub record GoesOnTo (history : List Entry) (lost : List LostDisplay) (frame : ℕ) {script : Script}
    (run : Run script) : Type 0 where
  pub later : List Entry
  pub entries : run.history ≡ and_then history later
  pub more : List LostDisplay
  pub losses : run.lost ≡ lost ++ more
  pub behind : are_behind frame more ≡ true

-- Each run with this report goes on so.
abbrev pub AllGoOn : Script → List ℕ → List Entry → List LostDisplay → ℕ → Type 0
AllGoOn script text history lost frame =
    IsRead script → (run : Run script) → text ≡ report_of script run → GoesOnTo history lost frame run

-- Each run with this report has just these entries and losses.
abbrev pub IsOnly : Script → List ℕ → List Entry → List LostDisplay → Type 0
IsOnly script text history lost =
    IsRead script → (run : Run script) → text ≡ report_of script run → (run.history ≡ history) × (run.lost ≡ lost)

-- ---- where a run stands with its text

-- The text begins with that of the entries so far, and goes on at this place. So does each run that has it as its
-- report.
pub record IsAlong (script : Script) (text : List ℕ) (history : List Entry) (along : ReplayProgress) : Type 0 where
  pub begins : Begins text (told script along.lost history) along.at
  pub within : along.at ≤ length text
  pub led : AllGoOn script text history along.lost (frames history)
  pub losses : AreLosses (frames history) along.lost
  pub posted : along.posted ≡ length (posts script.setup history)

-- the parts of an entry's text: its own line, and the lines of the frame that it finishes
abbrev pub own_text : Script → List Entry → Entry → List ℕ
own_text script before entry =
    text_of (entry_line script (frames before) (hits_at script.setup (to_finished before)) entry ∷ [])

abbrev pub shown_text : Script → List LostDisplay → List Entry → Entry → List ℕ
shown_text script lost before entry = text_of (cond (is_finish entry.kind) (shown_lines script lost before) [])

abbrev pub events_text : Script → List Entry → Entry → List ℕ
events_text script before entry =
    text_of (map (λ sent. event_line script sent.to sent.event) (posted script.setup before entry))

-- So it is with the entries before the last one, and with a part of what that one adds, up to a frame's losses.
pub record IsPart (script : Script) (text : List ℕ) (before : List Entry) (entry : Entry) (part : List ℕ) (frame : ℕ)
    (along : ReplayProgress) : Type 0 where
  pub begins : Begins text (told script along.lost before ++ part) along.at
  pub within : along.at ≤ length text
  pub led : AllGoOn script text (before ▹ entry) along.lost frame
  pub losses : AreLosses frame along.lost
  pub posted : along.posted ≡ length (posts script.setup before)

-- the last entry's own line is told
abbrev pub IsLineTold : Script → List ℕ → List Entry → Entry → ReplayProgress → Type 0
IsLineTold script text before entry along =
    IsPart script text before entry (own_text script before entry) (frames before) along

-- and the frame that it finishes
abbrev pub IsShownTold : Script → List ℕ → List Entry → Entry → ReplayProgress → Type 0
IsShownTold script text before entry along =
    IsPart script text before entry (own_text script before entry ++ shown_text script along.lost before entry)
    (frames (before ▹ entry)) along

-- So it is, from this place of the text on; or the text has parted from the run's report, and is no run's. In
-- any case the losses may be those of so many frames.
pub data Stays (script : Script) (text : List ℕ) (frame from : ℕ) (So : ReplayProgress → Type 0)
    (along : ReplayProgress) : Bool → Type 0 where
  stays : So along → from ≤ along.at → Stays script text frame from So along true
  parts : NoRun script text → AreLosses frame along.lost → Stays script text frame from So along false

-- The run's next entry is that of whom the text says; or no run with this report goes on.
pub data MakesNext (script : Script) (text : List ℕ) (old new : List Entry) (along : ReplayProgress) : Bool
    → Type 0 where
  makes : (entry : Entry) → new ≡ (old ▹ entry) → IsPart script text old entry [] (frames old) along
      → MakesNext script text old new along true
  stops : new ≡ old → IsOnly script text old along.lost → MakesNext script text old new along false

-- No run with this report goes on behind these entries, or has other losses; and these may be those of so many frames.
pub record HasStopped (script : Script) (text : List ℕ) (history : List Entry) (along : ReplayProgress) : Type 0 where
  pub only : IsOnly script text history along.lost
  pub losses : AreLosses (frames history) along.lost

-- So it was at some of these entries, before the others were made.
pub record StoppedBefore (script : Script) (text : List ℕ) (history : List Entry) (along : ReplayProgress) : Type 0
  where
    pub stop : List Entry
    pub stopped : HasStopped script text stop along
    pub grown : Grown stop history
