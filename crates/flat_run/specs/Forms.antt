-- What each form reads, and what it writes of what ran: a row for each.
use Rattle.std.specs.Prelude.{◌≡◌, ⊤, ℕ, ◌*◌, ◌≤◌, Bool, true, false, List, [], map, reverse, Result, Ok, Err}
use Rattle.flat_extra.specs.Whole.{focus_read, pointers_read}
use Rattle.flat_focus.specs.Text.{focus_text}
use Rattle.flat_forms.specs.Body.{dones}
use Rattle.flat_pointer.specs.Text.{pointer_text}
use Rattle.flat_places.specs.declared.script.Script.{Script}
use Rattle.flat_play.specs.Touches.{touch_of}
use Rattle.flat_render.specs.declared.tile_grid.TheConstants.{PIXELS_MAX}
use Rattle.flat_report.specs.Report.{report, finished}
use Rattle.flat_scene.specs.declared.frames.LostDisplay.{LostDisplay}
use Rattle.flat_scene.specs.declared.journal.Entry.{Entry}
use Rattle.flat_script.specs.declared.script.ScriptFault.{ScriptFault}
use Rattle.flat_script.specs.Grammar.{text_read}
use Rattle.flat_stress.specs.Summary.{summary_line}
use Rattle.flat_texts.specs.Damages.{IsDamageText}
use Rattle.flat_texts.specs.Films.{film_text}
use Rattle.flat_texts.specs.Lines.{finish_lines}
use Rattle.flat_texts.specs.Pictures.{picture_text}
use Rattle.flat_why.specs.Text.{why_text}
use Rattle.flat_words.specs.declared.service_word.ServiceWord.{ServiceWord}
use Rattle.flat_words.specs.declared.service_word.ServiceWord.TheVariants.{Play, Race, Stress, Render, Damage, Focus}
use Rattle.flat_words.specs.declared.service_word.ServiceWord.TheVariants.{Pointer, Judge, Why, Film}
use Rattle.flat_run.specs.declared.given.TheConstants.{FILM_PIXELS_MAX}
use Rattle.flat_run.specs.declared.reading.ParsedText.{ParsedText}
use Rattle.flat_run.specs.Totals.{totals_of}

-- ---- reading

-- whether the script of a form is read; that of a load is made
abbrev pub is_read : ServiceWord → Bool
is_read (Stress asked) = false
is_read _ = true

-- a script without extra lines
abbrev pub plain : Script → ParsedText
plain script = record { script = script; focus = []; pointers = [] }

abbrev pub read_as : {A : Type 0} → (A → ParsedText) → Result A ScriptFault → Result ParsedText ScriptFault
read_as reading (Ok value) = Ok (reading value)
read_as reading (Err fault) = Err fault

-- what a form reads of a text: its script, and the values of the extra lines that the form knows
abbrev pub form_read : ServiceWord → List ℕ → Result ParsedText ScriptFault
form_read Focus bytes =
    read_as (λ both. record { script = both.script; focus = both.lines; pointers = [] }) (focus_read bytes)
form_read Pointer bytes =
    read_as (λ both. record { script = both.script; focus = []; pointers = both.lines }) (pointers_read bytes)
form_read _ bytes = read_as plain (text_read bytes)

-- how many pixels a display has
abbrev pub pixels : Script → ℕ
pixels script = script.setup.width * script.setup.height

-- the display isn't too large for what a form writes: a picture has only so many pixels, and so have the pictures
-- of all frames together
abbrev pub Fits : ServiceWord → Script → Type 0
Fits Render script = pixels script ≤ PIXELS_MAX
Fits Film script = (pixels script ≤ PIXELS_MAX) × (dones script * pixels script ≤ FILM_PIXELS_MAX)
Fits _ script = ⊤

-- ---- what ran

-- what was read, a history of its script, the displays that were lost, and the frames that the lines of its probes saw
pub record Ran : Type 0 where
  pub reading : ParsedText
  pub history : List Entry
  pub lost : List LostDisplay
  pub seen : List ℕ

-- So many frames were finished as the form asked for: a load says how many.
abbrev pub AreAsked : ServiceWord → ℕ → Type 0
AreAsked (Stress asked) finished_frames = finished_frames ≡ asked
AreAsked _ finished_frames = ⊤

-- ---- writing

abbrev pub report_of : Ran → List ℕ
report_of ran = report ran.reading.script ran.history ran.lost ran.seen

-- The text is what a form writes of what ran: the report, the line that sums a load up, the picture of the
-- last frame, what changed from frame to frame, who had the focus, to whom the pointers' lines went, why
-- each session was on the display or not, or the pictures of all frames. A judge runs nothing that it
-- writes of.
abbrev pub IsTextOf : ServiceWord → Ran → List ℕ → Type 0
IsTextOf Play ran text = text ≡ report_of ran
IsTextOf Race ran text = text ≡ report_of ran
IsTextOf (Stress asked) ran text = text ≡ summary_line (totals_of asked ran.reading.script.setup ran.history)
IsTextOf Render ran text = text ≡ picture_text ran.reading.script.setup (finished ran.reading.script.setup ran.history)
IsTextOf Damage ran text = IsDamageText (finished ran.reading.script.setup ran.history) text
IsTextOf Focus ran text =
    text ≡ focus_text ran.reading.script.sessions (finish_lines (reverse ran.history))
    (finished ran.reading.script.setup ran.history) ran.reading.focus
IsTextOf Pointer ran text =
    text ≡ pointer_text ran.reading.script.sessions (finish_lines (reverse ran.history))
    (finished ran.reading.script.setup ran.history)
    (map (touch_of ran.reading.script.setup ran.history) ran.reading.pointers)
IsTextOf Judge ran text = ⊥
IsTextOf Why ran text = text ≡ why_text ran.reading.script ran.history
IsTextOf Film ran text = text ≡ film_text ran.reading.script.setup (finished ran.reading.script.setup ran.history)
