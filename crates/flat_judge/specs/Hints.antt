-- What the end of a report says of probes: the frames that their lines saw.
use Rattle.std.specs.Prelude.{◌≡◌, ◌<◌, ℕ, ◌+◌, ◌-◌, ◌==◌, ◌^◌, Bool, false, cond, nat_lt, List, [], ◌∷◌}
use Rattle.std.specs.Prelude.{◌++◌, length, drop}
use Rattle.std.specs.Prelude.{slice_get, Option, Some, None, codes}
use Rattle.std.specs.Char.{is_ascii_digit}
use Rattle.std.specs.List.{flat_map, list_all}
use Rattle.std.specs.Str.{bytes_eq}
use Rattle.flat_text.specs.Number.{natural}
use Rattle.flat_text.specs.Pieces.{lines_of, words_of}
use Rattle.flat_places.specs.declared.script.Script.{Script}
use Rattle.flat_places.specs.Names.{place_of}
use Rattle.flat_places.specs.Forms.{Word}
use Rattle.flat_report.specs.Report.{probe_lines, probe_lines_of}

-- ---- one line

-- whether a word stands there, and it is this one
abbrev pub is_there : Option Word → Word → Bool
is_there (Some word) this = bytes_eq word this
is_there None this = false

-- the number that a frame's word spells; 0, if it spells none of 32 bits
abbrev pub low_number : Option ℕ → ℕ
low_number (Some number) = cond (nat_lt number (2 ^ 32)) number 0
low_number None = 0

abbrev pub frame_in : Option Word → ℕ
frame_in (Some word) = low_number (natural word)
frame_in None = 0

-- the frame that an answer in these words names, as `P 9 await frame 2` and `P 9 hit 10 20 frame 2`
abbrev pub frame_told : List Word → ℕ
frame_told words = frame_in (slice_get words (cond (is_there (slice_get words 2) (codes "hit")) 6 4))

-- the probe that a line with these first two words answers: they are its name, and the digits of a line's number
abbrev pub probe_by : Script → Option Word → Option Word → Option ℕ
probe_by script (Some name) (Some digits) = cond (list_all is_ascii_digit digits) (place_of script.probes name) None
probe_by script (Some name) None = None
probe_by script None digits = None

abbrev pub probe_answered : Script → List Word → Option ℕ
probe_answered script words = probe_by script (slice_get words 0) (slice_get words 1)

abbrev pub is_this : ℕ → Option ℕ → Bool
is_this probe (Some found) = found == probe
is_this probe None = false

-- the frame that a line of a report names for a probe; none, if the line doesn't answer that probe
abbrev pub hint_in : Script → ℕ → List ℕ → List ℕ
hint_in script probe line =
    cond (is_this probe (probe_answered script (words_of line))) (frame_told (words_of line) ∷ []) []

-- ---- a text

-- the last lines of a text, so many of them
abbrev pub last_lines : ℕ → List ℕ → List (List ℕ)
last_lines count text = drop (length (lines_of text) - count) (lines_of text)

-- the lines that may answer probes: a report ends with one for each line of a probe, and its last line
abbrev pub answer_lines : Script → List ℕ → List (List ℕ)
answer_lines script text = last_lines (length (probe_lines script) + 1) text

-- the frames that a text names for a probe, in their order
abbrev pub hints_of : Script → List ℕ → ℕ → List ℕ
hints_of script text probe = flat_map (hint_in script probe) (answer_lines script text)

-- These are the frames that some lines name for each probe.
pub record AreNamed (script : Script) (lines : List (List ℕ)) (hints : List (List ℕ)) : Type 0 where
  pub count : length hints ≡ script.setup.probes
  pub each : (probe : ℕ) (one : List ℕ) → slice_get hints probe ≡ Some one → one ≡ flat_map (hint_in script probe) lines

-- each line of a probe has an answer
abbrev pub AreAsMany : Script → (ℕ → List ℕ) → Type 0
AreAsMany script named =
    (probe : ℕ) → probe < script.setup.probes → length (named probe) ≡ length (probe_lines_of probe script.lines)

-- These are the frames that a text names for each probe, if it ends with an answer for each line of a probe.
pub record AreHints (script : Script) (text : List ℕ) (hints : List (List ℕ)) : Type 0 where
  pub count : length hints ≡ script.setup.probes
  pub each : AreAsMany script (hints_of script text) → (probe : ℕ) (one : List ℕ) → slice_get hints probe ≡ Some one
      → one ≡ hints_of script text probe

-- A line more was looked through: its frame is noted behind those of its probe.
pub record NotesLine (script : Script) (line : List ℕ) (old new : List (List ℕ)) : Type 0 where
  pub count : length new ≡ length old
  pub each : (probe : ℕ) (one : List ℕ) → slice_get old probe ≡ Some one
      → slice_get new probe ≡ Some (one ++ hint_in script probe line)
