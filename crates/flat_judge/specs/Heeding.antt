-- How a run heeds what a text says of probes: a line is answered when the frame that the text names for it is reached.
use Rattle.std.specs.Prelude.{◌≡◌, ◌⊎◌, ℕ, suc, Bool, true, cond, nat_le, List, ◌++◌, length, map, slice_get, Option}
use Rattle.std.specs.Prelude.{Some, None}
use Rattle.std.specs.List.{list_all}
use Rattle.flat_rules.specs.Legal.{frames}
use Rattle.flat_places.specs.declared.script.Script.{Script}
use Rattle.flat_report.specs.declared.probes.ProbeAnswer.{ProbeAnswer}
use Rattle.flat_report.specs.Probes.{frame_seen, frames_seen, never_fall_from}
use Rattle.flat_report.specs.Report.{probe_lines_of}
use Rattle.flat_judge.specs.declared.guided_run.GuidedRun.{GuidedRun}
use Rattle.flat_judge.specs.Verdicts.{IsRead, NoRun, Run, report_of}

-- whether the frame that is named for a line is reached; it is, if none is named
abbrev pub is_reached : Option ℕ → ℕ → Bool
is_reached (Some named) frame = nat_le named frame
is_reached None frame = true

-- A probe's lines could have seen these frames in a run with so many: one each, in rising order.
pub record CouldSee (script : Script) (frames probe : ℕ) (hints : List ℕ) : Type 0 where
  pub as_many : length hints ≡ length (probe_lines_of probe script.lines)
  pub rise : never_fall_from 0 hints ≡ true
  pub within : list_all (λ frame. nat_le frame frames) hints ≡ true

-- The first of these frames are seen, and none of the others is below a number.
pub record HasSeen (from : ℕ) (hints seen : List ℕ) : Type 0 where
  pub later : List ℕ
  pub is : hints ≡ seen ++ later
  pub ahead : list_all (nat_le from) later ≡ true

-- A probe was answered by the frames named for it, and those that are left begin at a number. That is said only of
-- frames that the probe's lines could have seen in a run with so many.
abbrev pub Heeds : Script → List (List ℕ) → ℕ → ℕ → ℕ → List (List ProbeAnswer) → Type 0
Heeds script hints frames from probe answers =
    (named : List ℕ) (one : List ProbeAnswer) → slice_get hints probe ≡ Some named → CouldSee script frames probe named
    → slice_get answers probe ≡ Some one → HasSeen from named (map frame_seen one)

-- So was each probe.
abbrev pub AllHeed : Script → List (List ℕ) → ℕ → ℕ → List (List ProbeAnswer) → Type 0
AllHeed script hints frames from answers = (probe : ℕ) → Heeds script hints frames from probe answers

-- Each probe was answered by the frames named for it, and those that are left are behind the last frame; or the text
-- is no run's report.
abbrev pub HeedsSo : Script → List ℕ → List (List ℕ) → ℕ → GuidedRun → Type 0
HeedsSo script text hints frames_in_all guided =
    NoRun script text ⊎ AllHeed script hints frames_in_all (suc (frames guided.screen.board.history))
    guided.answers.items

-- The answers of a probe after a line that went on or not: one that went on leaves no named frame to the last one.
abbrev pub SeenBehind : ℕ → ℕ → List ℕ → List (List ProbeAnswer) → Bool → Type 0
SeenBehind probe frame named answers on =
    (one : List ProbeAnswer) → slice_get answers probe ≡ Some one
    → HasSeen (cond on frame (suc frame)) named (map frame_seen one)

-- If a text is the report of a run with the same entries, its probes saw what those of the guided run saw.
abbrev pub SeesAsTold : Script → List ℕ → GuidedRun → Type 0
SeesAsTold script text guided =
    IsRead script → (run : Run script) → text ≡ report_of script run → run.history ≡ guided.screen.board.history
    → run.seen ≡ frames_seen guided.answers.items
