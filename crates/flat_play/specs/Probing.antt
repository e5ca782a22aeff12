-- Probes that are asked while a script is played: each is answered by the frame that was finished last.
use Rattle.std.specs.Prelude.{◌≡◌, ℕ, List, [], ◌∷◌, ◌++◌, map, take, slice_get, slice_index_or, slice_set, Option}
use Rattle.std.specs.Prelude.{Some, None}
use Rattle.flat_base.specs.declared.ids.Actor.{Actor}
use Rattle.flat_base.specs.declared.ids.Actor.TheVariants.{Probe}
use Rattle.flat_scene.specs.declared.journal.Entry.{Entry}
use Rattle.flat_scene.specs.declared.script.LineBody.{LineBody}
use Rattle.flat_scene.specs.declared.script.LineBody.TheVariants as body
use Rattle.flat_scene.specs.declared.script.ProbeLine.{ProbeLine}
use Rattle.flat_scene.specs.declared.script.ScriptLine.{ScriptLine}
use Rattle.flat_scene.specs.declared.setup.Setup.{Setup}
use Rattle.flat_topology.specs.Hits.{hit_list}
use Rattle.flat_topology.specs.Shown.{Shown}
use Rattle.flat_places.specs.declared.script.Script.{Script}
use Rattle.flat_report.specs.declared.probes.ProbeAnswer.{ProbeAnswer}
use Rattle.flat_report.specs.Probes.{asked_hits, frame_seen, ProbesAnswered}
use Rattle.flat_report.specs.Report.{probe_lines_of}
use Rattle.flat_play.specs.InTurn.{frames_then}

-- a script up to a place
abbrev pub script_to : ℕ → Script → Script
script_to place script = record script { lines = take place script.lines }

-- The probes' lines before a place are answered by frames of the history so far.
abbrev pub ProbesStand : Script → ℕ → List Entry → List (List ProbeAnswer) → Type 0
ProbesStand script place history answers = ProbesAnswered (script_to place script) history answers

-- which probe a line asks, and what
abbrev pub asked_of : Actor → LineBody → Option (ℕ × ProbeLine)
asked_of (Probe p) (body.Probe asked) = Some (p, asked)
asked_of _ _ = None

-- the answer to an actor's line by a frame that shows these states
abbrev pub answer_of : Setup → Shown → ℕ → Actor → ℕ → ProbeLine → ProbeAnswer
answer_of setup shown frame actor number asked =
    record {
      actor = actor;
      line = number;
      asked = asked;
      frame = record { 0 = frame };
      hits = asked_hits (hit_list setup shown) asked;
    }

-- the answers of all probes, with one more of a probe
abbrev pub with_answer : ℕ → ProbeAnswer → List (List ProbeAnswer) → List (List ProbeAnswer)
with_answer p answer answers = slice_set answers p (slice_index_or answers p [] ++ answer ∷ [])

-- the answers after a line of a number, by what it asks and of whom
abbrev pub answers_after : Setup → Shown → ℕ → ℕ → Option (ℕ × ProbeLine) → List (List ProbeAnswer)
    → List (List ProbeAnswer)
answers_after setup shown frame number None answers = answers
answers_after setup shown frame number (Some (p, asked)) answers =
    with_answer p (answer_of setup shown frame (Probe p) number asked) answers

-- ---- when they are asked

-- Each probe's line is answered by the frame that was finished last before it.
abbrev pub SeeInTurn : List ScriptLine → List Entry → List (List ProbeAnswer) → Type 0
SeeInTurn lines history answers = (n : ℕ) (one : List ProbeAnswer) → slice_get answers n ≡ Some one
    → map frame_seen one ≡ frames_then history (probe_lines_of n lines)
