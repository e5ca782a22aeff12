-- The probes of a race: how one stands at a place of the script, and what of it comes back.
use Rattle.std.specs.Prelude.{◌≡◌, ℕ, true, List, take}
use Rattle.logbook.specs.Pages.{Book}
use Rattle.flat_base.specs.declared.ids.Actor.{Actor}
use Rattle.flat_scene.specs.declared.script.LineBody.TheVariants as body
use Rattle.flat_scene.specs.declared.script.ProbeLine.{ProbeLine}
use Rattle.flat_scene.specs.declared.script.ScriptLine.{ScriptLine}
use Rattle.flat_places.specs.declared.script.Script.{Script}
use Rattle.flat_publish.specs.Frames.{last_number}
use Rattle.flat_publish.specs.State.{Seen}
use Rattle.flat_report.specs.Report.{probe_lines_of}
use Rattle.flat_race.specs.declared.probe.ProbeBack.{ProbeBack}
use Rattle.flat_report.specs.declared.probes.ProbeAnswer.{ProbeAnswer}
use Rattle.flat_report.specs.Probes.{AreAnsweredBy}
use Rattle.flat_race.specs.Publishing.{hits_of}

-- a line of an actor that asks a probe
abbrev pub asked_line : ℕ → Actor → ProbeLine → ScriptLine
asked_line number actor asked = record { number = number; actor = actor; body = body.Probe asked }

-- A probe's lines before a place of the script are answered by the frames that it saw.
abbrev pub ProbeStands : Script → ℕ → ℕ → Seen → List ProbeAnswer → Type 0
ProbeStands script p place probe answers =
    AreAnsweredBy (hits_of probe.frames) (last_number probe.frames) (probe_lines_of p (take place script.lines)) answers

-- A probe comes back, of the same book. Where it came to its end, its lines are answered by the frames that it saw.
pub record HasAsked (script : Script) (book : Book) (p : ℕ) (back : ProbeBack) : Type 0 where
  pub home : back.probe.home ≡ book
  pub answered : back.is_whole ≡ true → AreAnsweredBy (hits_of back.probe.frames) (last_number back.probe.frames)
      (probe_lines_of p script.lines) back.answers
