-- The probes' threads: what one promises, which are out, and what all of them were answered.
use Rattle.std.specs.Prelude.{◌≡◌, ℕ, ◌+◌, List, [], ◌∷◌, length, Some, slice_get}
use Rattle.logbook.specs.Pages.{Book}
use Rattle.flat_places.specs.declared.script.Script.{Script}
use Rattle.flat_publish.specs.Frames.{last_number}
use Rattle.flat_publish.specs.State.{Seen}
use Rattle.flat_report.specs.Report.{probe_lines_of}
use Rattle.flat_race.specs.declared.probe_threads.LentProbe.{LentProbe}
use Rattle.flat_race.specs.declared.probe_threads.LentProbe.TheVariants.{Thread, Here}
use Rattle.flat_report.specs.declared.probes.ProbeAnswer.{ProbeAnswer}
use Rattle.flat_report.specs.Probes.{AreAnsweredBy}
use Rattle.flat_race.specs.Publishing.{hits_of}
use Rattle.flat_race.specs.Probing.{HasAsked}

-- a probe is out: with a thread that promises to hand it back, or it came back here
abbrev pub IsProbeOut : Script → Book → ℕ → LentProbe → Type 0
IsProbeOut script book p (Thread handle) =
    (handle.promise.script.now ≡ script) × (handle.promise.home ≡ book) × (handle.promise.probe ≡ p)
IsProbeOut script book p (Here back) = HasAsked script book p back

-- probes are out, in order, of which the first has this number
abbrev pub AreProbesOut : Script → Book → ℕ → List LentProbe → Type 0
AreProbesOut script book first [] = Unit {0}
AreProbesOut script book first (out ∷ later) =
    IsProbeOut script book first out × AreProbesOut script book (first + 1) later

-- The lines of the first probes are answered by frames: one list of answers a probe.
pub record AreAnswered (script : Script) (seen : Seen) (count : ℕ) (answers : List (List ProbeAnswer)) : Type 0 where
  pub many : length answers ≡ count
  pub each : (n : ℕ) (one : List ProbeAnswer) → slice_get answers n ≡ Some one
      → AreAnsweredBy (hits_of seen.frames) (last_number seen.frames) (probe_lines_of n script.lines) one
