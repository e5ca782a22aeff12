-- What probes are answered.
use Rattle.std.specs.Prelude.{◌≡◌, ℕ, ℤ, Bool, true, false, ◌&&◌, nat_le, List, [], ◌∷◌, length, map, Some, slice_get}
use Rattle.std.specs.List.{flat_map, list_all, zip}
use Rattle.flat_base.specs.declared.ids.Actor.{Actor}
use Rattle.flat_base.specs.declared.ids.Actor.TheVariants.{Probe}
use Rattle.flat_scene.specs.declared.frames.Hit.{Hit}
use Rattle.flat_scene.specs.declared.journal.Entry.{Entry}
use Rattle.flat_scene.specs.declared.script.LineBody.{LineBody}
use Rattle.flat_scene.specs.declared.script.LineBody.TheVariants as body
use Rattle.flat_scene.specs.declared.script.ProbeLine.{ProbeLine}
use Rattle.flat_scene.specs.declared.script.ProbeLine.TheVariants as probe
use Rattle.flat_scene.specs.declared.script.ScriptLine.{ScriptLine}
use Rattle.flat_scene.specs.declared.setup.Setup.{Setup}
use Rattle.flat_rules.specs.Legal.{frames}
use Rattle.flat_places.specs.declared.script.Script.{Script}
use Rattle.flat_report.specs.declared.probes.ProbeAnswer.{ProbeAnswer}
use Rattle.flat_report.specs.Report.{begin_of, hits_at, probe_lines_of}

-- ---- lines

-- what a line asks, where it is a probe's; no other line asks anything
abbrev pub asked_by : LineBody → ProbeLine
asked_by (body.Probe asked) = asked
asked_by _ = probe.Await 0

-- a line of a probe is one that asks
abbrev pub is_asking : Actor → LineBody → Bool
is_asking (Probe p) (body.Probe asked) = true
is_asking (Probe p) _ = false
is_asking _ _ = true

-- each line of a probe asks
abbrev pub ProbesAsk : Script → Type 0
ProbesAsk script = list_all (λ line. is_asking line.actor line.body) script.lines ≡ true

-- ---- answers

-- who is hit by what is asked, where these are the hits of points; nobody by an await
abbrev pub asked_hits : (ℤ → ℤ → List Hit) → ProbeLine → List Hit
asked_hits hits (probe.Hit x y) = hits x y
asked_hits hits (probe.Await n) = []

-- the answer to a line by the frame of a number, where these are the hits of frames
abbrev pub answer_by : (ℕ → ℤ → ℤ → List Hit) → ScriptLine × ℕ → ProbeAnswer
answer_by hits (line, frame) = record {
  actor = line.actor;
  line = line.number;
  asked = asked_by line.body;
  frame = record { 0 = frame };
  hits = asked_hits (hits frame) (asked_by line.body);
}

-- the number of the frame that an answer is by
abbrev pub frame_seen : ProbeAnswer → ℕ
frame_seen answer = answer.frame.0

-- numbers never fall, and none is below the first
abbrev pub never_fall_from : ℕ → List ℕ → Bool
never_fall_from n [] = true
never_fall_from n (frame ∷ later) = nat_le n frame && never_fall_from frame later

-- the last of some numbers, or this one where there is none
abbrev pub seen_last_from : ℕ → List ℕ → ℕ
seen_last_from n [] = n
seen_last_from n (frame ∷ later) = seen_last_from frame later

-- the number of the frame that the last answer is by; 0 where there is none
abbrev pub seen_last : List ProbeAnswer → ℕ
seen_last answers = seen_last_from 0 (map frame_seen answers)

-- Lines of one probe are answered, each by a frame up to the last one, and never by an earlier frame than the line
-- before.
pub record AreAnsweredBy (hits : ℕ → ℤ → ℤ → List Hit) (last : ℕ) (lines : List ScriptLine)
    (answers : List ProbeAnswer) : Type 0 where
  pub as_many : length answers ≡ length lines
  pub are : answers ≡ map (answer_by hits) (zip lines (map frame_seen answers))
  pub within : list_all (λ frame. nat_le frame last) (map frame_seen answers) ≡ true
  pub rise : never_fall_from 0 (map frame_seen answers) ≡ true

-- ---- of a history

-- who is hit in the finished frame of a number; nobody in frame 0
abbrev pub hits_in_frame : Setup → List Entry → ℕ → ℤ → ℤ → List Hit
hits_in_frame setup history frame x y = hits_at setup (begin_of frame history) x y

-- The lines of all probes are answered by frames of a history: one list of answers a probe.
pub record ProbesAnswered (script : Script) (history : List Entry) (answers : List (List ProbeAnswer)) : Type 0 where
  pub count : length answers ≡ script.setup.probes
  pub each : (n : ℕ) (one : List ProbeAnswer) → slice_get answers n ≡ Some one
      → AreAnsweredBy (hits_in_frame script.setup history) (frames history) (probe_lines_of n script.lines) one

-- the frames that the probes' lines saw, in the order of the report
abbrev pub frames_seen : List (List ProbeAnswer) → List ℕ
frames_seen answers = flat_map (map frame_seen) answers
