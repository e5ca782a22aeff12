-- Which frames the lines of probes see where the script is played in written order.
use Rattle.std.specs.Prelude.{ℕ, List, map}
use Rattle.flat_scene.specs.declared.journal.Entry.{Entry}
use Rattle.flat_scene.specs.declared.script.ScriptLine.{ScriptLine}
use Rattle.flat_places.specs.declared.script.Script.{Script}
use Rattle.flat_report.specs.Report.{probe_lines}
use Rattle.flat_play.specs.Touches.{frames_before}

-- the frames that were finished last before some lines
abbrev pub frames_then : List Entry → List ScriptLine → List ℕ
frames_then history lines = map (λ line. frames_before line.number history) lines

-- the frames that the probes' lines see in a play, in the order of the report
abbrev pub seen_in_turn : Script → List Entry → List ℕ
seen_in_turn script history = frames_then history (probe_lines script)
