-- What the version of a script says of its text and of its lines.
use Rattle.std.specs.Prelude.{ℕ, Bool, true, false, not, List, ◌++◌, Option, codes, find}
use Rattle.std.specs.Fmt.{decimal}
use Rattle.flat_scene.specs.declared.calls.Call.TheVariants as call
use Rattle.flat_scene.specs.declared.script.LineBody.{LineBody}
use Rattle.flat_scene.specs.declared.script.LineBody.TheVariants as body
use Rattle.flat_scene.specs.declared.script.DisplayLine.TheVariants as display
use Rattle.flat_scene.specs.declared.script.SessionLine.{SessionLine}
use Rattle.flat_scene.specs.declared.script.SessionLine.TheVariants as line
use Rattle.flat_scene.specs.declared.script.ScriptLine.{ScriptLine}
use Rattle.flat_text.specs.Pieces.{lines_of}
use Rattle.flat_script.specs.Grammar.{is_skipped}

-- neither a present that is unsquashable nor a call that replaces children
abbrev pub is_early : SessionLine → Bool
is_early (line.Present present) = not present.unsquashable
is_early (line.Call (call.ReplaceChildren p children)) = false
is_early _ = true

-- the same of a line of any actor
abbrev pub is_of_first_version : ScriptLine → Bool
is_of_first_version next = of next.body
  where
    of : LineBody → Bool
    of (body.Session text) = is_early text
    of _ = true

-- no pixel ratio is set
abbrev pub sets_no_ratio : ScriptLine → Bool
sets_no_ratio next = of next.body
  where
    of : LineBody → Bool
    of (body.Display (display.Dpr ratio)) = false
    of _ = true

-- the first line of a text that isn't skipped
abbrev pub first_kept : List ℕ → Option (List ℕ)
first_kept bytes = find (λ line. not (is_skipped line)) (lines_of bytes)

-- the line that says a version
abbrev pub version_line : ℕ → List ℕ
version_line version = codes "flatland " ++ decimal version
