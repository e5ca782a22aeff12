-- Where a script can't be cut.
use Rattle.std.specs.Prelude.{◌≡◌, ℕ, false, List}
use Rattle.std.specs.List.{list_any}
use Rattle.flat_text.specs.Pieces.{lines_of}
use Rattle.flat_places.specs.declared.script.Script.{Script}
use Rattle.flat_script.specs.Grammar.{IsScript}
use Rattle.flat_judge.specs.Cuts.{is_title}

-- no line of a script begins a report: so each script with a report behind it is cut where the report begins
abbrev pub ScriptsHaveNoTitle : Type 0
ScriptsHaveNoTitle =
    (bytes : List ℕ) (script : Script) → IsScript bytes script → list_any is_title (lines_of bytes) ≡ false
