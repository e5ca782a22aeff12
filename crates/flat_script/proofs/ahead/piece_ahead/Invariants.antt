use Rattle.std.proofs.Common.{◌≡◌, List, ◌++◌, true, length}
use Rattle.std.specs.List.{list_all}
use Rattle.flat_text.specs.Pieces.{lines_of}
use Rattle.flat_forms.specs.Ahead.{head_of}
use Rattle.flat_script.specs.declared.ahead.Ahead.{Ahead}
use Rattle.flat_script.specs.Ahead.{AreAhead}
use Rattle.flat_script.specs.Plain.{is_text_byte}
use Rattle.flat_script.proofs.ahead.piece_ahead.Given as goal

abbrev pub invariant-loop-first : goal.invariant-loop-first
invariant-loop-first l = record {
  ahead : (more : List Ahead) → AreAhead (head_of l.script.script) more (lines_of l.text)
      → AreAhead (head_of l.script.script) (l.known.items ++ more) (lines_of l.fn.piece);
  known : l.plain ≡ true → list_all is_text_byte l.text ≡ true;
}

abbrev pub decreases-loop-first : goal.decreases-loop-first
decreases-loop-first l = length l.text
