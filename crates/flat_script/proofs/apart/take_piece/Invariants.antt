use Rattle.std.proofs.Common.{◌≡◌, ◌≤◌, ◌+◌, List, ℕ, ◌++◌, length}
use Rattle.flat_text.specs.Pieces.{lines_of}
use Rattle.flat_forms.specs.declared.lines.TextPart.TheVariants.{Body}
use Rattle.flat_forms.specs.Ahead.{head_of}
use Rattle.flat_forms.specs.Progress.{sofar_of}
use Rattle.flat_script.specs.Ahead.{AreAhead, StandsBefore}
use Rattle.flat_script.specs.Grammar.{lines_read}
use Rattle.flat_script.proofs.apart.take_piece.Given as goal

abbrev pub invariant-loop-first : goal.invariant-loop-first
invariant-loop-first l = record {
  stands : StandsBefore l.number l.parser;
  body : l.parser.part ≡ Body;
  head : head_of l.parser.text.script ≡ head_of l.fn.parser.text.script;
  known : AreAhead (head_of l.fn.parser.text.script) l.known.items (lines_of l.text);
  counted : l.number + length (lines_of l.text) ≤ l.fn.first + length (lines_of l.fn.piece);
  same : (later : List (List ℕ)) → lines_read l.fn.first (sofar_of l.fn.parser) (lines_of l.fn.piece ++ later)
      ≡ lines_read l.number (sofar_of l.parser) (lines_of l.text ++ later);
}

abbrev pub decreases-loop-first : goal.decreases-loop-first
decreases-loop-first l = length l.text
