use Rattle.std.proofs.Common.{◌≡◌, ◌≤◌, ◌+◌, length}
use Rattle.flat_text.specs.Pieces.{lines_of}
use Rattle.flat_forms.specs.Progress.{sofar_of}
use Rattle.flat_script.specs.Ahead.{StandsBefore}
use Rattle.flat_script.specs.Grammar.{lines_read}
use Rattle.flat_script.proofs.parser.read_head.Given as goal

abbrev pub invariant-loop-first : goal.invariant-loop-first
invariant-loop-first l = record {
  stands : StandsBefore l.number l.parser;
  counted : l.number + length l.text ≤ 16777217;
  same : lines_read l.number (sofar_of l.parser) (lines_of l.text) ≡ lines_read 1 (sofar_of l.fn.parser) (lines_of l.fn.bytes);
}

abbrev pub decreases-loop-first : goal.decreases-loop-first
decreases-loop-first l = length l.text
