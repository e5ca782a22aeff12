use Rattle.std.proofs.Common.{◌≡◌, ◌<◌, ◌≤◌, ◌+◌, true, length}
use Rattle.std.specs.List.{list_all}
use Rattle.flat_text.specs.Pieces.{lines_of}
use Rattle.flat_script.specs.Grammar.{lines_read, text_read}
use Rattle.flat_script.specs.Plain.{is_text_byte}
use Rattle.flat_forms.specs.Progress.{Kept, sofar_of}
use Rattle.flat_script.proofs.parser.read_text.Given as goal

abbrev pub invariant-loop-first : goal.invariant-loop-first
invariant-loop-first l = record {
  kept : Kept l.parser;
  counted : l.number + length l.text ≤ 16777217;
  some : 0 < l.number;
  begins : l.parser.begins < l.number;
  dones : l.parser.dones < l.number;
  known : l.plain ≡ true → list_all is_text_byte l.text ≡ true;
  same : lines_read l.number (sofar_of l.parser) (lines_of l.text) ≡ text_read l.fn.bytes;
}

abbrev pub decreases-loop-first : goal.decreases-loop-first
decreases-loop-first l = length l.text
