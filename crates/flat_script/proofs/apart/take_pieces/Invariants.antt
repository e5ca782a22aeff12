use Rattle.std.proofs.Common.{◌≡◌, ◌≤◌, ◌+◌, List, ℕ, ◌++◌, length, drop}
use Rattle.flat_forms.specs.declared.lines.TextPart.TheVariants.{Body}
use Rattle.flat_forms.specs.Ahead.{head_of}
use Rattle.flat_forms.specs.Progress.{sofar_of}
use Rattle.flat_script.specs.Ahead.{AreAheadIn, StandsBefore, lines_in}
use Rattle.flat_script.specs.Grammar.{lines_read}
use Rattle.flat_script.proofs.apart.take_pieces.Given as goal

abbrev pub invariant-loop-piece : goal.invariant-loop-piece
invariant-loop-piece l = record {
  stands : StandsBefore l.number l.parser;
  body : l.parser.part ≡ Body;
  head : head_of l.parser.text.script ≡ head_of l.fn.parser.text.script;
  known : AreAheadIn (head_of l.fn.parser.text.script) l.known.items (drop l.piece-index l.pieces);
  counted : l.number + length (lines_in (drop l.piece-index l.pieces)) ≤ 16777217;
  same : (later : List (List ℕ)) → lines_read l.fn.first (sofar_of l.fn.parser) (lines_in l.fn.pieces ++ later)
      ≡ lines_read l.number (sofar_of l.parser) (lines_in (drop l.piece-index l.pieces) ++ later);
}
