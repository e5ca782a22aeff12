use Rattle.std.proofs.Common.{◌≡◌, ◌∙◌, ◌+◌, ◌∷◌, ◌++◌, [], ap, length, drop, slice_index_or, length-append, append_assoc, arith}
use Rattle.std.proofs.lemmas.List.{drop_more}
use Rattle.flat_text.specs.Pieces.{lines_of}
use Rattle.flat_forms.specs.Ahead.{head_of}
use Rattle.flat_forms.specs.Progress.{sofar_of}
use Rattle.flat_script.specs.Ahead.{Piece, lines_in}
use Rattle.flat_script.specs.Grammar.{lines_read}
use Rattle.flat_script.proofs.AheadLemmas.{ahead_in_first}
use Rattle.flat_script.proofs.apart.take_pieces.Goals as goal

pub loop-piece-preserved : goal.loop-piece-preserved
loop-piece-preserved c =
    let was = c.loop-piece.invariant in
    let i = c.loop-piece.piece-index in
    let pieces = c.args.pieces.now in
    let none : Piece = record { ref_ptr = (0, 0); now = [] } in
    let p : Piece = slice_index_or pieces i none in
    let left = drop (i + 1) pieces in
    let next : drop i pieces ≡ p ∷ left = drop_more pieces i none c.loop-piece-test.true in
    let lines : lines_in (drop i pieces) ≡ lines_of p.now ++ lines_in left = ap lines_in next in
    record {
      stands = c.in_ok-number.ensures.stands;
      body = c.in_ok-number.ensures.body;
      head = c.in_ok-number.ensures.head ∙ was.head;
      known = (ahead_in_first (head_of c.args.parser.now.text.script) c.pop_front.result c.loop-piece.known.items c.pop_front.new.self.items (drop i pieces) p
          left c.pop_front.ensures.items c.pop_front.ensures.rest next was.known).more;
      counted = omega (arith, was.counted, ap length lines, length-append (lines_of p.now) (lines_in left), c.in_ok-number.ensures.counted);
      same = λ later.
          was.same later ∙ ap (λ ls. lines_read c.loop-piece.number (sofar_of c.loop-piece.parser) (ls ++ later)) lines
          ∙ ap (λ ls. lines_read c.loop-piece.number (sofar_of c.loop-piece.parser) ls) (append_assoc (lines_of p.now) (lines_in left) later)
          ∙ c.in_ok-number.ensures.reads (lines_in left ++ later);
    }
