use Rattle.std.proofs.Common.{◌≡◌, ◌∙◌, ◌∷◌, ap, length, arith}
use Rattle.flat_text.specs.Pieces.{lines_of}
use Rattle.flat_forms.specs.Ahead.{head_of}
use Rattle.flat_forms.specs.Progress.{sofar_of}
use Rattle.flat_script.proofs.AheadLemmas.{ahead_first, goes_on, line_stays}
use Rattle.flat_script.proofs.apart.take_piece.Goals as goal

pub loop-first-preserved : goal.loop-first-preserved
loop-first-preserved c =
    let was = c.loop-first.invariant in
    let begins : lines_of c.loop-first.text.now ≡ c.in-Some.first.now ∷ lines_of c.in-Some.rest.now = c.in-Some.ensures.lines in
    let read = c.in-Ok.ensures.steps in
    let left = line_stays (sofar_of c.loop-first.parser) (sofar_of c.take_line.new.parser) c.loop-first.number c.in-Some.first.now was.body read in
    record {
      stands = record {
        kept = c.in-Ok.ensures.kept;
        begins = omega (arith, c.take_line.ensures.few.0, was.stands.begins);
        dones = omega (arith, c.take_line.ensures.few.1, was.stands.dones);
      };
      body = left.body;
      head = left.head ∙ was.head;
      known = (ahead_first (head_of c.args.parser.now.text.script) c.pop_front.result c.loop-first.known.items c.pop_front.new.self.items
          (lines_of c.loop-first.text.now) c.in-Some.first.now (lines_of c.in-Some.rest.now)
          c.pop_front.ensures.items c.pop_front.ensures.rest begins was.known).more;
      counted = omega (arith, was.counted, ap length begins);
      same = λ later. was.same later ∙ goes_on c.loop-first.number (sofar_of c.loop-first.parser) (sofar_of c.take_line.new.parser)
          (lines_of c.loop-first.text.now) c.in-Some.first.now (lines_of c.in-Some.rest.now) later begins read;
    }
