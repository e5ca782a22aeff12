use Rattle.std.proofs.Common.{arith}
use Rattle.flat_text.specs.Pieces.{lines_of}
use Rattle.flat_judge.proofs.Looking.{lines-none, noted-all, noted-first, noted-more}
use Rattle.flat_judge.proofs.probe_guide.ProbeGuide.of_lines.Goals as goal

pub loop-init : goal.loop-init
loop-init c = (noted-first c.args.script.now c.args.text.now c.in_ok-guide.guide.seen.items c.in_ok-guide.ensures, omega arith)

pub returns-in_default : goal.returns-in_default
returns-in_default c = noted-all c.args.script.now (lines_of c.args.text.now) c.loop.rest.now c.loop.guide.seen.items c.loop.invariant.0
    c.in_default.ensures.lines

pub loop-preserved : goal.loop-preserved
loop-preserved c = (
  noted-more c.args.script.now (lines_of c.args.text.now) c.loop.rest.now c.in-Some.first.now c.in-Some.later.now c.loop.guide.seen.items
      c.note.new.self.seen.items c.loop.invariant.0 c.in-Some.ensures.lines c.in_ok-note.ensures,
  (let low = c.loop.invariant.1 in let shorter = c.in-Some.ensures.shorter in omega (arith, low, shorter)),
)

pub returns : goal.returns
returns c =
    let low = c.loop.invariant.1 in
    let end = c.loop-test.false in
    noted-all c.args.script.now (lines_of c.args.text.now) c.loop.rest.now c.loop.guide.seen.items c.loop.invariant.0
    (lines-none c.loop.rest.now (omega (arith, low, end)))
