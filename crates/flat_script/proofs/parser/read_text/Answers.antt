use Rattle.flat_script.proofs.PlainLemmas.{first_plain}
use Rattle.flat_script.proofs.parser.read_text.Goals as goal

pub read_line-requires-clause-plain : goal.read_line-requires-clause-plain
read_line-requires-clause-plain c = first_plain _ c.loop-first.text.now c.in-Some.first.now c.loop-first.invariant.known c.in-Some.ensures.first
