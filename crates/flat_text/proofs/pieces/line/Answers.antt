use Rattle.std.proofs.Common.{arith}
use Rattle.std.proofs.lemmas.Bool.Decides.{nat_tests}
use Rattle.flat_text.proofs.PieceLemmas.{first_and_rest}
use Rattle.flat_text.proofs.pieces.line.Goals as goal

pub returns-clause-lines : goal.returns-clause-lines
returns-clause-lines c = first_and_rest c.args.text.now _ _ (grind (arith, nat_tests)) c.cut.ensures.before c.cut.ensures.after
