use Rattle.std.proofs.Common.{arith}
use Rattle.flat_ink.proofs.lemmas.Bounds.{wide-part}
use Rattle.flat_ink.proofs.axis.share.Goals as goal

pub returns-then-extent-count-clause-value : goal.returns-then-extent-count-clause-value
returns-then-extent-count-clause-value c = wide-part c.args.depth c.args.count 65536 c.args.extent c.requires.count (omega arith) c.if-extent-count.true
