use Rattle.std.proofs.Common.{◌+◌, ◌-◌, ◌*◌}
use Rattle.flat_render.proofs.parts.+parts.Given as goal

abbrev pub decreases-span_strips : goal.decreases-span_strips
decreases-span_strips g l = 2 * (l.span.upto - l.span.from)

abbrev pub decreases-first : goal.decreases-first
decreases-first g l = 2 * (l.before.upto - l.before.from) + 1

abbrev pub decreases-second : goal.decreases-second
decreases-second g l = 2 * (l.after.upto - l.after.from) + 1
