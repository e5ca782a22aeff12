use Rattle.std.proofs.Common.{◌+◌, ◌-◌, ◌*◌}
use Rattle.flat_render.proofs.spans.+spans.Given as goal

abbrev pub decreases-draw_span : goal.decreases-draw_span
decreases-draw_span g l = 4 * (l.span.upto - l.span.from)

abbrev pub decreases-draw_both : goal.decreases-draw_both
decreases-draw_both g l = 4 * (l.before.upto - l.before.from + (l.after.upto - l.after.from)) - 1

abbrev pub decreases-draw_both-first : goal.decreases-draw_both-first
decreases-draw_both-first g l = 4 * (l.before.upto - l.before.from) + 1

abbrev pub decreases-draw_both-second : goal.decreases-draw_both-second
decreases-draw_both-second g l = 4 * (l.after.upto - l.after.from) + 1
