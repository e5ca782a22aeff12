use Rattle.std.proofs.Common.{w32}
use Rattle.std.proofs.lemmas.Int.{to_z-of_z}
use Rattle.flat_page.proofs.lemmas.PageLemmas.{then}
use Rattle.flat_lines.proofs.entry_lines.push_point.Goals as goal

pub returns : goal.returns
returns c =
    let e = to_z-of_z w32 in
    simp (e c.args.x c.ranges.x, e c.args.y c.ranges.y) at
    (then c.in_ok-word.ensures (then c.in_ok-point.ensures (then c.in_ok-push_long.ensures c.in_ok-push_hits.ensures)))
