use Rattle.std.proofs.Common.{sym, ◌∙◌, w64}
use Rattle.std.proofs.lemmas.Int.{to_z-of_z}
use Rattle.flat_hit.proofs.Clips.{clip-lacks}
use Rattle.flat_hit.proofs.hit_at.Goals as goal

pub returns-then-not-contains : goal.returns-then-not-contains
returns-then-not-contains c =
    let lacks = sym c.contains.ensures ∙ c.if-not-contains.true in
    clip-lacks c.args.at.now c.args.x c.args.y (rw (to_z-of_z w64 c.args.x c.ranges.x, to_z-of_z w64 c.args.y c.ranges.y) at lacks)
