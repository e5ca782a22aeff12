use Rattle.std.proofs.Common.{◌<◌, subst}
use Rattle.flat_hit.proofs.Regions.{place-more}
use Rattle.flat_hit.proofs.hit_index.region_places.Goals as goal

pub loop-place-preserved : goal.loop-place-preserved
loop-place-preserved c =
    place-more c.args.nodes.now c.loop-place.place c.at.result.now c.loop-place.places c.note.new.places
    (subst (λ n. c.loop-place.place < n) c.len-place-end.ensures c.loop-place-test.true) c.at.ensures c.loop-place.invariant c.in_ok-note.ensures
