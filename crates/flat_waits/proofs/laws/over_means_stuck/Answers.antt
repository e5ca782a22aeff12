use Rattle.flat_waits.proofs.Reaching.{over-means-stuck}
use Rattle.flat_waits.proofs.laws.over_means_stuck.Goals as goal

pub returns : goal.returns
returns c = over-means-stuck
