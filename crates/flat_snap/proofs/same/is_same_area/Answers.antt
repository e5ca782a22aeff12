use Rattle.std.proofs.lemmas.Bool.Decides.{Decides-at}
use Rattle.flat_snap.proofs.Sameness.{option-same, rect-same}
use Rattle.flat_snap.proofs.same.is_same_area.Goals as goal

pub returns : goal.returns
returns c = Decides-at _ _ c.eq.ensures (option-same rect-same c.args.one c.args.other)
