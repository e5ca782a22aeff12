use Rattle.std.proofs.lemmas.Bool.Decides.{Decides-at}
use Rattle.flat_snap.proofs.Sameness.{option-same, content-same}
use Rattle.flat_snap.proofs.same.is_same_content.Goals as goal

pub returns : goal.returns
returns c = Decides-at _ _ c.eq.ensures (option-same content-same c.args.one c.args.other)
