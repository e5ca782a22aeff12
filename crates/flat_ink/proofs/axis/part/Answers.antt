use Rattle.flat_ink.proofs.lemmas.Bounds.{depth-below}
use Rattle.flat_ink.proofs.axis.part.Goals as goal

pub share-requires-clause-within : goal.share-requires-clause-within
share-requires-clause-within c = rw (c.depth_at.ensures, c.extent.ensures) (depth-below c.args.axis c.args.p c.requires.within)
