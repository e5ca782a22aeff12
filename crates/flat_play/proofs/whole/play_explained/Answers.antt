use Rattle.flat_play.proofs.lemmas.Begun.{none-begun}
use Rattle.flat_play.proofs.lemmas.Seen.{kept_none}
use Rattle.flat_play.proofs.whole.play_explained.Goals as goal

pub returns-in_err-new-clause-kept : goal.returns-in_err-new-clause-kept
returns-in_err-new-clause-kept g c = kept_none _ _ _ _ _ (none-begun c.args.script.now)
