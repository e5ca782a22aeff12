use Rattle.flat_play.proofs.lemmas.Begun.{none-begun}
use Rattle.flat_play.proofs.lemmas.Seen.{kept_none}
use Rattle.flat_play.proofs.run.play_lines.Goals as goal

pub returns-in_err-play-clause-kept : goal.returns-in_err-play-clause-kept
returns-in_err-play-clause-kept g c = kept_none _ _ _ _ _ (none-begun c.args.input.script.now)

pub returns-in_err-probes-clause-kept : goal.returns-in_err-probes-clause-kept
returns-in_err-probes-clause-kept g c = kept_none _ _ _ _ _ (none-begun c.args.input.script.now)
