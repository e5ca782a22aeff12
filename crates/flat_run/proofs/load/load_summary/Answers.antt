use Rattle.std.proofs.Common.{ap}
use Rattle.flat_run.specs.Forms.{plain, read_as}
use Rattle.flat_run.specs.Promise.{AreFramesOf}
use Rattle.flat_play.proofs.lemmas.Seen.{kept_as, kept_none}
use Rattle.flat_run.proofs.load.load_summary.Goals as goal

pub returns-in_err-script-clause-kept : goal.returns-in_err-script-clause-kept
returns-in_err-script-clause-kept g c = kept_none _ _ _ _ _ AreFramesOf.none

pub returns-clause-kept : goal.returns-clause-kept
returns-clause-kept g c = kept_as _ _ _ _ _ _ _ (λ shown begun. AreFramesOf.some (plain c.in_ok-script.script) (ap (read_as plain) c.in_ok-script.ensures)
    begun) c.summed-text.ensures.kept
