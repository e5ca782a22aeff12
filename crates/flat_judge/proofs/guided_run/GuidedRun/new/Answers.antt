use Rattle.std.proofs.Common.{refl}
use Rattle.flat_judge.proofs.RunSteps.{run_first}
use Rattle.flat_judge.proofs.guided_run.GuidedRun.new.Goals as goal

pub returns-clause-stands : goal.returns-clause-stands
returns-clause-stands c =
    run_first c.args.script.now c.requires _ c.in_ok-screen.ensures.stands c.in_ok-screen.ensures.no_entry c.in_ok-seats.ensures refl c.in_ok-places.ensures
    c.in_ok-answers.ensures
