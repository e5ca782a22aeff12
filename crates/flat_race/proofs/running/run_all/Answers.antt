use Rattle.flat_race.proofs.running.run_all.Goals as goal

pub returns-in_default-clause-raced : goal.returns-in_default-clause-raced
returns-in_default-clause-raced g c = tt

pub run_beside-run-requires-clause-may : goal.run_beside-run-requires-clause-may
run_beside-run-requires-clause-may g c κs within = c.requires.may

pub returns-clause-raced : goal.returns-clause-raced
returns-clause-raced g c = c.run_beside-run.ensures.raced
