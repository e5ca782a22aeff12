use Rattle.flat_race.proofs.Looks.{looked_none}
use Rattle.flat_race.proofs.pausing.pause.Goals as goal

pub look_again-requires-clause-may : goal.look_again-requires-clause-may
look_again-requires-clause-may g c κs within = c.requires.may c.in-Wait.c c.in-Wait.is

pub returns-in_default : goal.returns-in_default
returns-in_default g c = looked_none _ _ c.requires.legal c.requires.whole
