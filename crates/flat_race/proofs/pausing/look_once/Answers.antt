use Rattle.flat_race.proofs.Looks.{may_look}
use Rattle.flat_race.proofs.pausing.look_once.Goals as goal

pub look-requires-clause-may : goal.look-requires-clause-may
look-requires-clause-may g c = may_look _ _ _ c.requires.own c.requires.may
