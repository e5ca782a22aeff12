use Rattle.std.proofs.Common.{◌∙◌}
use Rattle.flat_publish.proofs.lemmas.Beginnings.{prefix_trans}
use Rattle.flat_race.proofs.probe.look_again.Goals as goal

pub returns-in_err-frame-clause-home : goal.returns-in_err-frame-clause-home
returns-in_err-frame-clause-home g c = c.frame.ensures.home ∙ c.loop.invariant.home

pub returns-in_err-frame-clause-grows : goal.returns-in_err-frame-clause-grows
returns-in_err-frame-clause-grows g c = prefix_trans _ _ _ c.loop.invariant.grows c.frame.ensures.grows

pub returns-then-wanted-frame-clause-home : goal.returns-then-wanted-frame-clause-home
returns-then-wanted-frame-clause-home g c = c.frame.ensures.home ∙ c.loop.invariant.home

pub returns-then-wanted-frame-clause-grows : goal.returns-then-wanted-frame-clause-grows
returns-then-wanted-frame-clause-grows g c = prefix_trans _ _ _ c.loop.invariant.grows c.frame.ensures.grows

pub loop-preserved : goal.loop-preserved
loop-preserved g c = record { home = c.frame.ensures.home ∙ c.loop.invariant.home; grows = prefix_trans _ _ _ c.loop.invariant.grows c.frame.ensures.grows }

pub returns-clause-home : goal.returns-clause-home
returns-clause-home g c = c.frame-2.ensures.home ∙ c.loop.invariant.home

pub returns-clause-grows : goal.returns-clause-grows
returns-clause-grows g c = prefix_trans _ _ _ c.loop.invariant.grows c.frame-2.ensures.grows
