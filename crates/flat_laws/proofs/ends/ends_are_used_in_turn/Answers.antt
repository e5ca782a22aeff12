use Rattle.flat_laws.proofs.Lost.{used-in-turn, used-once}
use Rattle.flat_laws.proofs.ends.ends_are_used_in_turn.Goals as goal

pub returns-clause-views : goal.returns-clause-views
returns-clause-views c = used-once

pub returns-clause-viewports : goal.returns-clause-viewports
returns-clause-viewports c = used-in-turn
