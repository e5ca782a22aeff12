use Rattle.flat_examples.proofs.Readings.{others-come-first, ends-cross}
use Rattle.flat_examples.proofs.orders_are_refused.Goals as goal

pub returns-clause-others_come_first : goal.returns-clause-others_come_first
returns-clause-others_come_first c = others-come-first

pub returns-clause-ends_cross : goal.returns-clause-ends_cross
returns-clause-ends_cross c = ends-cross
