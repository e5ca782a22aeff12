use Rattle.flat_content.proofs.Serials.{changed-place}
use Rattle.flat_content.proofs.table.put.Goals as goal

pub returns-clause-items : goal.returns-clause-items
returns-clause-items c = changed-place _ _ _ c.requires.made
