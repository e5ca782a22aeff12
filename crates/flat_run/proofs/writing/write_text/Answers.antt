use Rattle.flat_run.proofs.Answering.{part_gained}
use Rattle.flat_run.proofs.writing.write_text.Goals as goal

pub returns-in-Err-clause-gains : goal.returns-in-Err-clause-gains
returns-in-Err-clause-gains g c = part_gained _ _ _ c.in-Err.ensures.part
