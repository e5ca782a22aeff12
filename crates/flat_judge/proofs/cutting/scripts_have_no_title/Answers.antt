use Rattle.flat_judge.proofs.NoTitles.{scripts-have-no-title}
use Rattle.flat_judge.proofs.cutting.scripts_have_no_title.Goals as goal

pub returns : goal.returns
returns c = scripts-have-no-title
