use Rattle.flat_report.proofs.Answered.{frames-are-seen}
use Rattle.flat_report.proofs.laws.frames_are_seen.Goals as goal

pub returns : goal.returns
returns c = frames-are-seen
