use Rattle.flat_laws.proofs.Releasing.{closed-release, only-frames-release, taken-release}
use Rattle.flat_laws.proofs.presents.frames_release_fences.Goals as goal

pub returns-clause-released : goal.returns-clause-released
returns-clause-released c = taken-release

pub returns-clause-closed : goal.returns-clause-closed
returns-clause-closed c = closed-release

pub returns-clause-only : goal.returns-clause-only
returns-clause-only c = only-frames-release
