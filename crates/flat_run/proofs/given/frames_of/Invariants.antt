use Rattle.std.proofs.Common.{◌≡◌, take}
use Rattle.std.specs.List.{count_by}
use Rattle.flat_forms.specs.Body.{ends_frame}
use Rattle.flat_run.proofs.given.frames_of.Given as goal

abbrev pub invariant-loop-line : goal.invariant-loop-line
invariant-loop-line l = l.frames ≡ count_by (λ line. ends_frame line.body) (take l.line-index l.script.lines)
