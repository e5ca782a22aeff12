use Rattle.std.proofs.Common.{◌≡◌, ◌++◌, take}
use Rattle.flat_report.specs.Handed.{answers_text}
use Rattle.flat_report.proofs.report.push_probes.Given as goal

abbrev pub invariant-loop-answers : goal.invariant-loop-answers
invariant-loop-answers l = l.paged ≡ l.fn.paged ++ answers_text l.script (take l.answers-index l.probes)
