use Rattle.std.proofs.Common.{◌≡◌, ◌++◌, take, map}
use Rattle.flat_page.specs.Words.{text_of}
use Rattle.flat_report.specs.Handed.{answer_line}
use Rattle.flat_report.proofs.report.push_answers.Given as goal

abbrev pub invariant-loop-answer : goal.invariant-loop-answer
invariant-loop-answer l = l.paged ≡ l.fn.paged ++ text_of (map (answer_line l.script) (take l.answer-index l.answers))
