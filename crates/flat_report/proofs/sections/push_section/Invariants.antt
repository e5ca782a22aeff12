use Rattle.std.proofs.Common.{◌≡◌, ◌++◌, drop}
use Rattle.flat_report.specs.Handed.{entries_text}
use Rattle.flat_report.specs.Sections.{rest_of, section_text}
use Rattle.flat_report.proofs.Reaching.{Reaches}
use Rattle.flat_report.proofs.sections.push_section.Given as goal

abbrev pub invariant-loop-entry : goal.invariant-loop-entry
invariant-loop-entry l = record {
  reaches : Reaches l.section.start l.section.entries.now l.cursor l.entry-index;
  text : l.paged ++ entries_text l.script l.section.lost.now (rest_of l.cursor) (drop l.entry-index l.section.entries.now)
      ≡ l.fn.paged ++ section_text l.script l.section;
}
