use Rattle.std.proofs.Common.{◌≡◌, ◌++◌, map, take, true}
use Rattle.std.specs.List.{concat, list_all}
use Rattle.flat_report.specs.Sections.{is_written, written_text}
use Rattle.flat_report.proofs.apart.push_written.Given as goal

abbrev pub invariant-loop-text : goal.invariant-loop-text
invariant-loop-text l = record {
  text : l.paged ≡ l.fn.paged ++ concat (map written_text (take l.text-index l.texts));
  all : list_all is_written (take l.text-index l.texts) ≡ true;
}
