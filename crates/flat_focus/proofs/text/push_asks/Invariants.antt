use Rattle.std.proofs.Common.{◌≡◌, take, map}
use Rattle.flat_page.specs.Happenings.{said, all_lines}
use Rattle.flat_page.specs.Steps.{after_all}
use Rattle.flat_page.specs.Pages.{WritesLines}
use Rattle.flat_focus.specs.Steps.{lines_with, after}
use Rattle.flat_focus.proofs.text.push_asks.Given as goal

abbrev pub invariant-loop-line : goal.invariant-loop-line
invariant-loop-line l = record {
  text : WritesLines (all_lines (lines_with l.names) after l.fn.focus (map said (take l.line-index l.lines))) l.fn.page l.page;
  after : l.focus ≡ after_all after (map said (take l.line-index l.lines)) l.fn.focus;
}
