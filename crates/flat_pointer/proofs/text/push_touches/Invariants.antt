use Rattle.std.proofs.Common.{◌≡◌, take, map}
use Rattle.flat_page.specs.Happenings.{said, all_lines}
use Rattle.flat_page.specs.Steps.{after_all}
use Rattle.flat_page.specs.Pages.{WritesLines}
use Rattle.flat_pointer.specs.Steps.{lines_with, after}
use Rattle.flat_pointer.proofs.text.push_touches.Given as goal

abbrev pub invariant-loop-one : goal.invariant-loop-one
invariant-loop-one l = record {
  text : WritesLines (all_lines (lines_with l.names) after l.fn.pointers (map said (take l.one-index l.touches))) l.fn.page l.page;
  after : l.pointers ≡ after_all after (map said (take l.one-index l.touches)) l.fn.pointers;
}
