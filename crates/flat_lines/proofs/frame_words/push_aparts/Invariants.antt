use Rattle.std.proofs.Common.{take, map}
use Rattle.flat_page.specs.Pages.{WritesLines}
use Rattle.flat_lines.specs.FrameLines.{apart_line}
use Rattle.flat_lines.proofs.frame_words.push_aparts.Given as goal

abbrev pub invariant-loop-session : goal.invariant-loop-session
invariant-loop-session l = WritesLines (map (apart_line l.script) (take l.session-index l.sessions)) l.fn.page l.page
