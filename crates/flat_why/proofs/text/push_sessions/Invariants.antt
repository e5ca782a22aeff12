use Rattle.std.proofs.Common.{map}
use Rattle.flat_page.specs.Pages.{WritesLines}
use Rattle.flat_scene.specs.Frames.{sessions_to}
use Rattle.flat_why.specs.Noted.{session_line}
use Rattle.flat_why.proofs.text.push_sessions.Given as goal

abbrev pub invariant-loop-i : goal.invariant-loop-i
invariant-loop-i l = WritesLines (map (session_line l.script l.scene.ratio l.scene.shown.now l.scene.frame.now l.scene.standings.now) (sessions_to l.i))
    l.fn.page l.page
