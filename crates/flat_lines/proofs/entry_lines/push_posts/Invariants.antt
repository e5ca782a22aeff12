use Rattle.std.proofs.Common.{take, map}
use Rattle.flat_page.specs.Pages.{WritesLines}
use Rattle.flat_lines.specs.PostLines.{post_line}
use Rattle.flat_lines.proofs.entry_lines.push_posts.Given as goal

abbrev pub invariant-loop-post : goal.invariant-loop-post
invariant-loop-post l = WritesLines (map (post_line l.script) (take l.post-index l.posts)) l.fn.page l.page
