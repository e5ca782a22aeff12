use Rattle.flat_page.proofs.lemmas.PageLemmas.{more_lines}
use Rattle.flat_lines.specs.PostLines.{post_line}
use Rattle.flat_lines.proofs.entry_lines.push_posts.Goals as goal

pub loop-post-preserved : goal.loop-post-preserved
loop-post-preserved c = more_lines (post_line c.args.script.now) c.args.posts.now c.loop-post.post-index _ c.loop-post-test.true c.loop-post.invariant
    c.in_ok-push_post.ensures
