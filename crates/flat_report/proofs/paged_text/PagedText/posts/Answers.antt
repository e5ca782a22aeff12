use Rattle.flat_report.proofs.Paging.{put-behind}
use Rattle.flat_report.proofs.paged_text.PagedText.posts.Goals as goal

pub returns : goal.returns
returns c = put-behind c.self.inside.full c.args.self.now c.self.inside.page _ _ c.in_ok-push_posts.ensures.text c.self.view_is
