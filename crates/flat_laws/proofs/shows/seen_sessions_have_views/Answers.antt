use Rattle.flat_laws.proofs.Seen.{connected-have-views, seen-have-views}
use Rattle.flat_laws.proofs.shows.seen_sessions_have_views.Goals as goal

pub returns-clause-seen : goal.returns-clause-seen
returns-clause-seen c = seen-have-views c.views_follow_links.ensures.sessions

pub returns-clause-connected : goal.returns-clause-connected
returns-clause-connected c = connected-have-views c.views_follow_links.ensures.sessions
