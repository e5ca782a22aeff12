-- the events that a poll looks through
use Rattle.std.specs.Prelude.{◌==◌, List, filter, map}
use Rattle.flat_base.specs.declared.ids.SessionNo.{SessionNo}
use Rattle.flat_scene.specs.declared.journal.Event.{Event}
use Rattle.flat_scene.specs.declared.journal.PostedEvent.{PostedEvent}

-- the events of posts that are a session's
abbrev pub events_for : SessionNo → List PostedEvent → List Event
events_for s posts = map (λ post. post.event) (filter (λ post. post.session.0 == s.0) posts)
