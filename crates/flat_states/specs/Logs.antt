-- the journal as contracts see it
use Rattle.std.specs.Prelude.{ℕ, List}
use Rattle.flat_scene.specs.declared.journal.Entry.{Entry}
use Rattle.flat_scene.specs.declared.journal.PostedEvent.{PostedEvent}

-- the history, its posts, and for how many entries and posts more there is room
pub record Logged : Type 0 where
  pub history : List Entry
  pub posts : List PostedEvent
  pub room : ℕ
  pub post_room : ℕ
