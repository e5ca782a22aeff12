-- The line of an event that was posted.
use Rattle.std.specs.Prelude.{List}
use Rattle.flat_scene.specs.declared.journal.PostedEvent.{PostedEvent}
use Rattle.flat_places.specs.declared.script.Script.{Script}
use Rattle.flat_places.specs.Forms.{Word}
use Rattle.flat_lines.specs.EntryLines.{event_line}

-- the line of an event that was posted
abbrev pub post_line : Script → PostedEvent → List Word
post_line script post = event_line script post.session post.event
