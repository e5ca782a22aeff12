-- The events of a history.
use Rattle.std.specs.Prelude.{List, [], ◌++◌, length, map}
use Rattle.flat_scene.specs.declared.journal.Entry.{Entry}
use Rattle.flat_scene.specs.declared.journal.PostedEvent.{PostedEvent}
use Rattle.flat_scene.specs.declared.setup.Setup.{Setup}
use Rattle.flat_scene.specs.History.{◌▹◌}
use Rattle.flat_rules.specs.Posts.{posted}

module _ (setup : Setup) where
  -- the events of a history, each with the place of its entry
  abbrev pub posts : List Entry → List PostedEvent
  posts [] = []
  posts (before ▹ entry) = posts before ++ map
      (λ sent. record { entry = length before; session = sent.to; event = sent.event }) (posted setup before entry)
