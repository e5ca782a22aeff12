-- What two histories tell alike.
use Rattle.std.specs.Prelude.{◌≡◌, List, Some}
use Rattle.flat_base.specs.declared.ids.Actor.TheVariants.{Session}
use Rattle.flat_base.specs.declared.ids.SessionNo.{SessionNo}
use Rattle.flat_scene.specs.declared.journal.Entry.{Entry}
use Rattle.flat_scene.specs.declared.setup.Setup.{Setup}
use Rattle.flat_rules.specs.Watch.{Watcher, listener, told}

-- Of two histories, both tell the watchers of a session the same.
abbrev pub TellsTheSame : Setup → List Entry → List Entry → SessionNo → Type 0
TellsTheSame setup before after s = (w : Watcher) → listener setup w ≡ Some (Session s)
    → told setup after w ≡ told setup before w
