-- What a line of a session makes.
use Rattle.std.specs.Prelude.{◌≡◌, Bool, true, false, List, [], Some}
use Rattle.std.specs.Arc.{arc_value}
use Rattle.flat_base.specs.declared.ids.Actor.TheVariants.{Session}
use Rattle.flat_base.specs.declared.ids.SessionNo.{SessionNo}
use Rattle.flat_scene.specs.declared.calls.Call.{Call}
use Rattle.flat_scene.specs.declared.journal.Entry.{Entry}
use Rattle.flat_scene.specs.declared.journal.Event.{Event}
use Rattle.flat_scene.specs.declared.journal.EntryKind.{EntryKind}
use Rattle.flat_scene.specs.declared.journal.EntryKind.TheVariants as kind
use Rattle.flat_scene.specs.declared.setup.Setup.{Setup}
use Rattle.flat_core.specs.Machines.{Machine, present_of}
use Rattle.flat_rules.specs.Legal.{unread_events}
use Rattle.flat_core.specs.Watchers.{watcher_meant}
use Rattle.flat_rules.specs.Shown.{tree_of}
use Rattle.flat_rules.specs.Watch.{watcher_of}
use Rattle.flat_session.specs.declared.requested_entry.RequestedEntry.{RequestedEntry}
use Rattle.flat_session.specs.declared.requested_entry.RequestedEntry.TheVariants as made

-- the kind of the entry
abbrev pub kind_of : RequestedEntry → EntryKind
kind_of (made.View pair) = kind.View pair
kind_of (made.Viewport c pair props) = kind.Viewport pair props
kind_of (made.Present args snapshot) = kind.Present args
kind_of (made.Get get pair) = kind.Get get
kind_of (made.Signal f) = kind.Signal f
kind_of made.Poll = kind.Poll
kind_of (made.Wait c) = kind.Wait c
kind_of (made.Close why) = kind.Close why

-- the entries that take memory
abbrev pub takes_memory : RequestedEntry → Bool
takes_memory (made.Viewport c pair props) = true
takes_memory (made.Present args snapshot) = true
takes_memory (made.Get get pair) = true
takes_memory made.Poll = true
takes_memory _ = false

-- a present shows the tree of all calls of its session, and a get is of the pair whose watcher is meant
abbrev pub IsMeant : Machine → SessionNo → List Call → RequestedEntry → Type 0
IsMeant m s calls (made.Present args snapshot) =
    Some (arc_value snapshot) ≡ tree_of m.setup (present_of m.history s calls args)
IsMeant m s calls (made.Get get pair) = watcher_of m.setup m.history (Session s) calls get
    ≡ Some (watcher_meant m.history get pair)
IsMeant m s calls _ = Unit {0}

-- the events that an entry of a session hands over: a poll those since the last one
abbrev pub handed_over : Setup → List Entry → SessionNo → EntryKind → List Event
handed_over setup history s kind.Poll = unread_events setup s history
handed_over setup history s _ = []
