-- entries, those of frames, and what these post
use Rattle.std.specs.Prelude.{ℕ, cond, nat_lt, List, [], ◌∷◌, length, map, flat_map}
use Rattle.flat_base.specs.declared.ids.Actor.TheVariants.{Display}
use Rattle.flat_base.specs.declared.ids.SessionNo.{SessionNo}
use Rattle.flat_scene.specs.declared.journal.Entry.{Entry}
use Rattle.flat_scene.specs.declared.journal.Event.{Event}
use Rattle.flat_scene.specs.declared.journal.Event.TheVariants as event
use Rattle.flat_scene.specs.declared.journal.EntryKind.TheVariants.{Begin, Finish}
use Rattle.flat_scene.specs.declared.journal.PostedEvent.{PostedEvent}
use Rattle.flat_scene.specs.declared.journal.Reply.TheVariants.{Done}
use Rattle.flat_scene.specs.declared.setup.Setup.{Setup}
use Rattle.flat_scene.specs.Frames.{sessions_to}
use Rattle.flat_scene.specs.History.{◌▹◌}
use Rattle.flat_rules.specs.Posts.{events_to}
use Rattle.flat_base.specs.declared.ids.Actor.{Actor}
use Rattle.flat_scene.specs.declared.calls.Call.{Call}
use Rattle.flat_scene.specs.declared.journal.EntryKind.{EntryKind}
use Rattle.flat_scene.specs.declared.journal.Reply.{Reply}

-- an entry
abbrev pub entry_of : Actor → ℕ → List Call → EntryKind → Reply → Entry
entry_of who line calls kind reply = record { actor = who; line = line; calls = calls; kind = kind; reply = reply }

-- a begin, and the history with it
abbrev pub begin_entry : ℕ → ℕ → Entry
begin_entry line time = entry_of Display line [] (Begin time) Done

abbrev pub begun : List Entry → ℕ → ℕ → List Entry
begun history line time = history ▹ begin_entry line time

-- the end of a frame, and the history with it
abbrev pub finish_entry : ℕ → Entry
finish_entry line = entry_of Display line [] Finish Done

abbrev pub finished : List Entry → ℕ → List Entry
finished history line = history ▹ finish_entry line

-- how many presents the frame took of a session, as an event
abbrev pub took_event : ℕ → List Event
took_event n = cond (nat_lt 0 n) (event.FramePresented n ∷ []) []

-- an event of the entry at that place
abbrev pub post_of : ℕ → SessionNo → Event → PostedEvent
post_of place s event = record { entry = place; session = s; event = event }

-- the posts that an entry makes to the first sessions
abbrev pub posts_to : Setup → List Entry → Entry → ℕ → List PostedEvent
posts_to setup history entry n = flat_map (λ s. map (post_of (length history) s) (events_to setup history entry s))
    (sessions_to n)
