-- The lines of entries and of events.
use Rattle.std.specs.Prelude.{ℕ, ℤ, pos, List, [], ◌∷◌, ◌++◌, Option, Some, None, codes, suc}
use Rattle.std.specs.List.{flat_map}
use Rattle.std.specs.Fmt.{decimal}
use Rattle.flat_base.specs.Number.{reason_number}
use Rattle.flat_base.specs.declared.errors.FlatlandError.{FlatlandError}
use Rattle.flat_base.specs.declared.errors.FlatlandError.TheVariants.{BadOperation, NoPresentsRemaining, BadHangingGet}
use Rattle.flat_base.specs.declared.errors.Reason.{Reason}
use Rattle.flat_base.specs.declared.ids.SessionNo.{SessionNo}
use Rattle.flat_scene.specs.declared.calls.Watch.{Watch}
use Rattle.flat_scene.specs.declared.calls.Watch.TheVariants as watch
use Rattle.flat_scene.specs.declared.frames.Hit.{Hit}
use Rattle.flat_scene.specs.declared.journal.Entry.{Entry}
use Rattle.flat_scene.specs.declared.journal.Event.{Event}
use Rattle.flat_scene.specs.declared.journal.Event.TheVariants as event
use Rattle.flat_scene.specs.declared.journal.EntryKind.{EntryKind}
use Rattle.flat_scene.specs.declared.journal.EntryKind.TheVariants as kind
use Rattle.flat_scene.specs.declared.journal.Layout.{Layout}
use Rattle.flat_scene.specs.declared.journal.Reply.{Reply}
use Rattle.flat_scene.specs.declared.journal.Reply.TheVariants as reply
use Rattle.flat_scene.specs.declared.journal.WatcherValue.{WatcherValue}
use Rattle.flat_scene.specs.declared.journal.WatcherValue.TheVariants as told
use Rattle.flat_places.specs.declared.script.Script.{Script}
use Rattle.flat_page.specs.Words.{numbers, number, session_name, actor_name}
use Rattle.flat_places.specs.Forms.{Word}
use Rattle.flat_print.specs.Choices.{interaction_number}
use Rattle.flat_lines.specs.Names.{pair_name}

-- ---- what watchers tell

abbrev pub layout_words : Layout → List Word
layout_words layout =
    numbers (pos layout.w ∷ pos layout.h ∷ []) ++ codes "inset"
    ∷ numbers (pos layout.inset.top ∷ pos layout.inset.right ∷ pos layout.inset.bottom ∷ pos layout.inset.left ∷ [])
    ++ codes "ratio" ∷ number layout.ratio ∷ []

abbrev pub value_words : WatcherValue → List Word
value_words (told.Layout layout) = layout_words layout
value_words told.Connected = codes "connected" ∷ []
value_words told.Disconnected = codes "disconnected" ∷ []
value_words told.HasPresented = codes "content_has_presented" ∷ []
value_words told.Gone = codes "gone" ∷ []

-- ---- events

abbrev pub watched_word : Watch → Word
watched_word watch.Layout = codes "layout"
watched_word watch.Status = codes "status"
watched_word (watch.Child c) = codes "child"

abbrev pub event_words : Script → Event → List Word
event_words script (event.Told p watching value) = watched_word watching ∷ pair_name script p ∷ value_words value
event_words script (event.FramePresented count) = codes "framepresented" ∷ number count ∷ []
event_words script (event.TokenBack p) = codes "tokenback" ∷ pair_name script p ∷ []
event_words script (event.Credits count) = codes "credits" ∷ number count ∷ []

-- the line of an event that is posted to a session
abbrev pub event_line : Script → SessionNo → Event → List Word
event_line script s posted = codes ">" ∷ session_name script.sessions s ∷ event_words script posted

-- ---- entries

abbrev pub get_word : Watch → Word
get_word watch.Layout = codes "GetLayout"
get_word watch.Status = codes "GetStatus"
get_word (watch.Child c) = codes "GetChildStatus"

-- `B7` for the reason of number 7
abbrev pub reason_words : Option Reason → List Word
reason_words (Some reason) = (codes "B" ++ decimal (reason_number reason)) ∷ []
reason_words None = []

-- why a session was closed
abbrev pub closing_words : Option FlatlandError → Option Reason → List Word
closing_words None reason = []
closing_words (Some BadOperation) reason = codes "BAD_OPERATION" ∷ reason_words reason
closing_words (Some NoPresentsRemaining) reason = codes "NO_PRESENTS_REMAINING" ∷ []
closing_words (Some BadHangingGet) reason = codes "BAD_HANGING_GET" ∷ []

-- what was done, where that is all there is to say
abbrev pub done_words : EntryKind → List Word
done_words (kind.View p) = codes "CreateView" ∷ codes "ok" ∷ []
done_words (kind.Viewport p props) = codes "CreateViewport" ∷ codes "ok" ∷ []
done_words (kind.Signal f) = codes "Signal" ∷ codes "ok" ∷ []
done_words (kind.Dpr ratio) = codes "dpr" ∷ codes "ok" ∷ []
done_words _ = []

-- the call of a get
abbrev pub asked_words : EntryKind → List Word
asked_words (kind.Get watching) = get_word watching ∷ []
asked_words _ = []

-- what stands behind the actor and the line's number
abbrev pub reply_words : EntryKind → Reply → List Word
reply_words made reply.Done = done_words made
reply_words made (reply.Presented count credits) =
    codes "Present" ∷ number count ∷ codes "credits" ∷ number credits ∷ []
reply_words made reply.Held = asked_words made ++ codes "held" ∷ []
reply_words made (reply.Now value) = asked_words made ++ codes "now" ∷ value_words value
reply_words made (reply.Polled count) = codes "Poll" ∷ number count ∷ []
reply_words made (reply.Met value) = codes "Wait" ∷ codes "met" ∷ number value ∷ []
reply_words made (reply.Unmet value) = codes "Wait" ∷ codes "unmet" ∷ number value ∷ []
reply_words made (reply.Closed error reason) = codes "closed" ∷ closing_words error reason

-- the sessions hit, each with its interaction
abbrev pub hit_words : Script → List Hit → List Word
hit_words script hits =
    flat_map (λ hit. session_name script.sessions hit.session ∷ number (interaction_number hit.interaction) ∷ []) hits

-- what is said of a point: it, the frame in which it was asked, and who is hit
abbrev pub point_words : Script → ℤ → ℤ → ℕ → List Hit → List Word
point_words script x y frame hits =
    codes "hit" ∷ numbers (x ∷ y ∷ []) ++ codes "frame" ∷ number frame ∷ hit_words script hits

-- What stands behind the number of the line.
-- The number of finished frames is that before the entry, and the hits are those of the last of them.
abbrev pub answer_words : Script → ℕ → (ℤ → ℤ → List Hit) → EntryKind → Reply → List Word
answer_words script frames hits (kind.End refused) answer = []
answer_words script frames hits (kind.Begin time) answer =
    codes "begin" ∷ number time ∷ codes "frame" ∷ number (suc frames) ∷ []
answer_words script frames hits kind.Finish answer = codes "done" ∷ codes "frame" ∷ number (suc frames) ∷ []
answer_words script frames hits (kind.Hit x y) answer = point_words script x y frames (hits x y)
answer_words script frames hits made answer = reply_words made answer

-- what stands behind the actor
abbrev pub said_words : Script → ℕ → (ℤ → ℤ → List Hit) → ℕ → EntryKind → Reply → List Word
said_words script frames hits line (kind.End refused) answer = codes "end" ∷ number refused ∷ []
said_words script frames hits line made answer = number line ∷ answer_words script frames hits made answer

-- the line of an entry
abbrev pub entry_line : Script → ℕ → (ℤ → ℤ → List Hit) → Entry → List Word
entry_line script frames hits entry = actor_name script entry.actor
    ∷ said_words script frames hits entry.line entry.kind entry.reply
