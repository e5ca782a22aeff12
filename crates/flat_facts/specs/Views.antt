-- The view that a session's calls leave it, and the last one that it ever made.
use Rattle.std.specs.Prelude.{ℕ, Bool, true, false, cond, List, [], ◌∷◌, ◌+◌, Option, Some, None}
use Rattle.flat_base.specs.declared.ids.SessionNo.{SessionNo}
use Rattle.flat_scene.specs.declared.calls.Call.{Call}
use Rattle.flat_scene.specs.declared.calls.Call.TheVariants.{CreateView, ReleaseView, Clear}
use Rattle.flat_scene.specs.declared.journal.Entry.{Entry}
use Rattle.flat_scene.specs.declared.journal.EntryKind.{EntryKind}
use Rattle.flat_scene.specs.declared.journal.EntryKind.TheVariants.{View}
use Rattle.flat_scene.specs.declared.journal.Reply.{Reply}
use Rattle.flat_scene.specs.declared.journal.Reply.TheVariants.{Done}
use Rattle.flat_scene.specs.History.{◌▹◌, is_session}
use Rattle.flat_base.specs.declared.ids.PairNo.{PairNo}
use Rattle.flat_rules.specs.Legal.{number_if}
use Rattle.flat_rules.specs.Shown.{is_pair}
use Rattle.std.specs.Option.{option_or}

-- a call that makes a view
abbrev pub is_new_view : Call → Bool
is_new_view (CreateView p) = true
is_new_view _ = false

-- the pair whose view an entry with that reply makes
abbrev pub view_made : EntryKind → Reply → Option PairNo
view_made (View p) Done = Some p
view_made _ _ = None

-- the pair of the last view that a session made
abbrev pub last_view : SessionNo → List Entry → Option PairNo
last_view s [] = None
last_view s (before ▹ entry) = cond (is_session s entry.actor)
    (option_or (view_made entry.kind entry.reply) (last_view s before)) (last_view s before)

-- the last view, where it still stands: a session's calls leave it no other
abbrev pub if_unended : Option PairNo → (PairNo → Bool) → Option PairNo
if_unended None is_ended = None
if_unended (Some p) is_ended = cond (is_ended p) None (Some p)

-- the view after a call, and after several
abbrev pub view_then : Option PairNo → Call → Option PairNo
view_then view (CreateView p) = Some p
view_then view ReleaseView = None
view_then view Clear = None
view_then view _ = view

abbrev pub view_after : Option PairNo → List Call → Option PairNo
view_after view [] = view
view_after view (call ∷ calls) = view_after (view_then view call) calls

-- a call that may lose an end: it releases the view, or clears the viewports too
abbrev pub is_loss : Call → Bool
is_loss ReleaseView = true
is_loss Clear = true
is_loss _ = false

-- whether a call ends the view of a pair, and at how many calls that is so
abbrev pub ends_it : PairNo → Option PairNo → Call → Bool
ends_it p view ReleaseView = is_pair view p
ends_it p view Clear = is_pair view p
ends_it p view _ = false

abbrev pub ends_of : PairNo → Option PairNo → List Call → ℕ
ends_of p view [] = 0
ends_of p view (call ∷ calls) = number_if (ends_it p view call) + ends_of p (view_then view call) calls
