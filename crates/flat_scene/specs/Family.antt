-- Which sessions can change what another is told.
use Rattle.std.specs.Prelude.{Bool, true, false, ◌&&◌, ◌||◌, ◌==◌, List, filter}
use Rattle.std.specs.List.{list_any}
use Rattle.flat_base.specs.declared.ids.Actor.{Actor}
use Rattle.flat_base.specs.declared.ids.Actor.TheVariants.{Display, Session, Probe}
use Rattle.flat_base.specs.declared.ids.SessionNo.{SessionNo}
use Rattle.flat_scene.specs.declared.journal.Entry.{Entry}
use Rattle.flat_scene.specs.declared.journal.EntryKind.{EntryKind}
use Rattle.flat_scene.specs.declared.journal.EntryKind.TheVariants.{Signal, Begin, Finish, Dpr}
use Rattle.flat_scene.specs.declared.setup.FenceDecl.{FenceDecl}
use Rattle.flat_scene.specs.declared.setup.PairDecl.{PairDecl}
use Rattle.flat_scene.specs.declared.setup.Setup.{Setup}
use Rattle.flat_scene.specs.History.{is_session}
use Rattle.flat_scene.specs.Frames.{sessions_to}
use Rattle.flat_scene.specs.Reach.{is_reached_by}

-- s owns the viewport end of a pair, and t the view end
abbrev pub joins : SessionNo → SessionNo → PairDecl → Bool
joins s t pair = is_session s pair.viewport && pair.view.0 == t.0

-- s and t own a fence together
abbrev pub shares : SessionNo → SessionNo → FenceDecl → Bool
shares s t fence = list_any (is_session s) fence.owners && list_any (is_session t) fence.owners

-- two sessions own the two ends of a pair, or own a fence
abbrev pub is_linked : Setup → SessionNo → SessionNo → Bool
is_linked setup s t = list_any (λ pair. joins s t pair || joins t s pair) setup.pairs
    || list_any (shares s t) setup.fences

-- the family of s: s, and what is reached from it from link to link
abbrev pub family : Setup → SessionNo → SessionNo → Bool
family setup s t = s.0 == t.0 || is_reached_by (is_linked setup) (sessions_to setup.sessions) s t

-- what the compositor does to all sessions: frames, signals, and pixel ratios
abbrev pub is_frame_entry : EntryKind → Bool
is_frame_entry (Begin time) = true
is_frame_entry Finish = true
is_frame_entry (Signal f) = true
is_frame_entry (Dpr ratio) = true
is_frame_entry _ = false

-- an entry of that kind and that actor is kept
abbrev pub keeps : (SessionNo → Bool) → EntryKind → Actor → Bool
keeps of_family kind (Session s) = of_family s
keeps of_family kind Display = is_frame_entry kind
keeps of_family kind (Probe p) = false

-- the same of an entry
abbrev pub is_kept : (SessionNo → Bool) → Entry → Bool
is_kept of_family entry = keeps of_family entry.kind entry.actor

-- the entries of the family's sessions, and the frames, signals and pixel ratios of the compositor
abbrev pub only : (SessionNo → Bool) → List Entry → List Entry
only of_family = filter (is_kept of_family)
