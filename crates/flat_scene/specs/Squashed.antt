-- What frames take where each present may be passed over for a later one: all before the first one that isn't ready.
use Rattle.std.specs.Prelude.{ℕ, ◌+◌, Bool, false, cond, ◌||◌, List, [], length, drop}
use Rattle.flat_base.specs.declared.ids.SessionNo.{SessionNo}
use Rattle.flat_base.specs.declared.ids.FenceNo.{FenceNo}
use Rattle.flat_scene.specs.declared.journal.Entry.{Entry}
use Rattle.flat_scene.specs.declared.journal.EntryKind.{EntryKind}
use Rattle.flat_scene.specs.declared.journal.EntryKind.TheVariants.{Begin}
use Rattle.flat_scene.specs.declared.setup.Setup.{Setup}
use Rattle.flat_scene.specs.Frames.{ready_run, sessions_to, signals}
use Rattle.flat_scene.specs.History.{◌▹◌, is_closed, presents, Published}

-- what an entry of this kind takes of what waits; nothing of a closed session
abbrev pub takes_all : EntryKind → (FenceNo → Bool) → Bool → List Published → List Published
takes_all (Begin time) is_signalled closed waiting = cond closed [] (ready_run time is_signalled waiting)
takes_all _ is_signalled closed waiting = []

-- what the end of the frame begun last lets go of a session
abbrev pub lets_all_go : EntryKind → (FenceNo → Bool) → Bool → List Published → List Published → List Published
lets_all_go (Begin time) is_signalled closed waiting going = cond closed waiting (ready_run time is_signalled waiting)
lets_all_go _ is_signalled closed waiting going = going

module _ (setup : Setup) where
  abbrev mutual
    -- whether a fence is signalled
    pub is_signalled : List Entry → FenceNo → Bool
    is_signalled [] fence = false
    is_signalled (before ▹ entry) fence = is_signalled before fence
        || signals (sessions_to setup.sessions) entry.kind (going before) fence

    -- how many presents of a session frames have taken
    pub taken : List Entry → SessionNo → ℕ
    taken [] s = 0
    taken (before ▹ entry) s =
        taken before s + length (takes_all entry.kind (is_signalled before) (is_closed s before)
        (drop (taken before s) (presents s before)))

    -- the presents of a session that the end of the frame begun last lets go
    pub going : List Entry → SessionNo → List Published
    going [] s = []
    going (before ▹ entry) s =
        lets_all_go entry.kind (is_signalled before) (is_closed s before) (drop (taken before s) (presents s before))
        (going before s)
