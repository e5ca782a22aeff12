-- What frames take and release.
use Rattle.std.specs.Prelude.{ℕ, zero, suc, ◌+◌, ◌-◌, Bool, false, cond, ◌&&◌, ◌||◌, ◌==◌, nat_le, List, [], ◌∷◌, ◌++◌}
use Rattle.std.specs.Prelude.{length, drop, take_while, Option, Some, None, unwrap_or}
use Rattle.std.specs.List.{list_any, list_all}
use Rattle.flat_base.specs.declared.ids.SessionNo.{SessionNo}
use Rattle.flat_base.specs.declared.ids.FenceNo.{FenceNo}
use Rattle.flat_base.specs.declared.limits.TheConstants.{FIRST_CREDITS, FULL_CREDITS}
use Rattle.flat_scene.specs.declared.calls.PresentArgs.{PresentArgs}
use Rattle.flat_scene.specs.declared.journal.Entry.{Entry}
use Rattle.flat_scene.specs.declared.journal.EntryKind.{EntryKind}
use Rattle.flat_scene.specs.declared.journal.EntryKind.TheVariants.{Signal, Begin, Finish, Dpr}
use Rattle.flat_scene.specs.declared.setup.Setup.{Setup}
use Rattle.flat_scene.specs.History.{◌▹◌, is_closed, presents, Published}
use Rattle.flat_scene.specs.Setups.{at_ratio}

-- the sessions from 1 to a number
abbrev pub sessions_to : ℕ → List SessionNo
sessions_to zero = []
sessions_to (suc n) = sessions_to n ++ (record { 0 = suc n }) ∷ []

-- whether a list of fences has this one
abbrev pub is_among : List FenceNo → FenceNo → Bool
is_among fences fence = list_any (λ other. other.0 == fence.0) fences

-- whether a present may be shown at that time: it is due, and its acquire fences are signalled
abbrev pub is_ready : ℕ → (FenceNo → Bool) → PresentArgs → Bool
is_ready time is_signalled args = nat_le args.time time && list_all is_signalled args.acquire

-- of the presents that wait, all before the first one that isn't ready
abbrev pub ready_run : ℕ → (FenceNo → Bool) → List Published → List Published
ready_run time is_signalled waiting = take_while (λ present. is_ready time is_signalled present.args) waiting

-- the items up to the first one that passes a test, and with it
abbrev pub up_to_first : {A : Type 0} → (A → Bool) → List A → List A
up_to_first test [] = []
up_to_first test (x ∷ xs) = x ∷ cond (test x) [] (up_to_first test xs)

-- whether a present has to be shown by the frame that takes it
abbrev pub is_unsquashable : Published → Bool
is_unsquashable present = present.args.unsquashable

-- What a frame takes of the presents that wait:
-- all before the first one that isn't ready, and none after the first unsquashable one.
abbrev pub ready_prefix : ℕ → (FenceNo → Bool) → List Published → List Published
ready_prefix time is_signalled waiting = up_to_first is_unsquashable (ready_run time is_signalled waiting)

-- what an entry of this kind takes of what waits; nothing of a closed session
abbrev pub takes : EntryKind → (FenceNo → Bool) → Bool → List Published → List Published
takes (Begin time) is_signalled closed waiting = cond closed [] (ready_prefix time is_signalled waiting)
takes _ is_signalled closed waiting = []

-- What the end of the frame begun last lets go of a session:
-- at a Begin it is what that takes, or all that waits of a session closed before.
abbrev pub lets_go : EntryKind → (FenceNo → Bool) → Bool → List Published → List Published → List Published
lets_go (Begin time) is_signalled closed waiting going = cond closed waiting (ready_prefix time is_signalled waiting)
lets_go _ is_signalled closed waiting going = going

-- whether one of these presents releases a fence
abbrev pub is_released_by : List Published → FenceNo → Bool
is_released_by presents fence = list_any (λ present. is_among present.args.release fence) presents

-- whether an entry of this kind signals a fence, where the open frame lets these presents of each session go
abbrev pub signals : List SessionNo → EntryKind → (SessionNo → List Published) → FenceNo → Bool
signals sessions (Signal other) going fence = other.0 == fence.0
signals sessions Finish going fence = list_any (λ s. is_released_by (going s) fence) sessions
signals sessions _ going fence = false

-- the pixel ratio that an entry of this kind sets
abbrev pub ratio_set : EntryKind → Option ℕ
ratio_set (Dpr ratio) = Some ratio
ratio_set _ = None

module _ (setup : Setup) where
  -- the pixel ratio of the display: the one set last, or the head's
  abbrev pub ratio : List Entry → ℕ
  ratio [] = setup.ratio
  ratio (before ▹ entry) = unwrap_or (ratio_set entry.kind) (ratio before)

  -- the setup with the pixel ratio that its display has by then
  abbrev pub setup_at : List Entry → Setup
  setup_at history = at_ratio (ratio history) setup

  abbrev mutual
    -- whether a fence is signalled
    pub is_signalled : List Entry → FenceNo → Bool
    is_signalled [] fence = false
    is_signalled (before ▹ entry) fence = is_signalled before fence
        || signals (sessions_to setup.sessions) entry.kind (going before) fence

    -- how many presents of a session frames have taken
    pub taken : List Entry → SessionNo → ℕ
    taken [] s = 0
    taken (before ▹ entry) s =
        taken before s + length
        (takes entry.kind (is_signalled before) (is_closed s before) (drop (taken before s) (presents s before)))

    -- the presents of a session that the end of the frame begun last lets go
    pub going : List Entry → SessionNo → List Published
    going [] s = []
    going (before ▹ entry) s =
        lets_go entry.kind (is_signalled before) (is_closed s before) (drop (taken before s) (presents s before))
        (going before s)

  -- the presents of a session that no frame has taken
  abbrev pub waiting : List Entry → SessionNo → List Published
  waiting history s = drop (taken history s) (presents s history)

  -- how many presents of a session may wait: one until a frame has taken one, and five from then on
  abbrev pub most_waiting : List Entry → SessionNo → ℕ
  most_waiting history s = cond (taken history s == 0) FIRST_CREDITS FULL_CREDITS

  -- how many presents a session may make
  abbrev pub credits : List Entry → SessionNo → ℕ
  credits history s = most_waiting history s - length (waiting history s)
