-- What frames do with presents: when they take them, what they tell of them, and which fences they signal.
use Rattle.std.specs.Prelude.{ℕ, ◌+◌, ◌-◌, ◌<◌, ◌≤◌, nat_lt, ◌≡◌, ◌≢◌, ◌⊎◌, Bool, true, false, cond, ◌==◌, Some}
use Rattle.std.specs.Prelude.{List, [], ◌∷◌, ◌++◌, drop, filter, length}
use Rattle.std.specs.List.{list_all, list_any, sum_by}
use Rattle.flat_base.specs.declared.ids.FenceNo.{FenceNo}
use Rattle.flat_base.specs.declared.ids.SessionNo.{SessionNo}
use Rattle.flat_scene.specs.declared.journal.Entry.{Entry}
use Rattle.flat_scene.specs.declared.journal.Event.{Event}
use Rattle.flat_scene.specs.declared.journal.Event.TheVariants as event
use Rattle.flat_scene.specs.declared.journal.EntryKind.{EntryKind}
use Rattle.flat_scene.specs.declared.journal.EntryKind.TheVariants.{Begin, Signal}
use Rattle.flat_scene.specs.declared.setup.Setup.{Setup}
use Rattle.flat_scene.specs.Draft.{of_serial}
use Rattle.flat_scene.specs.Frames.{credits, is_among, is_signalled, is_unsquashable, taken}
use Rattle.flat_scene.specs.History.{◌▹◌, is_closed, is_finish, presents, Published}
use Rattle.flat_rules.specs.Ends.{to_begin, to_finished}
use Rattle.flat_rules.specs.Legal.{Legal}
use Rattle.flat_rules.specs.Posts.{events_to}

-- ---- taking

-- An entry takes present n of a session: frames hadn't taken it before, and have after it.
pub record Takes (setup : Setup) (before : List Entry) (entry : Entry) (s : SessionNo) (n : ℕ) : Type 0 where
  pub before_it : taken setup before s < n
  pub after_it : n ≤ taken setup (before ▹ entry) s

-- Present n of a session was due at an entry: the entry begins a frame, the session is open, the present was accepted,
-- its time has come, and all its acquire fences were signalled before.
pub record WasDue (setup : Setup) (before : List Entry) (entry : Entry) (s : SessionNo) (n : ℕ) : Type 0 where
  pub time : ℕ
  pub begins : entry.kind ≡ Begin time
  pub opened : is_closed s before ≡ false
  pub present : Published
  pub accepted : of_serial (presents s before) n ≡ Some present
  pub in_time : present.args.time ≤ time
  pub signalled : list_all (is_signalled setup before) present.args.acquire ≡ true

-- Each present that a frame takes was due at the frame's begin.
abbrev pub TakenPresentsWereDue : Type 0
TakenPresentsWereDue = (setup : Setup) (before : List Entry) (entry : Entry) (s : SessionNo) (n : ℕ)
    → Takes setup before entry s n → WasDue setup before entry s n

-- No present is taken twice.
abbrev pub TakenOnce : Type 0
TakenOnce = (setup : Setup) (before later : List Entry) (entry other : Entry) (s : SessionNo) (n : ℕ)
    → Takes setup before entry s n → ¬ Takes setup (later ++ (before ▹ entry)) other s n

-- An unsquashable present is the last one that its frame takes of the session, so the frame shows it.
abbrev pub UnsquashableAreShown : Type 0
UnsquashableAreShown = (setup : Setup) (before : List Entry) (entry : Entry) (s : SessionNo) (n : ℕ)
    (present : Published) → Takes setup before entry s n → of_serial (presents s before) n ≡ Some present
    → is_unsquashable present ≡ true → taken setup (before ▹ entry) s ≡ n

-- A present that a frame takes before another one is never the last one taken, so no frame shows it.
abbrev pub SquashedAreNeverShown : Type 0
SquashedAreNeverShown = (setup : Setup) (before : List Entry) (entry : Entry) (s : SessionNo) (n : ℕ)
    → Takes setup before entry s n → n < taken setup (before ▹ entry) s
    → (history later : List Entry) → (before ≡ later ++ history) ⊎ (history ≡ later ++ (before ▹ entry))
    → taken setup history s ≢ n

-- ---- telling

-- the number in a FramePresented event, and that in a Credits event
abbrev pub presented_by : Event → ℕ
presented_by (event.FramePresented n) = n
presented_by _ = 0

abbrev pub credited_by : Event → ℕ
credited_by (event.Credits n) = n
credited_by _ = 0

-- whether an event is a FramePresented, and the one that tells of so many presents, if there are some
abbrev pub is_presented : Event → Bool
is_presented (event.FramePresented n) = true
is_presented _ = false

abbrev pub presented_event : ℕ → List Event
presented_event n = cond (nat_lt 0 n) (event.FramePresented n ∷ []) []

-- The end of a frame sends an open session one FramePresented event, with the number of its presents that the frame
-- took, if it took some. No other entry sends one.
abbrev pub PresentedOnce : Type 0
PresentedOnce = (setup : Setup) (before : List Entry) (entry : Entry) → Legal setup (before ▹ entry) → (s : SessionNo)
    → is_closed s (before ▹ entry) ≡ false
    → filter is_presented (events_to setup before entry s)
    ≡ cond (is_finish entry.kind)
    (presented_event (taken setup (to_begin before) s - taken setup (to_finished before) s)) []

-- such numbers, added up over all events posted to a session
abbrev pub added_up : Setup → (Event → ℕ) → SessionNo → List Entry → ℕ
added_up setup number s [] = 0
added_up setup number s (before ▹ entry) =
    added_up setup number s before + sum_by number (events_to setup before entry s)

-- While a session is open, its FramePresented events add up to its presents that finished frames took.
abbrev pub PresentedAddUp : Type 0
PresentedAddUp = (setup : Setup) (history : List Entry) → Legal setup history → (s : SessionNo)
    → is_closed s history ≡ false → added_up setup presented_by s history ≡ taken setup (to_finished history) s

-- While a session is open, its credits are one, and those that its Credits events gave, less the presents accepted.
abbrev pub CreditsAreTold : Type 0
CreditsAreTold = (setup : Setup) (history : List Entry) → Legal setup history → (s : SessionNo)
    → is_closed s history ≡ false
    → credits setup history s + length (presents s history) ≡ 1 + added_up setup credited_by s history

-- ---- signalling

-- When a frame is finished, the release fences of all presents that it took are signalled.
abbrev pub TakenPresentsRelease : Type 0
TakenPresentsRelease = (setup : Setup) (history : List Entry) → Legal setup history
    → (s : SessionNo) (n : ℕ) (present : Published) → of_serial (presents s history) n ≡ Some present
    → n ≤ taken setup (to_finished history) s
    → (fence : FenceNo) → is_among present.args.release fence ≡ true → is_signalled setup history fence ≡ true

-- When a frame is finished, so are the release fences of all presents of each session that was closed before its begin.
abbrev pub ClosedPresentsRelease : Type 0
ClosedPresentsRelease = (setup : Setup) (history : List Entry) → Legal setup history
    → (s : SessionNo) (n : ℕ) (present : Published) → of_serial (presents s history) n ≡ Some present
    → is_closed s (drop 1 (to_finished history)) ≡ true
    → (fence : FenceNo) → is_among present.args.release fence ≡ true → is_signalled setup history fence ≡ true

-- whether an entry is a Signal of a fence
abbrev pub is_signal_of : FenceNo → EntryKind → Bool
is_signal_of fence (Signal other) = other.0 == fence.0
is_signal_of fence _ = false

-- A present releases a fence, and a finished frame took it, or found its session closed.
pub record IsReleased (setup : Setup) (history : List Entry) (fence : FenceNo) : Type 0 where
  pub session : SessionNo
  pub number : ℕ
  pub present : Published
  pub accepted : of_serial (presents session history) number ≡ Some present
  pub releases : is_among present.args.release fence ≡ true
  pub when : (number ≤ taken setup (to_finished history) session) ⊎ (is_closed session (to_finished history) ≡ true)

-- A fence that no Signal names is signalled only once a finished frame took a present which releases it, or found the
-- session of such a present closed.
abbrev pub OnlyFramesRelease : Type 0
OnlyFramesRelease = (setup : Setup) (history : List Entry) (fence : FenceNo)
    → list_any (λ entry. is_signal_of fence entry.kind) history ≡ false
    → is_signalled setup history fence ≡ true → IsReleased setup history fence
