-- Why a session is not on the display: the first of these causes that holds at the begin of a frame, with
-- which the history ends.
use Rattle.std.specs.Prelude.{ℕ, suc, Bool, true, false, cond, not, ◌&&◌, ◌==◌, nat_lt, List, [], ◌∷◌, ◌++◌, length}
use Rattle.std.specs.Prelude.{map, filter, find, Option, Some, None}
use Rattle.std.specs.List.{list_any}
use Rattle.flat_base.specs.declared.ids.Actor.{Actor}
use Rattle.flat_base.specs.declared.ids.Actor.TheVariants.{Display, Session}
use Rattle.flat_base.specs.declared.ids.FenceNo.{FenceNo}
use Rattle.flat_base.specs.declared.ids.PairNo.{PairNo}
use Rattle.flat_base.specs.declared.ids.SessionNo.{SessionNo}
use Rattle.flat_scene.specs.declared.journal.Entry.{Entry}
use Rattle.flat_scene.specs.declared.journal.EntryKind.{EntryKind}
use Rattle.flat_scene.specs.declared.journal.EntryKind.TheVariants as kind
use Rattle.flat_scene.specs.declared.journal.Reply.{Reply}
use Rattle.flat_scene.specs.declared.journal.Reply.TheVariants as reply
use Rattle.flat_scene.specs.declared.setup.Setup.{Setup}
use Rattle.flat_scene.specs.declared.trees.Tree.{Tree}
use Rattle.flat_scene.specs.Frames.{is_signalled, taken}
use Rattle.flat_scene.specs.History.{◌▹◌, is_closed, is_session, presents}
use Rattle.flat_topology.specs.Shown.{is_shown_by, Shown, state_of}
use Rattle.flat_rules.specs.Ends.{viewport_owner}
use Rattle.flat_rules.specs.Legal.{begin_time}
use Rattle.flat_rules.specs.Shown.{is_pair, shown_states}
use Rattle.std.specs.Option.{option_or}
use Rattle.flat_why.specs.declared.reasons.CloseReason.{CloseReason}
use Rattle.flat_why.specs.declared.reasons.MadePresent.{MadePresent}
use Rattle.flat_why.specs.declared.reasons.HoldReason.{HoldReason}
use Rattle.flat_why.specs.declared.reasons.HoldReason.TheVariants.{Time, Fence, Behind, Unsquashable}
use Rattle.flat_why.specs.declared.reasons.PendingPresent.{PendingPresent}
use Rattle.flat_why.specs.declared.reasons.UnplacedReason.{UnplacedReason}
use Rattle.flat_why.specs.declared.reasons.UnplacedReason.TheVariants.{Unmade, Unshown, Ended, Loose}
use Rattle.flat_why.specs.declared.reasons.DetachedReason.{DetachedReason}
use Rattle.flat_why.specs.declared.reasons.DetachedReason.TheVariants.{Closed, Unpresented, Held, Viewless, Parted}
use Rattle.flat_why.specs.declared.reasons.AttachPoint.{AttachPoint}
use Rattle.flat_why.specs.declared.reasons.AttachPoint.TheVariants.{OnDisplay, Below, Nowhere}

-- ---- what entries tell

-- how a reply to a line closes its session, if it does
abbrev pub closing_by : ℕ → Reply → Option CloseReason
closing_by line (reply.Closed error reason) = Some (record { line = line; error = error; reason = reason })
closing_by line _ = None

-- how a session was closed, if it was
abbrev pub closing_of : SessionNo → List Entry → Option CloseReason
closing_of s [] = None
closing_of s (before ▹ entry) =
    option_or (cond (is_session s entry.actor) (closing_by entry.line entry.reply) None) (closing_of s before)

-- the present that an entry makes
abbrev pub dues_by : Actor → EntryKind → Reply → List MadePresent
dues_by (Session s) (kind.Present args) (reply.Presented number credits) =
    record { session = s; number = number; time = args.time; acquire = args.acquire } ∷ []
dues_by _ _ _ = []

-- all presents, in the order in which they were made
abbrev pub dues : List Entry → List MadePresent
dues [] = []
dues (before ▹ entry) = dues before ++ dues_by entry.actor entry.kind entry.reply

-- how many presents an actor has made
abbrev pub made_by : Actor → List Entry → ℕ
made_by (Session s) history = length (presents s history)
made_by _ history = 0

-- the pair whose viewport end an entry uses
abbrev pub used_by : EntryKind → Reply → Option PairNo
used_by (kind.Viewport p props) reply.Done = Some p
used_by _ _ = None

-- how many presents its owner had made when the viewport end of a pair was used last, if it was
abbrev pub last_use : PairNo → List Entry → Option ℕ
last_use p [] = None
last_use p (before ▹ entry) =
    cond (is_pair (used_by entry.kind entry.reply) p) (Some (made_by entry.actor (before ▹ entry))) (last_use p before)

-- ---- presents that wait

-- what holds a present back whose time has come: a fence, if one isn't signalled; else those before it.
-- Before the first that waits there is only an unsquashable one that was taken.
abbrev pub held_by : Option FenceNo → Bool → HoldReason
held_by (Some f) first = Fence f
held_by None true = Unsquashable
held_by None false = Behind

-- what holds a present back: its time, or else its fences in their order, or else those before it
abbrev pub hold_of : ℕ → (FenceNo → Bool) → Bool → MadePresent → HoldReason
hold_of now is_signalled first due =
    cond (nat_lt now due.time) (Time due.time) (held_by (find (λ f. not (is_signalled f)) due.acquire) first)

module _ (setup : Setup) where
  -- whether a present waits: no frame has taken it, and its session is open
  abbrev pub is_waiting : List Entry → MadePresent → Bool
  is_waiting begun due = not (is_closed due.session begun) && nat_lt (taken setup begun due.session) due.number

  abbrev pub waiting_of : List Entry → MadePresent → PendingPresent
  waiting_of begun due = record {
    session = due.session;
    number = due.number;
    hold = hold_of (begin_time begun) (is_signalled setup begun)
        (due.number == suc (taken setup begun due.session)) due;
  }

  -- the presents that a begin left waiting, in the order in which they were made
  abbrev pub waits_at : List Entry → List PendingPresent
  waits_at begun = map (waiting_of begun) (filter (is_waiting begun) (dues begun))

-- the first of a session's presents that wait
abbrev pub first_of : SessionNo → List PendingPresent → Option PendingPresent
first_of s waits = find (λ waiting. waiting.session.0 == s.0) waits

-- ---- where a session hangs

-- why nothing is shown of a session
abbrev pub nothing_by : Option CloseReason → Option PendingPresent → DetachedReason
nothing_by (Some closing) first = Closed closing
nothing_by None (Some waiting) = Held waiting.hold
nothing_by None None = Unpresented

-- whether a state has a viewport of a pair, on a node or not
abbrev pub has_viewport : PairNo → Tree → Bool
has_viewport p tree = list_any (λ one. one.pair.0 == p.0) tree.viewports

-- why a viewport is on no node of what its owner shows: by what is shown, by how many of the owner's presents
-- were taken, and by how many it had made when the viewport was
abbrev pub parting_of : PairNo → Option Tree → ℕ → Option ℕ → UnplacedReason
parting_of p state taken None = Unmade
parting_of p None taken (Some made) = Unshown
parting_of p (Some tree) taken (Some made) = cond (has_viewport p tree) Loose (cond (nat_lt made taken) Ended Unshown)

-- What is shown of all sessions is known, how many presents of each were taken, and how many its owner had
-- made at the last use of each viewport end.
module _ (setup : Setup) (shown : Shown) (taken : SessionNo → ℕ) (last_use : PairNo → Option ℕ) where
  -- a view hangs where the viewport of its pair is
  abbrev pub hanging_by : PairNo → Option Actor → AttachPoint
  hanging_by p (Some Display) = OnDisplay
  hanging_by p (Some (Session q)) =
      cond (is_shown_by shown p.0 q.0) (Below q)
      (Nowhere (Parted q p (parting_of p (state_of shown q.0) (taken q) (last_use p))))
  hanging_by p _ = Nowhere Viewless

  abbrev pub viewed_by : Option PairNo → AttachPoint
  viewed_by None = Nowhere Viewless
  viewed_by (Some p) = hanging_by p (viewport_owner setup p)

  -- a session hangs where its view does; where nothing is shown of it, it is known why
  abbrev pub standing_by : DetachedReason → Option Tree → AttachPoint
  standing_by nothing None = Nowhere nothing
  standing_by nothing (Some tree) = viewed_by tree.view

  abbrev pub standing_in : DetachedReason → SessionNo → AttachPoint
  standing_in nothing s = standing_by nothing (state_of shown s.0)

module _ (setup : Setup) (begun : List Entry) where
  -- why nothing is shown of a session: it is closed, or its first present waits, or it has made none
  abbrev pub nothing_of : SessionNo → DetachedReason
  nothing_of s = nothing_by (closing_of s begun) (first_of s (waits_at setup begun))

  -- where a session hangs in a frame, or why it hangs nowhere
  abbrev pub standing_of : SessionNo → AttachPoint
  standing_of s = standing_in setup (shown_states setup begun) (taken setup begun) (λ p. last_use p begun)
      (nothing_of s) s
