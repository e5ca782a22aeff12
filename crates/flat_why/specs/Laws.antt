-- What the causes say of a frame.
use Rattle.std.specs.Prelude.{◌≡◌, ⊤, ◌↔◌, ◌<◌, ◌≤◌, ◌^◌, ◌==◌, ◌&&◌, not, ℕ, Bool, true, IsTrue, List, length, filter}
use Rattle.std.specs.Prelude.{nat_lt, slice_get, Option, Some, is_some}
use Rattle.std.specs.List.{list_any}
use Rattle.flat_base.specs.declared.ids.PairNo.{PairNo}
use Rattle.flat_base.specs.declared.ids.SessionNo.{SessionNo}
use Rattle.flat_page.specs.Words.{number}
use Rattle.flat_places.specs.Forms.{Word}
use Rattle.flat_places.specs.declared.script.Script.{Script}
use Rattle.flat_report.specs.Report.{frame_at}
use Rattle.flat_rules.specs.Ends.{to_begin}
use Rattle.flat_rules.specs.Legal.{Legal}
use Rattle.flat_scene.specs.declared.frames.FrameOut.{FrameOut}
use Rattle.flat_scene.specs.declared.frames.ViewNode.{ViewNode}
use Rattle.flat_scene.specs.declared.journal.Entry.{Entry}
use Rattle.flat_scene.specs.declared.setup.Setup.{Setup}
use Rattle.flat_scene.specs.Frames.{taken}
use Rattle.flat_scene.specs.History.{is_closed, presents}
use Rattle.flat_scene.specs.Heads.{has_one_display_pair}
use Rattle.flat_topology.specs.Fit.{FitsSetup}
use Rattle.flat_topology.specs.Join.{is_joined}
use Rattle.flat_topology.specs.Shown.{Shown}
use Rattle.flat_why.specs.declared.reasons.BlankReason.{BlankReason}
use Rattle.flat_why.specs.declared.reasons.DetachedReason.{DetachedReason}
use Rattle.flat_why.specs.declared.reasons.HiddenReason.{HiddenReason}
use Rattle.flat_why.specs.declared.reasons.AttachPoint.{AttachPoint}
use Rattle.flat_why.specs.declared.reasons.AttachPoint.TheVariants.{OnDisplay, Below, Nowhere}
use Rattle.flat_why.specs.declared.reasons.PendingPresent.{PendingPresent}
use Rattle.flat_why.specs.Reasons.{standing_in, waits_at}
use Rattle.flat_why.specs.Hidden.{hidden_of, node_of}
use Rattle.flat_why.specs.Text.{line_by}

-- a session that stands so is on the display: it hangs there, or below one that is
abbrev pub IsOn : Setup → Shown → AttachPoint → Type 0
IsOn setup shown OnDisplay = ⊤
IsOn setup shown (Below parent) = IsTrue (is_joined setup shown parent.0)
IsOn setup shown (Nowhere cause) = ⊥

-- A session is in the view tree if and only if it hangs on the display, or below a session that is in it.
abbrev pub StandingsDecide : Type 0
StandingsDecide = (setup : Setup) (shown : Shown) (taken : SessionNo → ℕ) (last_use : PairNo → Option ℕ)
    (nothing : DetachedReason) → FitsSetup setup shown → has_one_display_pair setup ≡ true
    → (s : SessionNo) → IsTrue (is_joined setup shown s.0)
    ↔ IsOn setup shown (standing_in setup shown taken last_use nothing s)

-- A session has a cause if and only if it is no node of the frame's view tree.
abbrev pub HiddenHaveCauses : Type 0
HiddenHaveCauses = (setup : Setup) (history : List Entry) → Legal setup history → has_one_display_pair setup ≡ true
    → (n : ℕ) (s : SessionNo)
    → is_some (hidden_of setup (to_begin history) (frame_at setup n (to_begin history)).tree.nodes s)
    ≡ not (is_some (node_of s (frame_at setup n (to_begin history)).tree.nodes))

-- the line of a session that is shown says that it draws so many items
abbrev pub SaysItems : List Word → ℕ → Type 0
SaysItems line items = slice_get line 7 ≡ Some (number items)

-- A session is said to draw so many items if and only if so many of the frame's items are its own.
abbrev pub OwnItemsAreSaid : Type 0
OwnItemsAreSaid = (script : Script) (frame : FrameOut) → length frame.items < 2 ^ 64
    → (s : SessionNo) (hidden : Option HiddenReason) (blank : BlankReason) (node : ViewNode) (items : ℕ)
    → items < 2 ^ 64
    → SaysItems (line_by script frame s hidden blank (Some node)) items
    ↔ (length (filter (λ item. item.session.0 == s.0) frame.items) ≡ items)

-- whether a session's present of a number is said to wait
abbrev pub is_said_to_wait : List PendingPresent → SessionNo → ℕ → Bool
is_said_to_wait waits s k = list_any (λ waiting. waiting.session.0 == s.0 && waiting.number == k) waits

-- A present is said to wait if and only if its session is open and no frame took it.
abbrev pub UntakenPresentsWait : Type 0
UntakenPresentsWait =
    (setup : Setup) (history : List Entry) → Legal setup history → (s : SessionNo) (k : ℕ) → 0 < k
    → k ≤ length (presents s (to_begin history))
    → is_said_to_wait (waits_at setup (to_begin history)) s k
    ≡ (not (is_closed s (to_begin history)) && nat_lt (taken setup (to_begin history) s) k)
