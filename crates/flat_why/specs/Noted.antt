-- How what a run keeps for its causes stands for the history.
use Rattle.std.specs.Prelude.{◌≡◌, ℕ, ◌<◌, ◌+◌, ◌-◌, ◌&&◌, cond, nat_lt, nat_le, true, false, List, [], ◌∷◌, length}
use Rattle.std.specs.Prelude.{map, filter, slice_index_or, slice_set, Option, Some, None}
use Rattle.std.specs.List.{All}
use Rattle.flat_base.specs.declared.ids.PairNo.{PairNo}
use Rattle.flat_base.specs.declared.ids.SessionNo.{SessionNo}
use Rattle.flat_page.specs.Words.{text_of}
use Rattle.flat_places.specs.Forms.{Word}
use Rattle.flat_places.specs.declared.script.Script.{Script}
use Rattle.flat_rules.specs.Ends.{to_begin}
use Rattle.flat_rules.specs.Legal.{frames, is_frame_open}
use Rattle.flat_scene.specs.declared.frames.FrameOut.{FrameOut}
use Rattle.flat_scene.specs.declared.journal.Entry.{Entry}
use Rattle.flat_scene.specs.declared.journal.Reply.{Reply}
use Rattle.flat_scene.specs.declared.journal.Reply.TheVariants.{Presented}
use Rattle.flat_scene.specs.declared.setup.Setup.{Setup}
use Rattle.flat_scene.specs.Frames.{sessions_to}
use Rattle.flat_scene.specs.History.{◌▹◌}
use Rattle.flat_scene.specs.Setups.{at_ratio, is_declared}
use Rattle.flat_topology.specs.Place.{placed_nodes}
use Rattle.flat_topology.specs.Shown.{Shown, state_of}
use Rattle.flat_why.specs.declared.reasons.CloseReason.{CloseReason}
use Rattle.flat_why.specs.declared.reasons.MadePresent.{MadePresent}
use Rattle.flat_why.specs.declared.reasons.AttachPoint.{AttachPoint}
use Rattle.flat_why.specs.declared.reasons.AttachPoint.TheVariants.{OnDisplay}
use Rattle.flat_why.specs.declared.reason_tracker.ReasonTracker.{ReasonTracker}
use Rattle.flat_why.specs.Reasons.{closing_of, dues, is_waiting, last_use, standing_of, waits_at}
use Rattle.flat_why.specs.Blanks.{blank_of}
use Rattle.flat_why.specs.Hidden.{hidden_in, node_of}
use Rattle.flat_why.specs.Text.{line_by, why_lines}

-- ---- what is kept of a session, and of a pair

abbrev pub closings_in : List (Option CloseReason) → SessionNo → Option CloseReason
closings_in closings s = slice_index_or closings (s.0 - 1) None

abbrev pub uses_in : List (Option ℕ) → PairNo → Option ℕ
uses_in uses p = slice_index_or uses p.0 None

abbrev pub stands_in : List AttachPoint → SessionNo → AttachPoint
stands_in standings s = slice_index_or standings (s.0 - 1) OnDisplay

-- how many items a session has
abbrev pub counts_in : List ℕ → SessionNo → ℕ
counts_in counts s = slice_index_or counts (s.0 - 1) 0

-- one item more of a session, where it is one of those that are counted
abbrev pub with_item : SessionNo → List ℕ → List ℕ
with_item s counts =
    cond (nat_lt 0 s.0 && nat_le s.0 (length counts)) (slice_set counts (s.0 - 1) (counts_in counts s + 1)) counts

-- the line of a session of a frame, by the states and the ratio of which it is composed and by where all sessions hang
abbrev pub session_line : Script → ℕ → Shown → FrameOut → List AttachPoint → SessionNo → List Word
session_line script ratio shown frame standings s =
    line_by script frame s (hidden_in (length standings) (stands_in standings) frame.tree.nodes s)
    (blank_of (state_of shown s.0) s (placed_nodes (at_ratio ratio script.setup) shown)) (node_of s frame.tree.nodes)

-- ---- what an entry changes

abbrev pub with_closing : SessionNo → Option CloseReason → List (Option CloseReason) → List (Option CloseReason)
with_closing s None closings = closings
with_closing s (Some closing) closings = slice_set closings (s.0 - 1) (Some closing)

abbrev pub with_use : Option PairNo → ℕ → List (Option ℕ) → List (Option ℕ)
with_use None made uses = uses
with_use (Some p) made uses = slice_set uses p.0 (Some made)

-- the number of the present that a reply answers
abbrev pub number_in : Reply → Option ℕ
number_in (Presented number credits) = Some number
number_in _ = None

-- the newest entry of a history, if it has one
abbrev pub newest : List Entry → Option Entry
newest [] = None
newest (before ▹ entry) = Some entry

abbrev pub as_list : Option MadePresent → List MadePresent
as_list None = []
as_list (Some due) = due ∷ []

-- ---- what stands for the history

-- A present is one of a declared session, and waits for declared fences.
pub record IsKnown (setup : Setup) (due : MadePresent) : Type 0 where
  pub session : is_declared setup due.session ≡ true
  pub acquire : All (λ f. f.0 < length setup.fences) due.acquire

-- The lines of all frames that are finished are written.
pub record WhysTell (script : Script) (history : List Entry) (whys : ReasonTracker) : Type 0 where
  pub frames : whys.frames ≡ frames history
  pub text : whys.page ≡ text_of (why_lines script history)

-- What is kept is what the rules say of the history: how sessions were closed, the last uses of viewport
-- ends, and the presents that may still wait; and of the frame begun last, while it is open, where sessions
-- hang and what waits.
pub record WhysStand (script : Script) (history : List Entry) (whys : ReasonTracker) : Type 0 where
  pub sessions : length whys.closings.items ≡ script.setup.sessions
  pub pairs : length whys.last_uses.items ≡ length script.setup.pairs
  pub count : length whys.standings.items ≡ script.setup.sessions
  pub closed : (s : SessionNo) → is_declared script.setup s ≡ true
      → closings_in whys.closings.items s ≡ closing_of s history
  pub used : (p : PairNo) → p.0 < length script.setup.pairs → uses_in whys.last_uses.items p ≡ last_use p history
  pub dues : whys.dues.items ≡ filter (is_waiting script.setup (to_begin history)) (dues history)
  pub known : All (IsKnown script.setup) whys.dues.items
  pub standings : is_frame_open history ≡ true
      → whys.standings.items ≡ map (standing_of script.setup (to_begin history)) (sessions_to script.setup.sessions)
  pub waits : is_frame_open history ≡ true → whys.waits.items ≡ waits_at script.setup (to_begin history)
  pub tells : WhysTell script history whys
