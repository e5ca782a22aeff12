-- The text that says of each finished frame and each session whether it is shown, or why it isn't.
use Rattle.std.specs.Prelude.{ℕ, zero, suc, cond, ◌==◌, List, [], ◌∷◌, ◌++◌, map, count_by, Option, Some, None, codes}
use Rattle.flat_base.specs.declared.ids.FenceNo.{FenceNo}
use Rattle.flat_base.specs.declared.ids.SessionNo.{SessionNo}
use Rattle.flat_lines.specs.EntryLines.{closing_words}
use Rattle.flat_lines.specs.FrameLines.{rect_words}
use Rattle.flat_lines.specs.Names.{pair_name}
use Rattle.flat_page.specs.Words.{name_at, number, session_name, text_of}
use Rattle.flat_places.specs.Forms.{Word}
use Rattle.flat_places.specs.declared.script.Script.{Script}
use Rattle.flat_report.specs.Report.{frame_at}
use Rattle.flat_rules.specs.Ends.{to_begin}
use Rattle.flat_rules.specs.Legal.{frames}
use Rattle.flat_rules.specs.Shown.{shown_states}
use Rattle.flat_scene.specs.declared.frames.FrameOut.{FrameOut}
use Rattle.flat_scene.specs.declared.frames.ViewNode.{ViewNode}
use Rattle.flat_scene.specs.declared.journal.Entry.{Entry}
use Rattle.flat_scene.specs.Frames.{sessions_to, setup_at}
use Rattle.flat_scene.specs.History.{◌▹◌, is_finish}
use Rattle.flat_topology.specs.Place.{placed_nodes}
use Rattle.flat_topology.specs.Shown.{state_of}
use Rattle.flat_why.specs.declared.reasons.BlankReason.{BlankReason}
use Rattle.flat_why.specs.declared.reasons.BlankReason.TheVariants.{Rootless, Contentless, Transparent, Sizeless}
use Rattle.flat_why.specs.declared.reasons.BlankReason.TheVariants.{Clipped}
use Rattle.flat_why.specs.declared.reasons.DetachedReason.{DetachedReason}
use Rattle.flat_why.specs.declared.reasons.DetachedReason.TheVariants.{Closed, Unpresented, Held, Viewless, Parted}
use Rattle.flat_why.specs.declared.reasons.HoldReason.{HoldReason}
use Rattle.flat_why.specs.declared.reasons.HoldReason.TheVariants.{Time, Fence, Behind, Unsquashable}
use Rattle.flat_why.specs.declared.reasons.UnplacedReason.{UnplacedReason}
use Rattle.flat_why.specs.declared.reasons.UnplacedReason.TheVariants.{Unmade, Unshown, Ended, Loose}
use Rattle.flat_why.specs.declared.reasons.DisplayedSession.{DisplayedSession}
use Rattle.flat_why.specs.declared.reasons.HiddenReason.{HiddenReason}
use Rattle.flat_why.specs.declared.reasons.HiddenReason.TheVariants.{Unhung, Parent, Cycle}
use Rattle.flat_why.specs.declared.reasons.PendingPresent.{PendingPresent}
use Rattle.flat_why.specs.Blanks.{blank_of}
use Rattle.flat_why.specs.Reasons.{waits_at}
use Rattle.flat_why.specs.Hidden.{hidden_of, node_of}

-- ---- words

abbrev pub fence_name : Script → FenceNo → Word
fence_name script f = name_at script.fences f.0

abbrev pub hold_words : Script → HoldReason → List Word
hold_words script (Time time) = codes "time" ∷ number time ∷ []
hold_words script (Fence f) = codes "fence" ∷ fence_name script f ∷ []
hold_words script Behind = codes "behind" ∷ []
hold_words script Unsquashable = codes "unsquashable" ∷ []

abbrev pub parting_word : UnplacedReason → Word
parting_word Unmade = codes "unmade"
parting_word Unshown = codes "unshown"
parting_word Ended = codes "ended"
parting_word Loose = codes "loose"

abbrev pub cause_words : Script → DetachedReason → List Word
cause_words script (Closed closing) = codes "closed" ∷ number closing.line ∷ closing_words closing.error closing.reason
cause_words script Unpresented = codes "unpresented" ∷ []
cause_words script (Held hold) = codes "waits" ∷ hold_words script hold
cause_words script Viewless = codes "viewless" ∷ []
cause_words script (Parted parent pair why) =
    codes "viewport" ∷ pair_name script pair ∷ session_name script.sessions parent ∷ parting_word why ∷ []

abbrev pub hidden_words : Script → Option HiddenReason → List Word
hidden_words script (Some (Unhung cause)) = cause_words script cause
hidden_words script (Some (Parent parent)) = codes "parent" ∷ session_name script.sessions parent ∷ []
hidden_words script (Some Cycle) = codes "cycle" ∷ []
hidden_words script None = []

abbrev pub blank_word : BlankReason → Word
blank_word Rootless = codes "rootless"
blank_word Contentless = codes "contentless"
blank_word Transparent = codes "transparent"
blank_word Sizeless = codes "sizeless"
blank_word Clipped = codes "clipped"

-- how many items are drawn; where there is none, also why
abbrev pub drawn_words : ℕ → BlankReason → List Word
drawn_words zero blank = number 0 ∷ blank_word blank ∷ []
drawn_words (suc n) blank = number (suc n) ∷ []

-- ---- lines

-- a session that is shown in the frame of a number: its view's rectangle, and how many items are its own
abbrev pub shown_line : Script → ℕ → SessionNo → DisplayedSession → List Word
shown_line script n s drawn =
    codes "shown" ∷ number n ∷ session_name script.sessions s ∷ rect_words drawn.bounds
    ++ drawn_words drawn.items drawn.blank

-- a session that isn't, and why
abbrev pub hidden_line : Script → ℕ → SessionNo → Option HiddenReason → List Word
hidden_line script n s hidden = codes "hidden" ∷ number n ∷ session_name script.sessions s ∷ hidden_words script hidden

-- a present that the frame left waiting
abbrev pub wait_line : Script → ℕ → PendingPresent → List Word
wait_line script n waiting =
    codes "waits" ∷ number n ∷ session_name script.sessions waiting.session ∷ number waiting.number
    ∷ hold_words script waiting.hold

-- how many of a frame's items are a session's own
abbrev pub own_items : SessionNo → FrameOut → ℕ
own_items s frame = count_by (λ item. item.session.0 == s.0) frame.items

-- the line of a session: by its node in the view tree, if it is one
abbrev pub line_by : Script → FrameOut → SessionNo → Option HiddenReason → BlankReason → Option ViewNode → List Word
line_by script frame s hidden blank (Some node) =
    shown_line script frame.frame.0 s (record { bounds = node.bounds; items = own_items s frame; blank = blank })
line_by script frame s hidden blank None = hidden_line script frame.frame.0 s hidden

-- The lines of a frame: of each session, and then of each present that it left waiting. It is known why each
-- session is hidden, if it is, and why it draws nothing, if it does.
abbrev pub frame_whys : Script → FrameOut → (SessionNo → Option HiddenReason) → (SessionNo → BlankReason)
    → List PendingPresent
    → List (List Word)
frame_whys script frame hidden blank waits =
    map (λ s. line_by script frame s (hidden s) (blank s) (node_of s frame.tree.nodes))
    (sessions_to script.setup.sessions)
    ++ map (wait_line script frame.frame.0) waits

-- why a session draws nothing in the frame of a begin, if it does
abbrev pub blank_at : Script → List Entry → SessionNo → BlankReason
blank_at script begun s =
    blank_of (state_of (shown_states script.setup begun) s.0) s
    (placed_nodes (setup_at script.setup begun) (shown_states script.setup begun))

-- the lines of the frame of a number, with whose begin the history ends
abbrev pub whys_at : Script → ℕ → List Entry → List (List Word)
whys_at script n begun =
    frame_whys script (frame_at script.setup n begun)
    (hidden_of script.setup begun (frame_at script.setup n begun).tree.nodes) (blank_at script begun)
    (waits_at script.setup begun)

-- ---- the whole

-- the lines of all finished frames
abbrev pub why_lines : Script → List Entry → List (List Word)
why_lines script [] = []
why_lines script (before ▹ entry) =
    why_lines script before ++ cond (is_finish entry.kind) (whys_at script (suc (frames before)) (to_begin before)) []

-- the last line
abbrev pub end_line : ℕ → List Word
end_line n = codes "why" ∷ codes "ends" ∷ codes "frames" ∷ number n ∷ []

abbrev pub why_text : Script → List Entry → List ℕ
why_text script history = text_of (why_lines script history ++ end_line (frames history) ∷ [])
