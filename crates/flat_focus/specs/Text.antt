-- What the focus text says, frame by frame and line by line.
use Rattle.std.specs.Prelude.{ℕ, List, [], ◌∷◌, ◌++◌, length, map, codes}
use Rattle.flat_base.specs.declared.ids.SessionNo.{SessionNo}
use Rattle.flat_scene.specs.declared.frames.FrameOut.{FrameOut}
use Rattle.flat_page.specs.Happenings.{Happening, finished, said, merged, all_lines}
use Rattle.flat_page.specs.Words.{number, session_name, text_of}
use Rattle.flat_places.specs.Forms.{Word}
use Rattle.flat_focus.specs.declared.focus.FocusAnswer.{FocusAnswer}
use Rattle.flat_focus.specs.declared.focus.FocusAnswer.TheVariants.{Granted, Denied}
use Rattle.flat_focus.specs.declared.text.FocusLine.{FocusLine}
use Rattle.flat_focus.specs.Chains.{answer_to}
use Rattle.flat_focus.specs.Events.{FocusEvent, frame, ask, nodes_after, chain_after}

-- the names of a chain's sessions, behind the word
abbrev pub chain_words : List Word → List SessionNo → List Word
chain_words names chain = codes "chain" ∷ map (session_name names) chain

-- the line of a frame, where this is the chain after it
abbrev pub frame_line : List Word → ℕ → List SessionNo → List Word
frame_line names n chain = codes "frame" ∷ number n ∷ chain_words names chain

abbrev pub answer_word : FocusAnswer → Word
answer_word Granted = codes "granted"
answer_word Denied = codes "denied"

-- the line of a session that asks, where this is the answer, and the chain after it
abbrev pub ask_line : List Word → FocusLine → FocusAnswer → List SessionNo → List Word
ask_line names line answer chain =
    codes "focus" ∷ number line.number ∷ session_name names line.by ∷ session_name names line.of ∷ answer_word answer
    ∷ chain_words names chain

-- the last line
abbrev pub end_line : ℕ → List Word
end_line requests = codes "focus" ∷ codes "ends" ∷ codes "requests" ∷ number requests ∷ []

-- ---- over the events

abbrev pub event_of : Happening FocusLine → FocusEvent
event_of (finished out) = frame out.tree.nodes
event_of (said line) = ask line.by line.of

-- what is written of one thing that happens, where these events were before, the newest first
abbrev pub lines_at : List Word → List FocusEvent → Happening FocusLine → List (List Word)
lines_at names before (finished out) = frame_line names out.frame.0 (chain_after (frame out.tree.nodes ∷ before)) ∷ []
lines_at names before (said line) =
    ask_line names line (answer_to (nodes_after before) line.by line.of) (chain_after (ask line.by line.of ∷ before))
    ∷ []

-- the text of finished frames, of the numbers of the lines that finished them, and of the lines that ask
abbrev pub focus_text : List Word → List ℕ → List FrameOut → List FocusLine → List ℕ
focus_text names dones frames lines =
    text_of (all_lines (lines_at names) (λ one before. event_of one ∷ before) []
    (merged (λ line. line.number) dones frames lines) ++ end_line (length lines) ∷ [])

-- ---- over what is kept
