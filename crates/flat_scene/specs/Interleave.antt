-- Which histories are a reading of a script's lines.
use Rattle.std.specs.Prelude.{flat_map, unwrap_or, ℕ, ◌+◌, ◌≡◌, Bool, true, false, cond, not, ◌&&◌, nat_lt, List, []}
use Rattle.std.specs.Prelude.{◌∷◌, ◌++◌, length, reverse, map, filter, Option, Some, None, is_none, IsTrue}
use Rattle.std.specs.List.{AllByRecursion, list_any}
use Rattle.std.specs.Result.{result_ok}
use Rattle.std.specs.List.Sorted.{IsStrictlyIncreasing}
use Rattle.flat_base.specs.declared.ids.Actor.TheVariants.{Session}
use Rattle.flat_base.specs.declared.errors.Reason.{Reason}
use Rattle.flat_base.specs.declared.errors.Reason.TheVariants.{NoView}
use Rattle.flat_base.specs.declared.ids.SessionNo.{SessionNo}
use Rattle.flat_scene.specs.declared.calls.Call.{Call}
use Rattle.flat_scene.specs.declared.calls.Call.TheVariants.{CreateView, CreateViewport}
use Rattle.flat_scene.specs.declared.calls.Watch.{Watch}
use Rattle.flat_scene.specs.declared.calls.Watch.TheVariants as watch
use Rattle.flat_scene.specs.declared.journal.Entry.{Entry}
use Rattle.flat_scene.specs.declared.journal.EntryKind.{EntryKind}
use Rattle.flat_scene.specs.declared.journal.EntryKind.TheVariants.{View, Viewport, Present, Get, Signal, Poll, Wait}
use Rattle.flat_scene.specs.declared.journal.EntryKind.TheVariants.{Close}
use Rattle.flat_scene.specs.declared.journal.EntryKind.TheVariants.{End, Begin, Finish, Hit, Dpr}
use Rattle.flat_scene.specs.declared.script.LineBody.{LineBody}
use Rattle.flat_scene.specs.declared.script.LineBody.TheVariants as body
use Rattle.flat_scene.specs.declared.script.DisplayLine.{DisplayLine}
use Rattle.flat_scene.specs.declared.script.DisplayLine.TheVariants as display
use Rattle.flat_scene.specs.declared.script.SessionLine.{SessionLine}
use Rattle.flat_scene.specs.declared.script.SessionLine.TheVariants as line
use Rattle.flat_scene.specs.declared.script.ScriptLine.{ScriptLine}
use Rattle.flat_scene.specs.declared.setup.Setup.{Setup}
use Rattle.flat_scene.specs.Draft.{Draft, empty_draft}
use Rattle.flat_scene.specs.Effect.{effect, draft_of}
use Rattle.flat_scene.specs.Frames.{sessions_to}
use Rattle.flat_scene.specs.History.{◌▹◌, is_session, is_display, is_end, own, closes, carried}
use Rattle.flat_scene.specs.Misuse.{first_reason, misuse, names_content, is_viewport, Test}
use Rattle.flat_scene.specs.Tree.{present_tests}

-- the reason by which a get is refused
abbrev pub get_tests : Draft → Watch → List Test
get_tests draft (watch.Child c) = names_content draft is_viewport c
get_tests draft _ = (is_none draft.view, NoView) ∷ []

-- a close by the reason, where there is one
abbrev pub or_close : Option Reason → Option EntryKind → Option EntryKind
or_close (Some reason) kind = Some (Close (Some reason))
or_close None kind = kind

-- a call by itself makes an entry only where it uses an end
abbrev pub entry_of_call : Call → Option EntryKind
entry_of_call (CreateView pair) = Some (View pair)
entry_of_call (CreateViewport c pair w h inset) = Some (Viewport pair (record { w = w; h = h; inset = inset }))
entry_of_call _ = None

-- the entry that a session's line makes, by the draft before it
abbrev pub entry_of_line : Setup → Draft → SessionLine → Option EntryKind
entry_of_line setup draft (line.Call call) = or_close (misuse setup draft call) (entry_of_call call)
entry_of_line setup draft (line.Present args) = or_close (first_reason (present_tests draft args)) (Some (Present args))
entry_of_line setup draft (line.Get get) = or_close (first_reason (get_tests draft get)) (Some (Get get))
entry_of_line setup draft (line.Signal f) = Some (Signal f)
entry_of_line setup draft line.Poll = Some Poll
entry_of_line setup draft (line.Wait c) = Some (Wait c)
entry_of_line setup draft line.Disconnect = Some (Close None)

-- the call that a line is
abbrev pub calls_of_line : SessionLine → List Call
calls_of_line (line.Call call) = call ∷ []
calls_of_line _ = []

-- What the next entry of an actor is: all of it but its reply.
pub record Next : Type 0 where
  pub line : ℕ
  pub carries : List Call
  pub kind : EntryKind

-- an entry is that
pub record IsNext (next : Next) (entry : Entry) : Type 0 where
  pub line : entry.line ≡ next.line
  pub carried : entry.calls ≡ next.carries
  pub kind : entry.kind ≡ next.kind

-- the draft after a line that makes no entry
abbrev pub after_line : Draft → SessionLine → Draft
after_line draft (line.Call call) = effect draft call
after_line draft _ = draft

-- the entry that a line of the display makes
abbrev pub entry_of_display : DisplayLine → EntryKind
entry_of_display (display.Begin time) = Begin time
entry_of_display display.Done = Finish
entry_of_display (display.Signal f) = Signal f
entry_of_display (display.Wait c) = Wait c
entry_of_display (display.Hit x y) = Hit x y
entry_of_display (display.Dpr ratio) = Dpr ratio

-- the line of the last of some entries
abbrev pub last_line : List Entry → ℕ
last_line [] = 0
last_line (before ▹ entry) = entry.line

-- the lines after those that some entries have read
abbrev pub unread_lines : {A : Type 0} → List Entry → List (ℕ × A) → List (ℕ × A)
unread_lines entries = filter (λ numbered. nat_lt (last_line entries) numbered.0)

-- a line of a session, or of the display, with its number
abbrev pub session_line : Bool → ℕ → LineBody → List (ℕ × SessionLine)
session_line true number (body.Session text) = (number, text) ∷ []
session_line _ number _ = []

abbrev pub display_line : ℕ → LineBody → List (ℕ × DisplayLine)
display_line number (body.Display text) = (number, text) ∷ []
display_line number _ = []

-- all lines of a session, and of the display
abbrev pub session_lines : SessionNo → List ScriptLine → List (ℕ × SessionLine)
session_lines s = flat_map (λ next. session_line (is_session s next.actor) next.number next.body)

abbrev pub display_lines : List ScriptLine → List (ℕ × DisplayLine)
display_lines = flat_map (λ next. display_line next.number next.body)

-- the entry of a line where it makes one, and else what comes later
abbrev pub next_or : Option EntryKind → ℕ → List Call → Next → Next
next_or (Some kind) number carries later = record { line = number; carries = carries; kind = kind }
next_or None number carries later = later

module _ (setup : Setup) (count : ℕ) where
  -- the entry of the first line that makes one, or the End; the draft has the calls of the lines before
  abbrev pub next_from : Draft → List Call → List (ℕ × SessionLine) → Next
  next_from draft pending [] = record { line = count + 1; carries = pending; kind = End 0 }
  next_from draft pending ((number, text) ∷ lines) =
      next_or (entry_of_line setup draft text) number (pending ++ calls_of_line text)
      (next_from (after_line draft text) (pending ++ calls_of_line text) lines)

  -- what comes after some entries of a session: where one of them closed it, the End with the number of the lines left
  abbrev pub next_of : List Entry → List (ℕ × SessionLine) → Next
  next_of entries lines =
      cond (list_any (λ entry. closes entry.reply) entries)
      (record { line = count + 1; carries = []; kind = End (length (unread_lines entries lines)) })
      (next_from (unwrap_or (result_ok (draft_of setup (carried entries))) empty_draft) [] (unread_lines entries lines))

  -- a session's entries, the newest first, are the reading of its lines so far
  abbrev pub Follows : List (ℕ × SessionLine) → List Entry → Type 0
  Follows lines [] = Unit {0}
  Follows lines (before ▹ entry) = Follows lines before × IsNext (next_of before lines) entry

-- the first of some lines of the display makes the entry
abbrev pub IsFirstLine : List (ℕ × DisplayLine) → Entry → Type 0
IsFirstLine [] entry = ⊥
IsFirstLine ((number, text) ∷ later) entry =
    IsNext (record { line = number; carries = []; kind = entry_of_display text }) entry

-- the display's entries, the newest first, are the reading of its lines so far: each line makes one entry
abbrev pub FollowsDisplay : List (ℕ × DisplayLine) → List Entry → Type 0
FollowsDisplay lines [] = Unit {0}
FollowsDisplay lines (before ▹ entry) = FollowsDisplay lines before × IsFirstLine (unread_lines before lines) entry

-- whether the newest of some entries is an End, and no other one is
abbrev pub is_ended_once : List Entry → Bool
is_ended_once [] = false
is_ended_once (before ▹ entry) = is_end entry.kind && not (list_any (λ earlier. is_end earlier.kind) before)

-- A session's entries are the reading of all its lines: the last one, and no other, is its End.
pub record IsReading (setup : Setup) (count : ℕ) (lines : List (ℕ × SessionLine)) (entries : List Entry) : Type 0 where
  pub follows : Follows setup count lines entries
  pub ended : IsTrue (is_ended_once entries)

-- the entries of the display
abbrev pub by_display : List Entry → List Entry
by_display history = filter (λ entry. is_display entry.actor) history

-- A history interleaves the lines of a script of that many lines.
pub record Interleaves (setup : Setup) (count : ℕ) (lines : List ScriptLine) (history : List Entry) : Type 0 where
  pub sessions : AllByRecursion (λ s. IsReading setup count (session_lines s lines) (own s history))
      (sessions_to setup.sessions)
  pub display : FollowsDisplay (display_lines lines) (by_display history)
  pub all_read : unread_lines (by_display history) (display_lines lines) ≡ []

-- The lines of the entries rise, and the End entries stand last, in order of the sessions.
pub record IsWritten (setup : Setup) (history : List Entry) : Type 0 where
  pub rising : List Entry
  pub ends : List Entry
  pub parts : reverse history ≡ rising ++ ends
  pub rise : IsStrictlyIncreasing (map (λ entry. entry.line) rising)
  pub no_end : AllByRecursion (λ entry. is_end entry.kind ≡ false) rising
  pub in_order : map (λ entry. entry.actor) ends ≡ map Session (sessions_to setup.sessions)
