-- How a session stands between two of its lines, and what a line does.
use Rattle.std.specs.Prelude.{◌≡◌, ℕ, ◌+◌, ◌-◌, Bool, true, false, ◌&&◌, ◌⊎◌, List, [], ◌∷◌, ◌++◌, length, take, Option}
use Rattle.std.specs.Prelude.{Some, None, Ok, option_map, is_some, unwrap_or}
use Rattle.std.specs.Arc.{arc_value}
use Rattle.std.specs.List.{list_any, list_all}
use Rattle.std.specs.Result.{result_ok}
use Rattle.flat_base.specs.declared.ids.Actor.TheVariants.{Session}
use Rattle.flat_base.specs.declared.ids.SessionNo.{SessionNo}
use Rattle.flat_scene.specs.declared.calls.Call.{Call}
use Rattle.flat_scene.specs.declared.calls.Call.TheVariants.{CreateView, CreateViewport}
use Rattle.flat_scene.specs.declared.journal.Entry.{Entry}
use Rattle.flat_scene.specs.declared.journal.EntryKind.{EntryKind}
use Rattle.flat_scene.specs.declared.journal.Reply.{Reply}
use Rattle.flat_scene.specs.declared.journal.Reply.TheVariants.{Done, Closed}
use Rattle.flat_scene.specs.declared.script.SessionLine.{SessionLine}
use Rattle.flat_scene.specs.declared.script.SessionLine.TheVariants as line
use Rattle.flat_scene.specs.declared.setup.Setup.{Setup}
use Rattle.flat_scene.specs.Draft.{Draft, empty_draft}
use Rattle.flat_scene.specs.Effect.{draft_of, effect}
use Rattle.flat_scene.specs.History.{own, is_end, carried, closes}
use Rattle.flat_scene.specs.Interleave.{entry_of_line, calls_of_line, after_line}
use Rattle.flat_scene.specs.Misuse.{misuse, first_reason}
use Rattle.flat_scene.specs.Setups.{is_declared}
use Rattle.flat_scene.specs.Tree.{present_tests, tree}
use Rattle.flat_core.specs.Machines.{Machine, entered}
use Rattle.flat_rules.specs.Legal.{reply_to, owns_view, owns_viewport, owns_fence}
use Rattle.flat_draft.specs.Answers.{pair_watched, has_room_for}
use Rattle.flat_draft.specs.State.{DraftState}
use Rattle.flat_draft.specs.Stands.{StandsFor}
use Rattle.flat_rules.specs.Owned.{is_private, is_played_call, is_played_condition}
use Rattle.flat_rules.specs.Refusals.{may_refuse}
use Rattle.flat_session.specs.declared.requested_entry.RequestedEntry.{RequestedEntry}
use Rattle.flat_session.specs.declared.requested_entry.RequestedEntry.TheVariants as made
use Rattle.flat_session.specs.declared.session_reader.EditOutcome.{EditOutcome}
use Rattle.flat_session.specs.declared.session_reader.EditOutcome.TheVariants.{Read, Unread}
use Rattle.flat_session.specs.declared.session_reader.SessionReader.{SessionReader}
use Rattle.flat_session.specs.Made.{kind_of, handed_over}

-- ---- between two lines; a session's own entries are the newest first

-- A session isn't closed: its draft stands for that of all its calls, those that wait among them.
pub record IsOpen (setup : Setup) (mine : List Entry) (reader : SessionReader) : Type 0 where
  pub draft : Draft
  pub made : draft_of setup (carried mine ++ reader.pending) ≡ Ok draft
  pub stands : StandsFor setup reader.draft draft
  pub still_open : reader.draft.closed ≡ false
  pub private : list_all (is_private setup reader.session) reader.pending ≡ true
  pub none_refused : reader.refused ≡ 0

-- A session stands behind its own entries.
pub record Stands (setup : Setup) (mine : List Entry) (reader : SessionReader) : Type 0 where
  pub declared : is_declared setup reader.session ≡ true
  pub unended : list_any (λ entry. is_end entry.kind) mine ≡ false
  pub closed : list_any (λ entry. closes entry.reply) mine ≡ reader.closed
  pub when_open : reader.closed ≡ false → IsOpen setup mine reader
  pub when_closed : reader.closed ≡ true → reader.pending ≡ []

-- A session read no line: nothing waits, and it stands behind no entry.
pub record IsNew (setup : Setup) (s : SessionNo) (reader : SessionReader) : Type 0 where
  pub session : reader.session ≡ s
  pub stands : Stands setup [] reader
  pub no_calls : reader.pending ≡ []
  pub no_events : reader.events ≡ []
  pub none_refused : reader.refused ≡ 0
  pub opened : reader.closed ≡ false

-- ---- what a line makes, before the board is asked

-- some draft of the rules for which the session's stands
abbrev pub HasDraft : DraftState → Type 0
HasDraft state = (setup : Setup) × ((draft : Draft) × StandsFor setup state draft)

-- the call that makes a viewport
abbrev pub viewport_call : RequestedEntry → Option Call
viewport_call (made.Viewport c pair props) = Some (CreateViewport c pair props.w props.h props.inset)
viewport_call _ = None

-- A call's entry has it as the last of its calls, behind those that waited.
abbrev pub IsLast : List Call → List Call → Call → Type 0
IsLast before pending call = pending ≡ before ++ call ∷ []

-- What a session's calls and its draft are when it is about to make its entry: those that waited, and at the entry of
-- a call that call. A viewport's call is still to be made of the draft, which has the room for it.
module _ (setup : Setup) (s : SessionNo) (draft : Draft) (before pending : List Call) (after : DraftState) where
  abbrev pub IsPrepared : RequestedEntry → Type 0
  IsPrepared (made.View pair) =
      IsLast before pending (CreateView pair) × (owns_view setup s pair ≡ true)
      × (misuse setup draft (CreateView pair) ≡ None) × StandsFor setup after (effect draft (CreateView pair))
      × (after.closed ≡ false)
  IsPrepared (made.Viewport c pair props) =
      IsLast before pending (CreateViewport c pair props.w props.h props.inset) × (owns_viewport setup s pair ≡ true)
      × (misuse setup draft (CreateViewport c pair props.w props.h props.inset) ≡ None)
      × StandsFor setup after draft × (after.closed ≡ false)
      × (has_room_for (CreateViewport c pair props.w props.h props.inset) after ≡ true)
  IsPrepared (made.Present args snapshot) =
      (pending ≡ before) × ((list_all (owns_fence setup s) args.acquire && list_all (owns_fence setup s) args.release)
      ≡ true) × (first_reason (present_tests draft args) ≡ None)
      × (tree draft ≡ Some (arc_value snapshot)) × StandsFor setup after draft × (after.closed ≡ false)
  IsPrepared (made.Get get pair) = (pending ≡ before) × (pair_watched draft get ≡ Some pair)
      × StandsFor setup after draft × (after.closed ≡ false)
  IsPrepared (made.Signal f) = (pending ≡ before) × (owns_fence setup s f ≡ true) × StandsFor setup after draft
      × (after.closed ≡ false)
  IsPrepared made.Poll = (pending ≡ before) × StandsFor setup after draft × (after.closed ≡ false)
  IsPrepared (made.Wait c) = (pending ≡ before) × (is_played_condition setup s c ≡ true) × StandsFor setup after draft
      × (after.closed ≡ false)
  IsPrepared (made.Close None) = pending ≡ before
  IsPrepared (made.Close (Some why)) =
      ((pending ≡ before) × (may_refuse draft why ≡ true))
      ⊎ ((call : Call) × IsLast before pending call × (is_played_call setup s call ≡ true)
      × (misuse setup draft call ≡ Some why))

-- A session is about to make its entry.
pub record IsReady (setup : Setup) (mine : List Entry) (reader : SessionReader) (made : RequestedEntry) : Type 0 where
  pub declared : is_declared setup reader.session ≡ true
  pub unended : list_any (λ entry. is_end entry.kind) mine ≡ false
  pub unclosed : list_any (λ entry. closes entry.reply) mine ≡ false
  pub opened : reader.closed ≡ false
  pub none_refused : reader.refused ≡ 0
  pub before : List Call
  pub private : list_all (is_private setup reader.session) before ≡ true
  pub draft : Draft
  pub drawn : draft_of setup (carried mine ++ before) ≡ Ok draft
  pub prepared : IsPrepared setup reader.session draft before reader.pending reader.draft made

-- the same but for the draft, with the call of a line behind those that wait
abbrev pub with_line : SessionLine → SessionReader → DraftState → SessionReader
with_line text old after = record old { draft = after; pending = old.pending ++ calls_of_line text }

-- a call is no misuse
abbrev pub IsNoMisuse : Setup → Draft → SessionLine → Type 0
IsNoMisuse setup draft (line.Call call) = misuse setup draft call ≡ None
IsNoMisuse setup draft _ = Unit {0}

-- what is left of a line that makes no entry, and what an entry is prepared by
abbrev pub Leaves : Setup → SessionNo → Draft → SessionLine → List Call → List Call → DraftState → Option RequestedEntry
    → Type 0
Leaves setup s draft text before pending after None =
    IsNoMisuse setup draft text × StandsFor setup after (after_line draft text) × (after.closed ≡ false)
Leaves setup s draft text before pending after (Some made) = IsPrepared setup s draft before pending after made

-- What a session's draft tells of a line: the entry of the rules or none, and what is left of the draft, whichever
-- calls waited.
pub record Tells (setup : Setup) (s : SessionNo) (draft : Draft) (text : SessionLine) (after : DraftState)
    (made : Option RequestedEntry) : Type 0 where
  pub kind : option_map kind_of made ≡ entry_of_line setup draft text
  pub leaves : (waiting : List Call) → Leaves setup s draft text waiting (waiting ++ calls_of_line text) after made

-- What came of a line that may make no entry. If it makes none, its call waits;
-- else it comes back, and nothing changed.
abbrev pub Edits : Setup → Draft → SessionLine → SessionReader → SessionReader → EditOutcome → Type 0
Edits setup draft text old new (Read reply) =
    (reply ≡ Done) × (new ≡ with_line text old new.draft) × Tells setup old.session draft text new.draft None
Edits setup draft text old new (Unread line) =
    (line ≡ text) × (new ≡ old) × (is_some (entry_of_line setup draft text) ≡ true)

-- the view that a call makes, if it makes one
abbrev pub view_made : Call → Option RequestedEntry
view_made (CreateView pair) = Some (made.View pair)
view_made _ = None

-- a call that makes a viewport
abbrev pub makes_viewport : Call → Bool
makes_viewport (CreateViewport c pair w h inset) = true
makes_viewport _ = false

-- ---- what came of a line

-- A session made an entry of this kind, which carries all its calls since the last one.
pub record Enters (number : ℕ) (kind : EntryKind) (reply : Reply) (old new : Machine) (before after : SessionReader)
    : Type 0 where
  pub replied : reply ≡ reply_to old.setup old.history (Session before.session) before.pending kind
  pub entry : new ≡ entered old (Session before.session) number before.pending kind reply
  pub events : after.events ≡ before.events ++ handed_over old.setup old.history before.session kind
  pub rest : after ≡ record before { draft = after.draft; pending = []; events = after.events; closed = closes reply }

-- What came of a line of a session that isn't closed: its entry, or its call waits for the next one.
abbrev pub Makes : ℕ → SessionLine → Reply → Machine → Machine → SessionReader → SessionReader → Option EntryKind
    → Type 0
Makes number text reply old new before after None =
    (reply ≡ Done) × (new ≡ old) × (after ≡ with_line text before after.draft)
Makes number text reply old new before after (Some kind) =
    Enters number kind reply old new (with_line text before before.draft) after

-- the draft of all calls of a session so far
abbrev pub draft_so_far : Setup → List Entry → List Call → Draft
draft_so_far setup mine pending = unwrap_or (result_ok (draft_of setup (carried mine ++ pending))) empty_draft

-- the entry that a line makes of a session that isn't closed, by the calls so far
abbrev pub made_by_line : Machine → SessionReader → SessionLine → Option EntryKind
made_by_line m reader text = entry_of_line m.setup (draft_so_far m.setup (own reader.session m.history) reader.pending)
    text

-- What came of a line: after the one that closed the session it is counted.
abbrev pub Reads : ℕ → SessionLine → Reply → Machine → Machine → SessionReader → SessionReader → Bool → Type 0
Reads number text reply old new before after true =
    (reply ≡ Closed None None) × (new ≡ old) × (after ≡ record before { refused = before.refused + 1 })
Reads number text reply old new before after false =
    Makes number text reply old new before after (made_by_line old before text)

-- the calls that wait, where an entry couldn't be made: a viewport's call is taken back
abbrev pub kept_calls : Option Call → List Call → List Call
kept_calls None pending = pending
kept_calls (Some call) pending = take (length pending - 1) pending

-- ---- a viewport's call, which the draft makes once its entry is made

-- there is room for it, and it is no misuse
abbrev pub CanMake : DraftState → Option Call → Type 0
CanMake state None = Unit {0}
CanMake state (Some call) = (state.closed ≡ false) × (has_room_for call state ≡ true)
    × ((setup : Setup) × ((draft : Draft) × StandsFor setup state draft × (misuse setup draft call ≡ None)))

-- it is made
abbrev pub IsMade : Setup → Draft → DraftState → DraftState → Option Call → Type 0
IsMade setup draft old new None = new ≡ old
IsMade setup draft old new (Some call) =
    misuse setup draft call ≡ None → StandsFor setup new (effect draft call) × (new.closed ≡ false)
