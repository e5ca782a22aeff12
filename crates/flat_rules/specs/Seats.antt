-- What a seat knows that sees its own entries alone.
use Rattle.std.specs.Prelude.{◌≡◌, ℕ, ◌≤◌, true, ◌==◌, List, [], ◌++◌, filter}
use Rattle.flat_base.specs.declared.ids.Actor.TheVariants.{Session}
use Rattle.flat_base.specs.declared.ids.SessionNo.{SessionNo}
use Rattle.flat_base.specs.declared.limits.TheConstants.{SESSIONS_MAX}
use Rattle.flat_scene.specs.declared.calls.Call.{Call}
use Rattle.flat_scene.specs.declared.journal.Entry.{Entry}
use Rattle.flat_scene.specs.declared.journal.EntryKind.{EntryKind}
use Rattle.flat_scene.specs.declared.setup.Setup.{Setup}
use Rattle.flat_scene.specs.History.{own, is_display, is_closed}
use Rattle.flat_scene.specs.Journals.{seat_number, history_of}
use Rattle.flat_scene.specs.Setups.{is_declared}
use Rattle.flat_rules.specs.Ends.{to_begin}
use Rattle.flat_rules.specs.Legal.{Legal, goes_on, has_draft, draft_with, is_frame_open, begin_time}

-- the entries of a seat, by its number
abbrev pub of_seat : ℕ → List Entry → List Entry
of_seat seat history = filter (λ entry. seat_number entry.actor == seat) history

-- the entries of the display
abbrev pub of_display : List Entry → List Entry
of_display history = filter (λ entry. is_display entry.actor) history

-- A seat's number tells the entries of the display, and those of each session.
pub record AreTold (setup : Setup) (history : List Entry) : Type 0 where
  pub display : of_display history ≡ of_seat 0 history
  pub sessions : (s : SessionNo) → is_declared setup s ≡ true → own s history ≡ of_seat s.0 history

abbrev pub SeatsTellActors : Type 0
SeatsTellActors = (setup : Setup) → setup.sessions ≤ SESSIONS_MAX → (history : List Entry) → Legal setup history
    → AreTold setup history

-- What an entry must meet of its session is told by the session's own entries:
-- whether it is open and had no End, and the draft of its calls.
pub record KnowsItself (setup : Setup) (history : List Entry) (s : SessionNo) : Type 0 where
  pub closed : is_closed s history ≡ is_closed s (own s history)
  pub lasts : (kind : EntryKind) → goes_on history kind (Session s) ≡ goes_on (own s history) kind (Session s)
  pub draft : (carries : List Call) → draft_with setup history (Session s) carries
      ≡ draft_with setup (own s history) (Session s) carries
  pub drafted : (carries : List Call) (kind : EntryKind)
      → has_draft setup history (Session s) carries kind ≡ has_draft setup (own s history) (Session s) carries kind

abbrev pub SessionsKnowThemselves : Type 0
SessionsKnowThemselves = (setup : Setup) (history : List Entry) (s : SessionNo) → KnowsItself setup history s

-- Whether a frame is open, and the time of the last begin, are told by the display's own entries.
pub record KnowsFrames (history : List Entry) : Type 0 where
  pub frame : is_frame_open history ≡ is_frame_open (of_display history)
  pub time : begin_time history ≡ begin_time (of_display history)

abbrev pub DisplayKnowsFrames : Type 0
DisplayKnowsFrames = (setup : Setup) (history : List Entry) → Legal setup history → KnowsFrames history

-- the last begin stays where it was until the display makes an entry
abbrev pub BeginStays : Type 0
BeginStays = (setup : Setup) (later before : List Entry) → Legal setup (later ++ before) → of_display later ≡ []
    → to_begin (later ++ before) ≡ to_begin before

-- ---- journals, which have the oldest entry first

-- the entries of a seat stand in the same order in a journal and in its history
abbrev pub JournalsKeepSeats : Type 0
JournalsKeepSeats = (seat : ℕ) (entries : List Entry)
    → of_seat seat (history_of entries) ≡ history_of (of_seat seat entries)

-- who has seen all of the display's entries of a journal has seen its last begin, and all before it
abbrev pub BeginIsSeen : Type 0
BeginIsSeen = (setup : Setup) (seen rest : List Entry) → Legal setup (history_of (seen ++ rest)) → of_display rest ≡ []
    → to_begin (history_of (seen ++ rest)) ≡ to_begin (history_of seen)
