-- How far a session's entries have read its lines, whatever lines come later.
use Rattle.std.specs.Prelude.{◌≡◌, Bool, ℕ, ◌+◌, ◌<◌, cond, List, [], ◌∷◌, ◌++◌, length}
use Rattle.flat_base.specs.declared.ids.Actor.TheVariants.{Session}
use Rattle.flat_scene.specs.declared.calls.Call.{Call}
use Rattle.flat_scene.specs.declared.journal.Entry.{Entry}
use Rattle.flat_scene.specs.declared.journal.EntryKind.TheVariants.{End}
use Rattle.flat_scene.specs.declared.journal.Reply.{Reply}
use Rattle.flat_scene.specs.declared.journal.Reply.TheVariants.{Done}
use Rattle.flat_scene.specs.declared.script.SessionLine.{SessionLine}
use Rattle.flat_scene.specs.declared.setup.Setup.{Setup}
use Rattle.flat_scene.specs.History.{own}
use Rattle.flat_scene.specs.Interleave.{Next, Follows, IsReading, next_of, next_from}
use Rattle.flat_core.specs.Machines.{Machine, entered}
use Rattle.flat_session.specs.declared.session_reader.SessionReader.{SessionReader}
use Rattle.flat_session.specs.Reads.{Reads, Stands, draft_so_far}

-- the numbers of lines rise, from above this one
abbrev pub Rise : ℕ → List (ℕ × SessionLine) → Type 0
Rise n [] = Unit {0}
Rise n ((number, text) ∷ later) = (n < number) × Rise number later

-- what comes next of a session after some entries, by the lines still to come
abbrev pub next_by : Setup → ℕ → List Entry → List Call → Bool → ℕ → List (ℕ × SessionLine) → Next
next_by setup count mine pending closed refused later =
    cond closed
    (record { line = count + 1; carries = []; kind = End (refused + length later) })
    (next_from setup count (draft_so_far setup mine pending) pending later)

-- A session was given these lines. Whatever lines come later, and however many lines there are, its entries are the
-- reading of them so far, and what comes next is told by the later ones.
pub record HasReadBy (setup : Setup) (given : List (ℕ × SessionLine)) (mine : List Entry) (pending : List Call)
    (closed : Bool)
    (refused : ℕ) : Type 0 where
  pub follows : (count : ℕ) (later : List (ℕ × SessionLine)) → Rise 0 (given ++ later)
      → Follows setup count (given ++ later) mine
  pub next : (count : ℕ) (later : List (ℕ × SessionLine)) → Rise 0 (given ++ later)
      → next_of setup count mine (given ++ later) ≡ next_by setup count mine pending closed refused later

-- the same of a reader
abbrev pub HasRead : Setup → List (ℕ × SessionLine) → List Entry → SessionReader → Type 0
HasRead setup given mine reader = HasReadBy setup given mine reader.pending reader.closed reader.refused

-- a session that was given no line has read it
abbrev pub NoneIsRead : Type 0
NoneIsRead = (setup : Setup) (reader : SessionReader) → Stands setup [] reader → reader.pending ≡ []
    → HasRead setup [] [] reader

-- one line more is read by what came of it
abbrev pub OneMoreIsRead : Type 0
OneMoreIsRead =
    (given : List (ℕ × SessionLine)) (number : ℕ) (text : SessionLine) (reply : Reply) (old new : Machine)
    (before after : SessionReader)
    → Stands old.setup (own before.session old.history) before
    → HasRead old.setup given (own before.session old.history) before
    → Reads number text reply old new before after before.closed
    → HasRead old.setup (given ++ (number, text) ∷ []) (own before.session new.history) after

-- a session that has read all its lines ends, and its entries are their reading
abbrev pub EndsAreRead : Type 0
EndsAreRead =
    (given : List (ℕ × SessionLine)) (count : ℕ) (m : Machine) (reader : SessionReader)
    → Stands m.setup (own reader.session m.history) reader
    → HasRead m.setup given (own reader.session m.history) reader → Rise 0 given
    → IsReading m.setup count given (own reader.session
    (entered m (Session reader.session) (count + 1) reader.pending (End reader.refused) Done).history)
