-- Journals, which have the oldest entry first, and the numbers of seats.
use Rattle.std.specs.Prelude.{ℕ, ◌^◌, List, reverse}
use Rattle.flat_base.specs.declared.ids.Actor.{Actor}
use Rattle.flat_base.specs.declared.ids.Actor.TheVariants.{Display, Session, Probe}
use Rattle.flat_scene.specs.declared.journal.Entry.{Entry}

-- the history of a journal, which has the oldest entry first
abbrev pub history_of : List Entry → List Entry
history_of entries = reverse entries

-- the seat of an actor: the display's is 0 and a session's its number; a probe makes no entry and has a seat apart
abbrev pub seat_number : Actor → ℕ
seat_number Display = 0
seat_number (Session s) = s.0
seat_number (Probe p) = 2 ^ 32
