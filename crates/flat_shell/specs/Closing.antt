-- The end of a live stage.
use Rattle.std.specs.Prelude.{◌≡◌, ℕ, true, false, List, reverse, Some, slice_get, Result, Ok, Err}
use Rattle.flat_scene.specs.declared.journal.Entry.{Entry}
use Rattle.flat_core.specs.Machines.{Machine}
use Rattle.flat_lock.specs.History.{StartsWith}
use Rattle.flat_rules.specs.Legal.{Legal}
use Rattle.flat_stage.specs.Displays.{DisplayView}
use Rattle.flat_stage.specs.Seats.{SessionView, entries_of_seat, setup_of, shares_of}
use Rattle.flat_shell.specs.declared.fault.CloseFault.{CloseFault}
use Rattle.flat_shell.specs.declared.fault.CloseFault.TheVariants.{ClientsOut, StillHeld}
use Rattle.flat_shell.specs.Shells.{ShellView, all_home}

-- A seat's entries are those of its actor in a history, which begins with all that the seat had seen; the oldest are
-- first.
abbrev pub KnowsItsPart : List Entry → ℕ → List Entry → List Entry → Type 0
KnowsItsPart history actor seen mine = StartsWith history seen × (mine ≡ entries_of_seat actor history)

-- A stage was closed: its board has one legal history, which begins with what the compositor and each session have
-- seen, and in which each of them has the entries that it made.
pub record IsClosed (shell : ShellView) (compositor : DisplayView) (board : Machine) : Type 0 where
  pub setup : board.setup ≡ setup_of shell.stage
  pub shares : board.shares ≡ shares_of shell.stage
  pub legal : Legal board.setup board.history
  pub display : KnowsItsPart (reverse board.history) 0 compositor.seen compositor.mine
  pub sessions : (k : ℕ) (s : SessionView) → slice_get shell.home k ≡ Some (Some s)
      → KnowsItsPart (reverse board.history) s.session.0 s.seen s.mine

-- What came of a close: the board; or the shell and the compositor again, if and only if a client is out.
abbrev pub Closes : ShellView → DisplayView → Result Machine CloseFault → Type 0
Closes shell compositor (Ok board) = (all_home shell ≡ true) × IsClosed shell compositor board
Closes shell compositor (Err (ClientsOut same_shell same_compositor)) =
    (all_home shell ≡ false) × (same_shell ≡ shell) × (same_compositor ≡ compositor)
Closes shell compositor (Err StillHeld) = all_home shell ≡ true
