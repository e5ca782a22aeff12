-- A live stage, which hands its sessions' clients out and takes them back.
use Rattle.std.specs.Prelude.{◌≡◌, ℕ, ◌+◌, ◌-◌, ◌<◌, ◌≤◌, ◌==◌, Bool, true, false, cond, not, List, [], length}
use Rattle.std.specs.Prelude.{Option, Some, None, slice_get, slice_index, slice_index_or, slice_set}
use Rattle.std.specs.List.{list_all}
use Rattle.std.specs.Option.{is_some}
use Rattle.flat_base.specs.declared.ids.SessionNo.{SessionNo}
use Rattle.flat_scene.specs.declared.setup.Setup.{Setup}
use Rattle.flat_scene.specs.Setups.{is_declared}
use Rattle.flat_stage.specs.Displays.{DisplayView}
use Rattle.flat_stage.specs.Homes.{AreFresh, fresh_view, seats_without}
use Rattle.flat_stage.specs.Seats.{SessionView, StageView, setup_of, shares_of}
use Rattle.flat_client.specs.Clients.{ClientView, Ends, new_client}
use Rattle.flat_setup.specs.Builders.{Built}

-- which stage it is, the seats that are at home by their sessions, and whose client was handed out
pub record ShellView : Type 0 where
  pub stage : StageView
  pub home : List (Option SessionView)
  pub handed : List Bool

-- ---- what callers see

-- a session's client waits to be handed out
abbrev pub is_waiting : ShellView → SessionNo → Bool
is_waiting shell s = cond (s.0 == 0) false (not (slice_index_or shell.handed (s.0 - 1) true))

-- the client that is handed out
abbrev pub client_of : ShellView → SessionNo → Option ClientView
client_of shell s = cond (is_waiting shell s) (Some (new_client (fresh_view shell.stage s))) None

-- and what is left then
abbrev pub hands_out : ShellView → SessionNo → ShellView
hands_out shell s =
    cond (is_waiting shell s)
    (record shell { home = seats_without shell.home s; handed = slice_set shell.handed (s.0 - 1) true })
    shell

-- a client's session ended, and its seat is home
pub record TakesBack (client : ClientView) (old new : ShellView) : Type 0 where
  pub seat : SessionView
  pub ends : Ends client seat
  pub home : new ≡ record old {
    home = slice_set old.home (seat.session.0 - 1) (Some seat);
    handed = slice_set old.handed (seat.session.0 - 1) true;
  }

-- A stage was opened: it has the setup and the shares that were built, nothing was entered, and each client waits.
pub record IsOpened (new : Built) (shell : ShellView) (compositor : DisplayView) : Type 0 where
  pub setup : setup_of shell.stage ≡ new.setup
  pub shares : shares_of shell.stage ≡ new.shares
  pub display : compositor ≡ record { stage = shell.stage; seen = []; mine = [] }
  pub home : AreFresh shell.stage new.setup.sessions shell.home
  pub waiting : (s : SessionNo) → is_declared new.setup s ≡ true → is_waiting shell s ≡ true

-- no client is out: each was taken back, or never handed out
abbrev pub all_home : ShellView → Bool
all_home shell = list_all is_some shell.home

-- ---- what a shell keeps

-- Its stage, the setup and the shares of this; a client that wasn't handed out waits as a new one.
pub record IsShell (stage : StageView) (setup : Setup) (shares : List ℕ) (shell : ShellView) : Type 0 where
  pub own : shell.stage ≡ stage
  pub of : setup ≡ setup_of shell.stage
  pub same : shares ≡ shares_of shell.stage
  pub many : length shares ≡ setup.sessions + 1
  pub room : (s : ℕ) → 0 < s → s ≤ setup.sessions → 2 ≤ slice_index shares s
  pub count : length shell.home ≡ setup.sessions
  pub flags : length shell.handed ≡ setup.sessions
  pub waiting : (s : SessionNo) → is_waiting shell s ≡ true
      → slice_get shell.home (s.0 - 1) ≡ Some (Some (fresh_view shell.stage s))
