-- What a seat needs for its lines.
use Rattle.std.specs.Prelude.{◌≡◌, ℕ, ◌+◌, ◌*◌, ◌≤◌, ◌<◌, ◌^◌, false, [], ◌∷◌, length, slice_index}
use Rattle.flat_base.specs.declared.ids.Actor.TheVariants.{Display}
use Rattle.flat_scene.specs.declared.setup.Setup.{Setup}
use Rattle.flat_scene.specs.Journals.{history_of}
use Rattle.flat_rules.specs.Legal.{begin_time}
use Rattle.flat_stage.specs.Displays.{DisplayView}
use Rattle.flat_stage.specs.Seats.{SessionView, is_ended, shares_of}

-- a display that shows session 1, beside session 2
abbrev pub two_sessions : Setup
two_sessions = record {
  width = 100;
  height = 50;
  sessions = 2;
  probes = 0;
  pairs = record { viewport = Display; view = record { 0 = 1 } } ∷ [];
  buffers = [];
  fences = [];
  ratio = 65536;
}

-- A session that has not ended may read so many lines more.
pub record MayRead (lines : ℕ) (seat : SessionView) : Type 0 where
  pub unended : is_ended seat.mine ≡ false
  pub room : length seat.mine + lines ≤ slice_index (shares_of seat.stage) seat.session.0
  pub few : seat.refused + lines < 2 ^ 32

-- The compositor may make so many frames more, which begin at this time or later.
pub record MayBegin (frames time : ℕ) (seat : DisplayView) : Type 0 where
  pub room : length seat.mine + 2 * frames ≤ slice_index (shares_of seat.stage) 0
  pub begun : begin_time (history_of seat.mine) ≤ time
