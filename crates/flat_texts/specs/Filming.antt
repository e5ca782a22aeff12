-- What a film keeps after some frames.
use Rattle.std.specs.Prelude.{◌≡◌, ◌≤◌, Bool, true, false, List, [], ◌∷◌, map}
use Rattle.std.specs.Arc.{arc_value}
use Rattle.flat_base.specs.Last.{last_item}
use Rattle.flat_scene.specs.declared.frames.FrameOut.{FrameOut}
use Rattle.flat_scene.specs.declared.setup.Setup.{Setup}
use Rattle.flat_render.specs.declared.tile_grid.TheConstants.{PIXELS_MAX}
use Rattle.flat_render.specs.Pictures.{Shows}
use Rattle.flat_ink.specs.Pixels.{pixel}
use Rattle.flat_texts.specs.declared.film.Film.{Film}
use Rattle.flat_texts.specs.Pictures.{list_of}
use Rattle.flat_texts.specs.Films.{pictures_of}
use Rattle.flat_texts.specs.Strips.{AreStrips}

-- whether there is a frame
abbrev pub is_any : List FrameOut → Bool
is_any [] = false
is_any (frame ∷ later) = true

-- A film has the pictures of these frames, shows the draw list of the last one, and keeps strips of its picture.
pub record IsFilm (setup : Setup) (frames : List FrameOut) (film : Film) : Type 0 where
  pub any : film.any ≡ is_any frames
  pub pictures : film.pictures ≡ pictures_of setup frames
  pub shown : film.shown ≡ list_of (last_item frames)
  pub shows : Shows film.picture setup.width setup.height (pixel film.shown)
  pub wide : setup.width ≤ PIXELS_MAX
  pub high : setup.height ≤ PIXELS_MAX
  pub strips : AreStrips setup.width setup.height (pixel film.shown) (map arc_value film.strips.items)
