-- The pictures of all finished frames, and the film that gathers them.
use Rattle.std.specs.Prelude.{ℕ, List, [], ◌∷◌, None, Some}
use Rattle.std.specs.List.{flat_map}
use Rattle.flat_scene.specs.declared.frames.FrameOut.{FrameOut}
use Rattle.flat_scene.specs.declared.setup.Setup.{Setup}
use Rattle.flat_texts.specs.Pictures.{picture_of}

-- the pictures of some frames, one behind the other
abbrev pub pictures_of : Setup → List FrameOut → List ℕ
pictures_of setup frames = flat_map (λ frame. picture_of setup (Some frame)) frames

-- the same of all frames of a run; where there is none, one black picture
abbrev pub film_text : Setup → List FrameOut → List ℕ
film_text setup [] = picture_of setup None
film_text setup (frame ∷ later) = pictures_of setup (frame ∷ later)
