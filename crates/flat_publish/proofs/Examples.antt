-- The definitions, computed on small lists of frames.
use Rattle.std.proofs.Common.{ℕ, ◌≡◌, refl, [], ◌∷◌, List, Option, None, Some, pos}
use Rattle.flat_scene.specs.declared.frames.Hit.{Hit}
use Rattle.flat_topology.specs.declared.GlobalTopology.{GlobalTopology}
use Rattle.flat_publish.specs.declared.frame.Frame.{Frame}
use Rattle.flat_publish.specs.Frames.{last_of, last_number, frame_hits, frame}

-- three frames, with one joined list each
module _ (one two three : GlobalTopology) where
  abbrev frames : List Frame
  frames = frame 1 one ∷ frame 4 two ∷ frame 7 three ∷ []

  the_last : last_of frames ≡ Some (frame 7 three)
  the_last = refl

  its_number : last_number frames ≡ 7
  its_number = refl

no_last : last_number [] ≡ 0
no_last = refl

no_hits : frame_hits None (pos 3) (pos 3) ≡ []
no_hits = refl
