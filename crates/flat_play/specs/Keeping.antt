-- What a run keeps of the frames that it finished.
use Rattle.std.specs.Prelude.{◌≡◌, List, [], ◌∷◌, ◌++◌, map, Option, Some, None}
use Rattle.flat_base.specs.Last.{last_item}
use Rattle.flat_base.specs.declared.ids.FrameNo.{FrameNo}
use Rattle.flat_scene.specs.declared.frames.FrameOut.{FrameOut}
use Rattle.flat_scene.specs.declared.frames.ViewTree.{ViewTree}
use Rattle.flat_page.specs.Steps.{without_items}
use Rattle.flat_places.specs.declared.script.Script.{Script}
use Rattle.flat_report.specs.FrameTexts.{AreTexts, unchanged}
use Rattle.flat_texts.specs.Damages.{IsFound}
use Rattle.flat_play.specs.declared.kept_frames.KeptFrames.{KeptFrames}
use Rattle.flat_play.specs.declared.kept_frames.KeptFrames.TheVariants as kept
use Rattle.flat_play.specs.declared.kept_frames.FramesToKeep.{FramesToKeep}
use Rattle.flat_play.specs.declared.kept_frames.FramesToKeep.TheVariants as keeping
use Rattle.flat_play.specs.declared.trees.FrameTrees.{FrameTrees}

-- a list of the last frame, if there is one
abbrev pub listed : Option FrameOut → List FrameOut
listed None = []
listed (Some frame) = frame ∷ []

-- The view trees of some frames are kept: of those before the last one without items, and the last one whole.
pub record AreTrees (frames : List FrameOut) (trees : FrameTrees) : Type 0 where
  pub before : trees.before ++ map without_items (listed trees.last) ≡ map without_items frames
  pub last : trees.last ≡ last_item frames

abbrev pub keeping_of : KeptFrames → FramesToKeep
keeping_of (kept.Texts texts) = keeping.Texts
keeping_of (kept.Damages damages) = keeping.Damages
keeping_of (kept.Trees trees) = keeping.Trees
keeping_of (kept.Last last) = keeping.Last

-- what is kept is that of these frames
abbrev pub Keeps : Script → KeptFrames → List FrameOut → Type 0
Keeps script (kept.Texts texts) frames = AreTexts script frames texts
Keeps script (kept.Damages damages) frames = IsFound frames damages
Keeps script (kept.Trees trees) frames = AreTrees frames trees
Keeps script (kept.Last last) frames = last ≡ last_item frames

-- One frame more is kept, in the same way.
pub record KeepsMore (script : Script) (frame : FrameOut) (old new : KeptFrames) : Type 0 where
  pub same : keeping_of new ≡ keeping_of old
  pub more : (frames : List FrameOut) → Keeps script old frames → Keeps script new (frames ++ frame ∷ [])

-- One frame more is kept, in the same way: that of a number and with a view tree, which has the items of the last one.
pub record KeepsUnchanged (script : Script) (number : FrameNo) (tree : ViewTree) (old new : KeptFrames) : Type 0 where
  pub same : keeping_of new ≡ keeping_of old
  pub more : (frames : List FrameOut) (last : FrameOut) → Keeps script old frames → last_item frames ≡ Some last
      → Keeps script new (frames ++ unchanged number tree last ∷ [])
