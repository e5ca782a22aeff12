-- The view trees of one frame more.
use Rattle.std.proofs.Common.{◌≡◌, List, [], ◌∷◌, ◌++◌, map, Option, Some, sym, ap, ◌∙◌}
use Rattle.std.proofs.lemmas.List.{map-append}
use Rattle.flat_scene.specs.declared.frames.FrameOut.{FrameOut}
use Rattle.flat_page.specs.Steps.{without_items}
use Rattle.flat_page.proofs.lemmas.LastItems.{last-more}
use Rattle.flat_play.specs.declared.trees.FrameTrees.{FrameTrees}
use Rattle.flat_play.specs.Keeping.{AreTrees, listed}

pub tree-more : (frames : List FrameOut) (frame : FrameOut) (old new : FrameTrees) → new.before ≡ old.before ++ map without_items (listed old.last)
    → new.last ≡ Some frame → AreTrees frames old → AreTrees (frames ++ frame ∷ []) new
tree-more frames frame old new before last were = record {
  before =
      ap (λ (trees : List FrameOut). trees ++ map without_items (listed new.last)) (before ∙ were.before)
      ∙ ap (λ (it : Option FrameOut). map without_items frames ++ map without_items (listed it)) last
      ∙ sym (map-append without_items frames (frame ∷ []));
  last = last ∙ sym (last-more frames frame);
}
