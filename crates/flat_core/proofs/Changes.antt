-- What a begin notes as changed.
use Rattle.std.proofs.Common.{◌≡◌, ℕ, zero, suc, false, None, refl, ◌∙◌}
use Rattle.std.specs.Prelude.{slice_index_or}
use Rattle.flat_scene.specs.declared.frames.SessionSet.{SessionSet}
use Rattle.flat_topology.specs.Shown.{Shown}
use Rattle.flat_topology.specs.Changes.{AreSame}
use Rattle.flat_core.specs.Changes.{NotesChanges}

-- one step after another
pub changes-both : (a b c : SessionSet) (old middle new : Shown) → NotesChanges a b old middle → NotesChanges b c middle new → NotesChanges a c old new
changes-both a b c old middle new one two k none =
    let later = two k none in
    let earlier = one k later.0 in
    (earlier.0, earlier.1 ∙ later.1)

-- by the numbers of sessions
pub changes-same : (set : SessionSet) (old new : Shown)
    → ((k : ℕ) → slice_index_or set.has k false ≡ false → slice_index_or old k None ≡ slice_index_or new k None) → AreSame set old new
changes-same set old new same zero within none = refl
changes-same set old new same (suc before) within none = same before none
