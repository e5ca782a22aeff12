-- Which sessions are noted as changed while a begin goes over them.
use Rattle.std.specs.Prelude.{ℕ, ◌≡◌, false, None, slice_index_or}
use Rattle.flat_scene.specs.declared.frames.SessionSet.{SessionSet}
use Rattle.flat_topology.specs.Shown.{Shown}

-- What is not noted afterwards was not noted before, and shows what it showed.
abbrev pub NotesChanges : SessionSet → SessionSet → Shown → Shown → Type 0
NotesChanges was is old new = (k : ℕ) → slice_index_or is.has k false ≡ false
    → (slice_index_or was.has k false ≡ false) × (slice_index_or old k None ≡ slice_index_or new k None)
