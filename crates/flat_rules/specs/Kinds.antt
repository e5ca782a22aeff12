-- The kinds of entry by which laws tell entries apart.
use Rattle.std.specs.Prelude.{Bool, true, false}
use Rattle.flat_scene.specs.declared.journal.EntryKind.{EntryKind}
use Rattle.flat_scene.specs.declared.journal.EntryKind.TheVariants.{Get, Close}

abbrev pub is_get : EntryKind → Bool
is_get (Get get) = true
is_get _ = false

abbrev pub is_close : EntryKind → Bool
is_close (Close reason) = true
is_close _ = false
