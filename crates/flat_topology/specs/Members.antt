-- Which sessions a set has.
use Rattle.std.specs.Prelude.{ℕ, zero, suc, Bool, false, slice_index_or}
use Rattle.flat_scene.specs.declared.frames.SessionSet.{SessionSet}

-- whether a session is in a set; there is no session 0
abbrev pub is_member : SessionSet → ℕ → Bool
is_member set zero = false
is_member set (suc before) = slice_index_or set.has before false
