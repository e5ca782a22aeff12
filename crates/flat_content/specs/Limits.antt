-- What is asked of the collections of which images may be made.
use Rattle.std.specs.Prelude.{Bool, ◌&&◌, nat_le, ◌≡◌, true}
use Rattle.std.specs.List.{list_all}
use Rattle.flat_base.specs.declared.limits.TheConstants.{SIDE_MAX}
use Rattle.flat_scene.specs.declared.setup.BufferDecl.{BufferDecl}
use Rattle.flat_scene.specs.declared.setup.Setup.{Setup}
use Rattle.flat_scene.specs.Heads.{is_setup}

-- a collection's buffers have sides within the limit
abbrev pub are_sides : BufferDecl → Bool
are_sides buffers = nat_le buffers.w SIDE_MAX && nat_le buffers.h SIDE_MAX

-- so have those of each setup that the head of a script can give
abbrev pub SidesAreDeclared : Type 0
SidesAreDeclared = (setup : Setup) → is_setup setup ≡ true → list_all are_sides setup.buffers ≡ true
