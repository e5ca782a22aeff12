-- What a brush stands for.
use Rattle.flat_topology.specs.Draw.{Painting}
use Rattle.flat_compose.specs.declared.brush.Brush.{Brush}

-- what a content paints
abbrev pub painting : Brush → Painting
painting b = record { serial = b.serial; paint = b.paint; w = b.w; h = b.h; opacity = b.opacity; blend = b.blend }
