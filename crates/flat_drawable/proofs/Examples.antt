-- The definitions, computed.
use Rattle.std.proofs.Common.{◌≡◌, true, [], ◌∷◌, refl}
use Rattle.std.specs.Prelude.{pos}
use Rattle.flat_scene.specs.declared.calls.BlendMode.TheVariants.{Src}
use Rattle.flat_scene.specs.declared.frames.DrawItem.{DrawItem}
use Rattle.flat_scene.specs.declared.frames.Paint.TheVariants.{Fill}
use Rattle.flat_drawable.specs.Drawable.{full_rect, matrix_of}

-- a quarter turn of 10 by 20 units, moved by 30
abbrev an_item : DrawItem
an_item = record {
  session = record { 0 = 1 };
  serial = 1;
  paint = Fill (255 ∷ 0 ∷ 0 ∷ 255 ∷ []);
  w = 10;
  h = 20;
  matrix = record { swap = true; a = pos 65536; b = pos 65536; x = pos 1966080; y = pos 0 };
  visible = record { x0 = pos 1966080; y0 = pos 0; x1 = pos 2031616; y1 = pos 65536 };
  opacity = 65536;
  blend = Src;
}

item-has-its-matrix : matrix_of an_item.matrix ≡ record { swap = true; a = pos 65536; b = pos 65536; x = pos 1966080; y = pos 0 }
item-has-its-matrix = refl

item-has-its-rectangle : full_rect an_item ≡ record { x0 = pos 1966080; y0 = pos 0; x1 = pos 3276800; y1 = pos 655360 }
item-has-its-rectangle = refl
