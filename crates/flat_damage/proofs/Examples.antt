-- The definitions, computed.
use Rattle.std.proofs.Common.{ℕ, ◌+◌, ◌*◌, ◌≡◌, refl, false, List, [], ◌∷◌, arith}
use Rattle.std.specs.Prelude.{pos}
use Rattle.flat_base.specs.declared.shapes.Rect.{Rect}
use Rattle.flat_scene.specs.declared.calls.BlendMode.TheVariants.{Src}
use Rattle.flat_scene.specs.declared.frames.DrawItem.{DrawItem}
use Rattle.flat_scene.specs.declared.frames.Paint.TheVariants.{Fill}
use Rattle.flat_damage.specs.Damage.{IsCommonPrefix, IsDamage, left_of, visible_rects, joined, hull, bounded}

-- a rectangle of ten units that stands so many units to the right
abbrev rect : ℕ → Rect
rect x = record { x0 = pos (x * 65536); y0 = pos 0; x1 = pos ((x + 10) * 65536); y1 = pos 655360 }

abbrev item : ℕ → DrawItem
item x = record {
  session = record { 0 = 1 };
  serial = 1;
  paint = Fill (255 ∷ 0 ∷ 0 ∷ 255 ∷ []);
  w = 10;
  h = 10;
  matrix = record { swap = false; a = pos 65536; b = pos 65536; x = pos (x * 65536); y = pos 0 };
  visible = rect x;
  opacity = 65536;
  blend = Src;
}

seen : visible_rects (item 0 ∷ item 20 ∷ []) ≡ rect 0 ∷ rect 20 ∷ []
seen = refl

left : left_of 1 2 (item 0 ∷ item 20 ∷ item 40 ∷ item 60 ∷ []) ≡ item 20 ∷ []
left = refl

both : joined (rect 0) (rect 20) ≡ record { x0 = pos 0; y0 = pos 0; x1 = pos 1966080; y1 = pos 655360 }
both = refl

all : hull (rect 40 ∷ rect 0 ∷ rect 20 ∷ []) ≡ record { x0 = pos 0; y0 = pos 0; x1 = pos 3276800; y1 = pos 655360 }
all = refl

abbrev sixteen : List Rect
sixteen = rect 0 ∷ rect 1 ∷ rect 2 ∷ rect 3 ∷ rect 4 ∷ rect 5 ∷ rect 6 ∷ rect 7 ∷ rect 8 ∷ rect 9 ∷ rect 10 ∷ rect 11 ∷ rect 12 ∷ rect 13 ∷ rect 14 ∷ rect 15
    ∷ []

sixteen-stay : bounded sixteen ≡ sixteen
sixteen-stay = refl

seventeen-are-one : bounded (rect 16 ∷ sixteen) ≡ record { x0 = pos 0; y0 = pos 0; x1 = pos (26 * 65536); y1 = pos 655360 } ∷ []
seventeen-are-one = refl

-- an item that stays, and one that moves
prefix : IsCommonPrefix (item 0 ∷ item 20 ∷ []) (item 0 ∷ item 40 ∷ []) 1
prefix = record { left = omega arith; right = omega arith; same = refl }

-- what comes is damaged
one-comes : IsDamage [] (item 0 ∷ []) (rect 0 ∷ [])
one-comes = record {
  before = 0;
  after = 0;
  prefix = record { holds = record { left = omega arith; right = omega arith; same = refl }; greatest = λ m h. h.left };
  suffix = record { holds = record { left = omega arith; right = omega arith; same = refl }; greatest = λ m h. h.left };
  are = refl;
}
