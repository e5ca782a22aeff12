-- Windows: what is seen in them, and what isn't.
use Rattle.std.proofs.Common.{ℕ, ℤ, ◌-◌, ◌<◌, ◌≤◌, ◌≡◌, ◌<ℤ◌, ◌≤ℤ◌, refl, ap, ◌∙◌, sym, Bool, true, false, ◌&&◌, int_lt, int_le, if◌then◌else◌, FitsSigned, w64}
use Rattle.std.proofs.Common.{to_z, of_z, arith}
use Rattle.std.proofs.lemmas.Int.{ints, to_z-of_z}
use Rattle.std.proofs.lemmas.Bool.{false_from_ne_true}
use Rattle.flat_base.proofs.lemmas.Tests.{and-left, and-right, and-true}
use Rattle.flat_geom.specs.Rectangles.{is_between}
use Rattle.flat_scene.specs.declared.frames.DrawItem.{DrawItem}
use Rattle.flat_ink.specs.Areas.{is_among, has_pixel, IsInArea}
use Rattle.flat_ink.specs.Channels.{channel_step}
use Rattle.flat_ink.specs.Pixels.{centre, covers}
use Rattle.flat_ink.specs.declared.area.Area.{Area}
use Rattle.flat_ink.proofs.lemmas.Bounds.{int-le, int-lt}
use Rattle.flat_ink.proofs.lemmas.Ranges.{among-low, among-high}

lt-int : (a b : ℤ) → a <ℤ b → int_lt a b ≡ true
lt-int a b h = grind (arith, ints)

le-int : (a b : ℤ) → a ≤ℤ b → int_le a b ≡ true
le-int a b h = grind (arith, ints)

not-by : (a b : ℤ) → int_le a b ≡ false → b <ℤ a
not-by a b h = grind (arith, ints)

-- the bounds of a pixel of an area
pub pixel-left : (cut : Area) (px py : ℕ) → has_pixel cut px py ≡ true → cut.x0 ≤ px
pixel-left cut px py h = among-low cut.x0 cut.x1 px (and-left _ _ h)

pub pixel-right : (cut : Area) (px py : ℕ) → has_pixel cut px py ≡ true → px < cut.x1
pixel-right cut px py h = among-high cut.x0 cut.x1 px (and-left _ _ h)

pub pixel-top : (cut : Area) (px py : ℕ) → has_pixel cut px py ≡ true → cut.y0 ≤ py
pixel-top cut px py h = among-low cut.y0 cut.y1 py (and-right (is_among cut.x0 cut.x1 px) _ h)

pub pixel-bottom : (cut : Area) (px py : ℕ) → has_pixel cut px py ≡ true → py < cut.y1
pixel-bottom cut px py h = among-high cut.y0 cut.y1 py (and-right (is_among cut.x0 cut.x1 px) _ h)

-- along one axis: what ends by the first pixel's centre, and what begins after the last one's
pub ends-by : (low high : ℤ) (p from : ℕ) → int_le high (centre from) ≡ true → from ≤ p → is_between low high (centre p) ≡ false
ends-by low high p from h k =
    let ends : high ≤ℤ centre from = int-le high (centre from) h in
    false_from_ne_true _ (λ e. let below : centre p <ℤ high = int-lt (centre p) high (and-right (int_le low (centre p)) _ e) in absurd (omega (arith, ints)))

pub begins-after : (low high : ℤ) (p upto : ℕ) → int_le low (centre (upto - 1)) ≡ false → p < upto → is_between low high (centre p) ≡ false
begins-after low high p upto h k =
    let begins : centre (upto - 1) <ℤ low = not-by low (centre (upto - 1)) h in
    false_from_ne_true _ (λ e. let above : low ≤ℤ centre p = int-le low (centre p) (and-left _ _ e) in absurd (omega (arith, ints)))

-- what begins by the first one's and ends after the last one's
pub goes-across : (low high : ℤ) (p from upto : ℕ) → int_le low (centre from) ≡ true → int_le high (centre (upto - 1)) ≡ false → from ≤ p → p < upto
    → is_between low high (centre p) ≡ true
goes-across low high p from upto h k above below =
    let begins : low ≤ℤ centre from = int-le low (centre from) h in
    let ends : centre (upto - 1) <ℤ high = not-by high (centre (upto - 1)) k in
    and-true (le-int low (centre p) (omega (arith, ints))) (lt-int (centre p) high (omega (arith, ints)))

-- the same of bounds that are read back from their bits
pub read-between : (low high c : ℤ) (b : Bool) → FitsSigned w64 low → FitsSigned w64 high
    → is_between (to_z w64 (of_z w64 low)) (to_z w64 (of_z w64 high)) c ≡ b → is_between low high c ≡ b
read-between low high c b f g h =
    sym (ap (λ (z : ℤ). is_between z (to_z w64 (of_z w64 high)) c) (to_z-of_z w64 low f) ∙ ap (λ (z : ℤ). is_between low z c) (to_z-of_z w64 high g)) ∙ h

pub not-left : (a b : Bool) → a ≡ false → (a && b) ≡ false
not-left a b h = ap (λ (c : Bool). c && b) h

pub not-right : (a b : Bool) → b ≡ false → (a && b) ≡ false
not-right true b h = h
not-right false b h = refl

-- a step at a pixel that an item doesn't cover
pub step-missed : (c : ℕ) (item : DrawItem) (b : Bool) (px py was : ℕ) → (b ≡ true → covers item px py ≡ false)
    → was ≡ (if b then channel_step c item px py was else was)
step-missed c item true px py was h = sym (step-none c item px py was (h refl)) where
  step-none : (c : ℕ) (item : DrawItem) (px py was : ℕ) → covers item px py ≡ false → channel_step c item px py was ≡ was
  step-none c item px py was e = rw e refl
step-missed c item false px py was h = refl

-- a step where an item covers a window, and so where it is in the window
pub step-in-window : (cut window covered : Bool) (stepped was now : ℕ) (painted : ℕ) → cut ≡ (covered && window) → stepped ≡ (if covered then painted else was)
    → now ≡ (if cut then stepped else was) → now ≡ (if window then stepped else was)
step-in-window cut true true stepped was now painted e s h = h ∙ ap (λ (b : Bool). if b then stepped else was) e
step-in-window cut true false stepped was now painted e s h = h ∙ ap (λ (b : Bool). if b then stepped else was) e ∙ sym s
step-in-window cut false true stepped was now painted e s h = h ∙ ap (λ (b : Bool). if b then stepped else was) e
step-in-window cut false false stepped was now painted e s h = h ∙ ap (λ (b : Bool). if b then stepped else was) e

-- areas in areas
pub in-area : (a b c : Area) → IsInArea a b → IsInArea b c → IsInArea a c
in-area a b c h k = record {
  x0 = omega (arith, h.x0, k.x0);
  y0 = omega (arith, h.y0, k.y0);
  x1 = omega (arith, h.x1, k.x1);
  y1 = omega (arith, h.y1, k.y1);
}
