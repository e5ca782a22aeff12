-- Pixels side by side, which lie in parts side by side where each part is one unit wide.
use Rattle.std.proofs.Common.{ℕ, ℤ, pos, ◌+◌, ◌*◌, ◌/◌, ◌%◌, ◌-◌, ◌<◌, ◌≡◌, ◌-ℤ◌, ◌<ℤ◌, ◌≤ℤ◌, Bool, true, false, not, int_lt, int_le, unsigned_abs}
use Rattle.std.proofs.Common.{if◌then◌else◌, refl, ap, ◌∙◌, sym, List, length, get_or, arith}
use Rattle.std.proofs.lemmas.Int.{ints}
use Rattle.flat_base.proofs.lemmas.Tests.{and-left, and-right}
use Rattle.flat_base.specs.declared.shapes.IntRect.{IntRect}
use Rattle.flat_geom.specs.Rectangles.{is_between}
use Rattle.flat_scene.specs.declared.calls.BlendMode.{BlendMode}
use Rattle.flat_scene.specs.declared.calls.ImageFlip.{ImageFlip}
use Rattle.flat_scene.specs.declared.calls.ImageFlip.TheVariants.{Plain, LeftRight, UpDown}
use Rattle.flat_ink.specs.Colours.{red_at, green_at}
use Rattle.flat_ink.specs.Inks.{tone}
use Rattle.flat_ink.specs.Pixels.{centre, depth, part_of, buffer_column, buffer_row}
use Rattle.flat_ink.specs.Textures.{rises_across, rises_down, stride_of, IsTable}
use Rattle.flat_ink.specs.declared.axis.Axis.{Axis}
use Rattle.flat_ink.proofs.lemmas.Bounds.{int-le, int-lt, depth-below, part-below, wide-part}

-- from a pixel to the one that is i further on, a number rises by i, or falls by it
abbrev pub IsStep : Bool → ℕ → ℕ → ℕ → Type 0
IsStep true from to i = to ≡ from + i
IsStep false from to i = to + i ≡ from

deeper : (low : ℤ) (p i : ℕ) → low ≤ℤ centre p → unsigned_abs (centre (p + i) -ℤ low) ≡ unsigned_abs (centre p -ℤ low) + 65536 * i
deeper low p i h = omega (arith, ints)

less-deep : (high : ℤ) (p i : ℕ) → centre (p + i) <ℤ high
    → unsigned_abs ((high -ℤ pos 1) -ℤ centre (p + i)) + 65536 * i ≡ unsigned_abs ((high -ℤ pos 1) -ℤ centre p)
less-deep high p i h = omega (arith, ints)

unit-up : (d e i : ℕ) → e ≡ d + 65536 * i → e / 65536 ≡ d / 65536 + i
unit-up d e i h = omega arith

unit-down : (d e i : ℕ) → e + 65536 * i ≡ d → e / 65536 + i ≡ d / 65536
unit-down d e i h = omega arith

turned : (b : Bool) (count m n i : ℕ) → m < count → n < count → IsStep b m n i → IsStep (not b) (count - 1 - m) (count - 1 - n) i
turned true count m n i h k s = omega arith
turned false count m n i h k s = omega arith

moved : (b : Bool) (o m n i : ℕ) → IsStep b m n i → IsStep b (o + m) (o + n) i
moved true o m n i s = omega arith
moved false o m n i s = omega arith

module _ (axis : Axis) (count p i : ℕ) (some : 0 < count) (units : unsigned_abs (axis.high -ℤ axis.low) ≡ count * 65536)
    (here : is_between axis.low axis.high (centre p) ≡ true) (there : is_between axis.low axis.high (centre (p + i)) ≡ true) where
  unit-part : (q : ℕ) → depth axis q / 65536 ≡ part_of axis count q
  unit-part q = wide-part (depth axis q) count 65536 (unsigned_abs (axis.high -ℤ axis.low)) some (omega arith) units

  by-entry : (b : Bool) (q : ℕ) → int_lt (pos 0) axis.entry ≡ b
      → depth axis q ≡ unsigned_abs (if b then centre q -ℤ axis.low else (axis.high -ℤ pos 1) -ℤ centre q)
  by-entry b q e = ap (λ (t : Bool). unsigned_abs (if t then centre q -ℤ axis.low else (axis.high -ℤ pos 1) -ℤ centre q)) e

  part-step : (b : Bool) → int_lt (pos 0) axis.entry ≡ b → IsStep b (part_of axis count p) (part_of axis count (p + i)) i
  part-step true e =
      let low : axis.low ≤ℤ centre p = int-le axis.low (centre p) (and-left _ _ here) in
      let all : depth axis (p + i) ≡ depth axis p + 65536 * i =
      by-entry true (p + i) e ∙ deeper axis.low p i low ∙ ap (λ (n : ℕ). n + 65536 * i) (sym (by-entry true p e)) in
      sym (unit-part (p + i)) ∙ unit-up (depth axis p) (depth axis (p + i)) i all ∙ ap (λ (n : ℕ). n + i) (unit-part p)
  part-step false e =
      let high : centre (p + i) <ℤ axis.high = int-lt (centre (p + i)) axis.high (and-right (int_le axis.low (centre (p + i))) _ there) in
      let all : depth axis (p + i) + 65536 * i ≡ depth axis p =
      ap (λ (n : ℕ). n + 65536 * i) (by-entry false (p + i) e) ∙ less-deep axis.high p i high ∙ sym (by-entry false p e) in
      ap (λ (n : ℕ). n + i) (sym (unit-part (p + i))) ∙ unit-down (depth axis p) (depth axis (p + i)) i all ∙ unit-part p

  low-part : part_of axis count p < count
  low-part = part-below (depth axis p) count (unsigned_abs (axis.high -ℤ axis.low)) (depth-below axis p here) some

  high-part : part_of axis count (p + i) < count
  high-part = part-below (depth axis (p + i)) count (unsigned_abs (axis.high -ℤ axis.low)) (depth-below axis (p + i) there) some

  pub kept-step : IsStep (int_lt (pos 0) axis.entry) (part_of axis count p) (part_of axis count (p + i)) i
  kept-step = part-step (int_lt (pos 0) axis.entry) refl

  pub turned-step : IsStep (not (int_lt (pos 0) axis.entry)) (count - 1 - part_of axis count p) (count - 1 - part_of axis count (p + i)) i
  turned-step = turned (int_lt (pos 0) axis.entry) count (part_of axis count p) (part_of axis count (p + i)) i low-part high-part kept-step

module _ (axis : Axis) (sample : IntRect) (p i : ℕ) (here : is_between axis.low axis.high (centre p) ≡ true)
    (there : is_between axis.low axis.high (centre (p + i)) ≡ true) where
  pub column-step : (flip : ImageFlip) → 0 < unsigned_abs sample.w → unsigned_abs (axis.high -ℤ axis.low) ≡ unsigned_abs sample.w * 65536
      → IsStep (rises_across axis flip) (buffer_column axis sample flip p) (buffer_column axis sample flip (p + i)) i
  column-step Plain some units = moved (int_lt (pos 0) axis.entry) (unsigned_abs sample.x) _ _ i
      (kept-step axis (unsigned_abs sample.w) p i some units here there)
  column-step LeftRight some units = moved (not (int_lt (pos 0) axis.entry)) (unsigned_abs sample.x) _ _ i
      (turned-step axis (unsigned_abs sample.w) p i some units here there)
  column-step UpDown some units = moved (int_lt (pos 0) axis.entry) (unsigned_abs sample.x) _ _ i
      (kept-step axis (unsigned_abs sample.w) p i some units here there)

  pub row-down : (flip : ImageFlip) → 0 < unsigned_abs sample.h → unsigned_abs (axis.high -ℤ axis.low) ≡ unsigned_abs sample.h * 65536
      → IsStep (rises_down axis flip) (buffer_row axis sample flip p) (buffer_row axis sample flip (p + i)) i
  row-down Plain some units = moved (int_lt (pos 0) axis.entry) (unsigned_abs sample.y) _ _ i (kept-step axis (unsigned_abs sample.h) p i some units here there)
  row-down LeftRight some units = moved (int_lt (pos 0) axis.entry) (unsigned_abs sample.y) _ _ i
      (kept-step axis (unsigned_abs sample.h) p i some units here there)
  row-down UpDown some units = moved (not (int_lt (pos 0) axis.entry)) (unsigned_abs sample.y) _ _ i
      (turned-step axis (unsigned_abs sample.h) p i some units here there)

-- the colours of the pattern at such a step
pub red-step : (b : Bool) (index from to i : ℕ) → IsStep b from to i → (red_at index from + stride_of b * i) % 256 ≡ red_at index to
red-step true index from to i s = omega arith
red-step false index from to i s = omega arith

pub green-step : (b : Bool) (from to i : ℕ) → IsStep b from to i → (green_at from + stride_of b * i) % 256 ≡ green_at to
green-step true from to i s = omega arith
green-step false from to i s = omega arith

-- a table of what grows by one stride
pub stride-table : (blend : BlendMode) (opacity first stride from upto : ℕ) (raw : ℕ → ℕ) (table : List ℕ) → length table ≡ 64
    → ((i : ℕ) → i < upto - from → get_or table i 0 ≡ tone blend opacity ((first + stride * i) % 256))
    → ((i : ℕ) → from + i < upto → (first + stride * i) % 256 ≡ raw (from + i))
    → IsTable (λ p. tone blend opacity (raw p)) from upto table
stride-table blend opacity first stride from upto raw table size grows is = record {
  size = size;
  values = λ i small. grows i (omega arith) ∙ ap (tone blend opacity) (is i small);
}
