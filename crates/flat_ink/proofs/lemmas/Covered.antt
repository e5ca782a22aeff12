-- What lies below a pixel that an item covers.
use Rattle.std.proofs.Common.{ℕ, ℤ, ◌<◌, ◌≡◌, ◌≤ℤ◌, ◌<ℤ◌, Bool, true, false, int_lt, int_le, if◌then◌else◌, ap, ◌∙◌, sym, subst, List, arith}
use Rattle.std.specs.Prelude.{slice_index}
use Rattle.std.proofs.lemmas.Int.{ints}
use Rattle.flat_base.proofs.lemmas.Tests.{and-left, and-right, and-true}
use Rattle.flat_drawable.specs.Drawable.{IsDrawable, full_rect}
use Rattle.flat_geom.specs.Rectangles.{is_between}
use Rattle.flat_scene.specs.declared.calls.BlendMode.{BlendMode}
use Rattle.flat_scene.specs.declared.frames.DrawItem.{DrawItem}
use Rattle.flat_scene.specs.declared.frames.Paint.{Paint}
use Rattle.flat_scene.specs.declared.frames.Paint.TheVariants.{Fill}
use Rattle.flat_ink.specs.Areas.{has_pixel}
use Rattle.flat_ink.specs.Channels.{channel_painted}
use Rattle.flat_ink.specs.Colours.{texel_of, laid}
use Rattle.flat_ink.specs.Inks.{tone, mix_of, mixed}
use Rattle.flat_ink.specs.Pixels.{centre, covers, along_x, along_y, column_axis, buffer_column, buffer_row, paint_colour}
use Rattle.flat_ink.specs.Textures.{IsBelow, IsTextureOf}
use Rattle.flat_ink.specs.declared.area.Area.{Area}
use Rattle.flat_ink.specs.declared.axis.Axis.{Axis}
use Rattle.flat_ink.specs.declared.texture.Texture.{Texture}
use Rattle.flat_ink.proofs.lemmas.Bounds.{int-le, int-lt}
use Rattle.flat_ink.proofs.lemmas.Ranges.{among}
use Rattle.flat_ink.proofs.lemmas.Tables.{tone-mixed}

lt-int : (a b : ℤ) → a <ℤ b → int_lt a b ≡ true
lt-int a b h = grind (arith, ints)

le-int : (a b : ℤ) → a ≤ℤ b → int_le a b ≡ true
le-int a b h = grind (arith, ints)

-- what is between inner bounds is between outer ones
wider : (low from to high c : ℤ) → low ≤ℤ from → to ≤ℤ high → is_between from to c ≡ true → is_between low high c ≡ true
wider low from to high c h k b =
    let above : from ≤ℤ c = int-le _ _ (and-left _ _ b) in
    let below : c <ℤ to = int-lt _ _ (and-right (int_le from c) _ b) in
    and-true (le-int low c (omega (arith, ints))) (lt-int c high (omega (arith, ints)))

pub lies-across : (item : DrawItem) (px py : ℕ) → IsDrawable item → covers item px py ≡ true
    → is_between (full_rect item).x0 (full_rect item).x1 (centre px) ≡ true
lies-across item px py d h = wider _ _ _ _ _ d.visible.x0 d.visible.x1 (and-left _ _ h)

pub lies-down : (item : DrawItem) (px py : ℕ) → IsDrawable item → covers item px py ≡ true
    → is_between (full_rect item).y0 (full_rect item).y1 (centre py) ≡ true
lies-down item px py d h = wider _ _ _ _ _ d.visible.y0 d.visible.y1 (and-right (is_between item.visible.x0 item.visible.x1 (centre px)) _ h)

on-choice : (a b : Bool) (u v x y : Axis) (p : ℕ) → a ≡ b → u ≡ (if b then y else x) → v ≡ (if b then x else y) → is_between x.low x.high (centre p) ≡ true
    → is_between (if a then v else u).low (if a then v else u).high (centre p) ≡ true
on-choice a b u v x y p s e f h =
    subst (λ (w : Bool). is_between (if w then v else u).low (if w then v else u).high (centre p) ≡ true) (sym s) (by_choice b e f) where
      by_choice : (c : Bool) → u ≡ (if c then y else x) → v ≡ (if c then x else y)
          → is_between (if c then v else u).low (if c then v else u).high (centre p) ≡ true
      by_choice true g k = subst (λ (w : Axis). is_between w.low w.high (centre p) ≡ true) (sym k) h
      by_choice false g k = subst (λ (w : Axis). is_between w.low w.high (centre p) ≡ true) (sym g) h

-- so the texture that is made of an item lies below each pixel that the item covers
on-across : (item : DrawItem) (texture : Texture) → IsTextureOf item texture → IsDrawable item → (px py : ℕ) → covers item px py ≡ true
    → is_between (if texture.swap then texture.rows else texture.columns).low (if texture.swap then texture.rows else texture.columns).high (centre px) ≡ true
on-across item texture t d px py h =
    on-choice texture.swap item.matrix.swap texture.columns texture.rows (along_x item) (along_y item) px t.swap t.columns t.rows (lies-across item px py d h)

on-down : (item : DrawItem) (texture : Texture) → IsTextureOf item texture → IsDrawable item → (px py : ℕ) → covers item px py ≡ true
    → is_between (if texture.swap then texture.columns else texture.rows).low (if texture.swap then texture.columns else texture.rows).high (centre py) ≡ true
on-down item texture t d px py h =
    on-choice texture.swap item.matrix.swap texture.rows texture.columns (along_y item) (along_x item) py t.swap t.rows t.columns (lies-down item px py d h)

-- and below the columns and rows of an area that the item covers
pub texture-below : (item : DrawItem) (texture : Texture) (cut : Area) → IsTextureOf item texture → IsDrawable item → cut.x0 < cut.x1 → cut.y0 < cut.y1
    → ((px py : ℕ) → has_pixel cut px py ≡ true → covers item px py ≡ true) → IsBelow texture cut
texture-below item texture cut t d columns rows covered = record {
  across = λ px low high. on-across item texture t d px cut.y0
      (covered px cut.y0 (and-true (among cut.x0 cut.x1 px low high) (among cut.y0 cut.y1 cut.y0 (omega arith) rows)));
  down = λ py low high. on-down item texture t d cut.x0 py
      (covered cut.x0 py (and-true (among cut.x0 cut.x1 cut.x0 (omega arith) columns) (among cut.y0 cut.y1 py low high)));
}

-- the texture that is made of an item has its colours
pub texture-paint : (item : DrawItem) (t : Texture) (px py : ℕ) → IsTextureOf item t
    → texel_of t.buffers t.index (buffer_column t.columns t.sample t.flip (if t.swap then py else px))
    (buffer_row t.rows t.sample t.flip (if t.swap then px else py)) ≡ paint_colour item item.paint px py
texture-paint item t px py is =
    ap (λ (b : ℕ). texel_of b t.index (buffer_column t.columns t.sample t.flip (if t.swap then py else px))
    (buffer_row t.rows t.sample t.flip (if t.swap then px else py))) (sym is.number)
    ∙ ap (λ (s : Bool). texel_of is.buffers.0 t.index (buffer_column t.columns t.sample t.flip (if s then py else px))
    (buffer_row t.rows t.sample t.flip (if s then px else py))) is.swap
    ∙ ap (λ (a : Axis). texel_of is.buffers.0 t.index (buffer_column a t.sample t.flip (if item.matrix.swap then py else px))
    (buffer_row t.rows t.sample t.flip (if item.matrix.swap then px else py))) is.columns
    ∙ ap (λ (a : Axis). texel_of is.buffers.0 t.index (buffer_column (column_axis item) t.sample t.flip (if item.matrix.swap then py else px))
    (buffer_row a t.sample t.flip (if item.matrix.swap then px else py))) is.rows
    ∙ ap (λ (p : Paint). paint_colour item p px py) (sym is.paint)

-- a channel of an image's pixel is the texture's, toned and mixed
pub texture-ink : (c : ℕ) (item : DrawItem) (t : Texture) (px py old shade s : ℕ) → IsTextureOf item t
    → shade ≡ tone t.blend t.opacity s
    → s ≡ slice_index (texel_of t.buffers t.index (buffer_column t.columns t.sample t.flip (if t.swap then py else px))
    (buffer_row t.rows t.sample t.flip (if t.swap then px else py))) c
    → mixed (mix_of item.blend item.opacity 255) shade old ≡ channel_painted c item px py old
unfolding channel_painted
texture-ink c item t px py old shade s is toned e =
    let colour : List ℕ = paint_colour item item.paint px py in
    let all : texel_of t.buffers t.index (buffer_column t.columns t.sample t.flip (if t.swap then py else px))
    (buffer_row t.rows t.sample t.flip (if t.swap then px else py)) ≡ colour = texture-paint item t px py is in
    let alpha : 255 ≡ slice_index colour 3 = ap (λ (rgba : List ℕ). slice_index rgba 3) all in
    let channel : s ≡ slice_index colour c = e ∙ ap (λ (rgba : List ℕ). slice_index rgba c) all in
    ap (λ (n : ℕ). mixed (mix_of item.blend item.opacity 255) n old)
    (toned ∙ ap (λ (b : BlendMode). tone b t.opacity s) is.blend ∙ ap (λ (o : ℕ). tone item.blend o s) is.opacity)
    ∙ tone-mixed item.blend item.opacity 255 s old
    ∙ ap (λ (n : ℕ). laid item.blend item.opacity n s old) alpha
    ∙ ap (λ (n : ℕ). laid item.blend item.opacity (slice_index colour 3) n old) channel

-- a channel of a fill, toned and mixed
pub fill-ink : (c : ℕ) (item : DrawItem) (rgba : List ℕ) (px py old : ℕ) → item.paint ≡ Fill rgba
    → mixed (mix_of item.blend item.opacity (slice_index rgba 3)) (tone item.blend item.opacity (slice_index rgba c)) old ≡ channel_painted c item px py old
unfolding channel_painted
fill-ink c item rgba px py old e =
    tone-mixed item.blend item.opacity (slice_index rgba 3) (slice_index rgba c) old
    ∙ sym (ap (λ (p : Paint). laid item.blend item.opacity (slice_index (paint_colour item p px py) 3) (slice_index (paint_colour item p px py) c) old) e)
