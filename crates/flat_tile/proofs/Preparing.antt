-- What is found once of an item, and how it is laid on the item's pixels.
use Rattle.std.proofs.Common.{ℕ, zero, suc, ◌+◌, ◌-◌, ◌*◌, ◌/◌, ◌%◌, ◌<◌, ◌≤◌, ◌≡◌, refl, ap, ◌∙◌, sym, subst, Bool, true, false, ◌&&◌, if◌then◌else◌, List, []}
use Rattle.std.proofs.Common.{◌∷◌, get_or, arith}
use Rattle.std.specs.Prelude.{slice_index}
use Rattle.std.proofs.lemmas.Int.{ints}
use Rattle.flat_base.proofs.lemmas.Tests.{and-left, and-right, and-true}
use Rattle.flat_drawable.specs.Drawable.{IsDrawable, IsSample}
use Rattle.flat_geom.specs.Rectangles.{is_between}
use Rattle.flat_scene.specs.declared.calls.BlendMode.{BlendMode}
use Rattle.flat_scene.specs.declared.calls.BlendMode.TheVariants.{Src, SrcOver}
use Rattle.flat_scene.specs.declared.frames.DrawItem.{DrawItem}
use Rattle.flat_scene.specs.declared.frames.Paint.TheVariants.{Fill}
use Rattle.flat_ink.specs.Areas.{has_pixel, IsInArea, IsWindow}
use Rattle.flat_ink.specs.Channels.{channel_painted, channel_step}
use Rattle.flat_ink.specs.Colours.{red_at, green_at, blue_at}
use Rattle.flat_ink.specs.Inks.{tone, mix_of, mixed}
use Rattle.flat_ink.specs.Pixels.{centre, covers, buffer_column, buffer_row}
use Rattle.flat_tile.specs.Preparing.{stamped, toned, Paints, AreTonesOf, IsAreaOf, IsPrepared}
use Rattle.flat_ink.specs.Textures.{rises_across, rises_down, stride_of, IsBelow, IsPlain, IsTextureOf}
use Rattle.flat_ink.specs.declared.area.Area.{Area}
use Rattle.flat_ink.specs.declared.channel_ink.BlendRule.{BlendRule}
use Rattle.flat_ink.specs.declared.channel_ink.BlendRule.TheVariants.{Replace}
use Rattle.flat_tile.specs.declared.prepared_item.ChannelRamps.{ChannelRamps}
use Rattle.flat_tile.specs.declared.prepared_item.ItemChannels.{ItemChannels}
use Rattle.flat_tile.specs.declared.prepared_item.ItemChannels.TheVariants.{Even, Stepped}
use Rattle.flat_ink.specs.declared.texture.Texture.{Texture}
use Rattle.flat_ink.proofs.lemmas.Brushing.{texture-sample}
use Rattle.flat_ink.proofs.lemmas.Covered.{fill-ink, texture-below, texture-ink}
use Rattle.flat_tile.proofs.Cuts.{cut-painted}
use Rattle.flat_ink.proofs.lemmas.Ranges.{among}
use Rattle.flat_tile.proofs.lemmas.Planes.{which-channel}
use Rattle.flat_ink.proofs.lemmas.Steps.{column-step, row-down, red-step, green-step}
use Rattle.flat_ink.proofs.lemmas.Windows.{pixel-left, pixel-right, pixel-top, pixel-bottom}

-- a pixel of an area is one of an area around it
pub wider-area : (outer inner : Area) (px py : ℕ) → IsInArea outer inner → has_pixel inner px py ≡ true → has_pixel outer px py ≡ true
wider-area outer inner px py is has =
    and-true (among outer.x0 outer.x1 px (omega (arith, is.x0, pixel-left inner px py has)) (omega (arith, is.x1, pixel-right inner px py has)))
    (among outer.y0 outer.y1 py (omega (arith, is.y0, pixel-top inner px py has)) (omega (arith, is.y1, pixel-bottom inner px py has)))

-- the texture of an image lies below the area that its item covers
pub area-below : (item : DrawItem) (t : Texture) (area : Area) → IsTextureOf item t → IsDrawable item → IsAreaOf item area → IsWindow area → IsBelow t area
area-below item t area is d covered some =
    texture-below item t area is d some.columns some.rows
    (λ px py has.
    sym (covered px py (omega (arith, pixel-right area px py has, some.right)) (omega (arith, pixel-bottom area px py has, some.bottom))) ∙ has)

-- a plain one
module _ (item : DrawItem) (t : Texture) (area : Area) (steps : ChannelRamps) (is : IsTextureOf item t) (d : IsDrawable item) (covered : IsAreaOf item area)
    (some : IsWindow area) (plain : IsPlain t) where
  below : IsBelow t area
  below = area-below item t area is d covered some

  on-columns : (px : ℕ) → area.x0 ≤ px → px < area.x1 → is_between t.columns.low t.columns.high (centre px) ≡ true
  on-columns px low high =
      subst (λ (b : Bool). is_between (if b then t.rows else t.columns).low (if b then t.rows else t.columns).high (centre px) ≡ true) plain.straight
      (below.across px low high)

  on-rows : (py : ℕ) → area.y0 ≤ py → py < area.y1 → is_between t.rows.low t.rows.high (centre py) ≡ true
  on-rows py low high =
      subst (λ (b : Bool). is_between (if b then t.columns else t.rows).low (if b then t.columns else t.rows).high (centre py) ≡ true) plain.straight
      (below.down py low high)

  sample : IsSample t.sample
  sample = texture-sample item t is d

  red-value : (px py : ℕ) → has_pixel area px py ≡ true → steps.red ≡ red_at t.index (buffer_column t.columns t.sample t.flip area.x0)
      → steps.rises ≡ rises_across t.columns t.flip
      → (steps.red + stride_of steps.rises * (px - area.x0)) % 256 ≡ red_at t.index (buffer_column t.columns t.sample t.flip (if t.swap then py else px))
  red-value px py has red rises =
      let low : area.x0 ≤ px = pixel-left area px py has in
      let at : area.x0 + (px - area.x0) ≡ px = omega arith in
      let there : area.x0 + (px - area.x0) < area.x1 = omega (arith, pixel-right area px py has) in
      ap (λ (n : ℕ). (n + stride_of steps.rises * (px - area.x0)) % 256) red
      ∙ ap (λ (b : Bool). (red_at t.index (buffer_column t.columns t.sample t.flip area.x0) + stride_of b * (px - area.x0)) % 256) rises
      ∙ red-step (rises_across t.columns t.flip) t.index _ _ (px - area.x0)
      (column-step t.columns t.sample area.x0 (px - area.x0) (on-columns area.x0 (omega arith) some.columns)
      (on-columns (area.x0 + (px - area.x0)) (omega arith) there) t.flip (omega (arith, ints, sample.w)) plain.columns)
      ∙ ap (λ (p : ℕ). red_at t.index (buffer_column t.columns t.sample t.flip p)) at
      ∙ sym (ap (λ (b : Bool). red_at t.index (buffer_column t.columns t.sample t.flip (if b then py else px))) plain.straight)

  green-value : (px py : ℕ) → has_pixel area px py ≡ true → steps.green ≡ green_at (buffer_row t.rows t.sample t.flip area.y0)
      → steps.sinks ≡ rises_down t.rows t.flip
      → (steps.green + stride_of steps.sinks * (py - area.y0)) % 256 ≡ green_at (buffer_row t.rows t.sample t.flip (if t.swap then px else py))
  green-value px py has green sinks =
      let low : area.y0 ≤ py = pixel-top area px py has in
      let at : area.y0 + (py - area.y0) ≡ py = omega arith in
      let there : area.y0 + (py - area.y0) < area.y1 = omega (arith, pixel-bottom area px py has) in
      ap (λ (n : ℕ). (n + stride_of steps.sinks * (py - area.y0)) % 256) green
      ∙ ap (λ (b : Bool). (green_at (buffer_row t.rows t.sample t.flip area.y0) + stride_of b * (py - area.y0)) % 256) sinks
      ∙ green-step (rises_down t.rows t.flip) _ _ (py - area.y0)
      (row-down t.rows t.sample area.y0 (py - area.y0) (on-rows area.y0 (omega arith) some.rows) (on-rows (area.y0 + (py - area.y0)) (omega arith) there) t.flip
      (omega (arith, ints, sample.h)) plain.rows)
      ∙ ap (λ (p : ℕ). green_at (buffer_row t.rows t.sample t.flip p)) at
      ∙ sym (ap (λ (b : Bool). green_at (buffer_row t.rows t.sample t.flip (if b then px else py))) plain.straight)

  -- its steps give each pixel what the item gives it
  pub steps-paint : steps.red ≡ red_at t.index (buffer_column t.columns t.sample t.flip area.x0) → steps.rises ≡ rises_across t.columns t.flip
      → steps.green ≡ green_at (buffer_row t.rows t.sample t.flip area.y0) → steps.sinks ≡ rises_down t.rows t.flip
      → steps.blue ≡ blue_at t.buffers → Paints item (mix_of item.blend item.opacity 255) area (Stepped steps)
  steps-paint red rises green sinks blue = by_channel where
    by_channel : Paints item (mix_of item.blend item.opacity 255) area (Stepped steps)
    by_channel zero px py old small has = texture-ink 0 item t px py old _ _ is (red-value px py has red rises ∙ sym (plain.full _)) refl
    by_channel (suc zero) px py old small has = texture-ink 1 item t px py old _ _ is (green-value px py has green sinks ∙ sym (plain.full _)) refl
    by_channel (suc (suc zero)) px py old small has = texture-ink 2 item t px py old _ _ is (blue ∙ sym (plain.full _)) refl
    by_channel (suc (suc (suc c))) px py old small has = absurd (omega arith)

-- the tones of a fill do
pub fill-paint : (item : DrawItem) (rgba : List ℕ) (area : Area) (red green blue : ℕ) → item.paint ≡ Fill rgba
    → red ≡ tone item.blend item.opacity (slice_index rgba 0) → green ≡ tone item.blend item.opacity (slice_index rgba 1)
    → blue ≡ tone item.blend item.opacity (slice_index rgba 2)
    → Paints item (mix_of item.blend item.opacity (slice_index rgba 3)) area (Even (red ∷ green ∷ blue ∷ []))
fill-paint item rgba area red green blue fill r g b = by_channel where
  by_channel : Paints item (mix_of item.blend item.opacity (slice_index rgba 3)) area (Even (red ∷ green ∷ blue ∷ []))
  by_channel zero px py old small has = ap (λ (n : ℕ). mixed (mix_of item.blend item.opacity (slice_index rgba 3)) n old) r
      ∙ fill-ink 0 item rgba px py old fill
  by_channel (suc zero) px py old small has = ap (λ (n : ℕ). mixed (mix_of item.blend item.opacity (slice_index rgba 3)) n old) g
      ∙ fill-ink 1 item rgba px py old fill
  by_channel (suc (suc zero)) px py old small has = ap (λ (n : ℕ). mixed (mix_of item.blend item.opacity (slice_index rgba 3)) n old) b
      ∙ fill-ink 2 item rgba px py old fill
  by_channel (suc (suc (suc c))) px py old small has = absurd (omega arith)

-- what replaces what is there has that blend mode
replaces-src : (blend : BlendMode) (opacity alpha : ℕ) → mix_of blend opacity alpha ≡ Replace → blend ≡ Src
replaces-src Src opacity alpha e = refl
replaces-src SrcOver opacity alpha e = absurd (cc)

pub is-prepared : (item : DrawItem) (area : Area) (mix : BlendRule) (tones : ItemChannels) (alpha : ℕ) → IsAreaOf item area
    → mix ≡ mix_of item.blend item.opacity alpha
    → AreTonesOf item (mix_of item.blend item.opacity alpha) area tones → IsPrepared item (record { area = area; mix = mix; tones = tones })
is-prepared item area mix tones alpha covered mixes are = record {
  area = covered;
  replaces = λ e. replaces-src item.blend item.opacity alpha (sym mixes ∙ e);
  tones = subst (λ (m : BlendRule). AreTonesOf item m area tones) (sym mixes) are;
}

-- a byte, laid channel by channel
pub by-channels : (s m : ℕ) (b : Bool) (F : ℕ → ℕ → ℕ) (was one two now : ℕ) → 0 < s → m < 3 * s
    → (m / s ≡ 0 → one ≡ (if b then F 0 was else was)) → ((m / s ≡ 0 → ⊥) → one ≡ was)
    → (m / s ≡ 1 → two ≡ (if b then F 1 one else one)) → ((m / s ≡ 1 → ⊥) → two ≡ one)
    → (m / s ≡ 2 → now ≡ (if b then F 2 two else two)) → ((m / s ≡ 2 → ⊥) → now ≡ two)
    → now ≡ (if b then F (m / s) was else was)
by-channels s m b F was one two now some small red red_else green green_else blue blue_else =
    which-channel s m some small
    (λ e. blue_else (λ f. absurd (omega (arith, e, f))) ∙ green_else (λ f. absurd (omega (arith, e, f))) ∙ red e
    ∙ ap (λ (c : ℕ). if b then F c was else was) (sym e))
    (λ e. blue_else (λ f. absurd (omega (arith, e, f))) ∙ green e ∙ ap (λ (old : ℕ). if b then F 1 old else old) (red_else (λ f. absurd (omega (arith, e, f))))
    ∙ ap (λ (c : ℕ). if b then F c was else was) (sym e))
    (λ e. blue e ∙ ap (λ (old : ℕ). if b then F 2 old else old) (green_else (λ f. absurd (omega (arith, e, f))) ∙ red_else (λ f. absurd (omega (arith, e, f))))
    ∙ ap (λ (c : ℕ). if b then F c was else was) (sym e))

-- a value that is another one where a test holds
pub where-it-holds : (b : Bool) (mix : BlendRule) (v w old now : ℕ) → (b ≡ true → v ≡ w) → now ≡ (if b then mixed mix v old else old)
    → now ≡ (if b then mixed mix w old else old)
where-it-holds true mix v w old now same e = e ∙ ap (λ (n : ℕ). mixed mix n old) (same refl)
where-it-holds false mix v w old now same e = e

-- a table of what grows from a pixel on, read at a pixel behind it
pub table-step : (first stride low from p : ℕ) (table : List ℕ) → ((i : ℕ) → i < 64 → get_or table i 0 ≡ (first + stride * ((from - low) + i)) % 256)
    → low ≤ from → from ≤ p → p < from + 64 → get_or table (p - from) 0 ≡ (first + stride * (p - low)) % 256
table-step first stride low from p table values under above near =
    let at : (from - low) + (p - from) ≡ p - low = omega arith in
    values (p - from) (omega arith) ∙ ap (λ (n : ℕ). (first + stride * n) % 256) at

-- a stamp of an image's steps gives each pixel of its area its tones
pub stamp-toned : (steps : ChannelRamps) (area cut : Area) (reds greens : List ℕ)
    → ((i : ℕ) → i < 64 → get_or reds i 0 ≡ (steps.red + stride_of steps.rises * ((cut.x0 - area.x0) + i)) % 256)
    → ((i : ℕ) → i < 64 → get_or greens i 0 ≡ (steps.green + stride_of steps.sinks * ((cut.y0 - area.y0) + i)) % 256)
    → IsInArea area cut → cut.x1 ≤ cut.x0 + 64 → cut.y1 ≤ cut.y0 + 64 → (c px py : ℕ) → has_pixel cut px py ≡ true
    → stamped (record { cut = cut; reds = reds; greens = greens; blue = steps.blue }) c px py ≡ toned area (Stepped steps) c px py
stamp-toned steps area cut reds greens red green within columns rows zero px py has =
    table-step steps.red (stride_of steps.rises) area.x0 cut.x0 px reds red within.x0 (pixel-left cut px py has)
    (omega (arith, pixel-right cut px py has, columns))
stamp-toned steps area cut reds greens red green within columns rows (suc zero) px py has =
    table-step steps.green (stride_of steps.sinks) area.y0 cut.y0 py greens green within.y0 (pixel-top cut px py has)
    (omega (arith, pixel-bottom cut px py has, rows))
stamp-toned steps area cut reds greens red green within columns rows (suc (suc c)) px py has = refl

-- tones, laid on what an item covers of a window, are the item's step there
laid-step : (cut k : Bool) (painted laid old now : ℕ) → (cut ≡ true → k ≡ true) → (cut ≡ true → laid ≡ painted) → now ≡ (if cut then laid else old)
    → now ≡ (if cut then (if k then painted else old) else old)
laid-step true k painted laid old now covered same e = e ∙ same refl ∙ sym (ap (λ (b : Bool). if b then painted else old) (covered refl))
laid-step false k painted laid old now covered same e = e

pub toned-step : (item : DrawItem) (mix : BlendRule) (area window cut : Area) (tones : ItemChannels) (c px py old now : ℕ) → IsAreaOf item area
    → Paints item mix area tones
    → IsWindow window
    → ((x y : ℕ) → has_pixel cut x y ≡ (has_pixel area x y && has_pixel window x y)) → c < 3
    → now ≡ (if has_pixel cut px py then mixed mix (toned area tones c px py) old else old)
    → now ≡ (if has_pixel window px py then channel_step c item px py old else old)
toned-step item mix area window cut tones c px py old now covered paints some shared channel e =
    let both : has_pixel cut px py ≡ true → (has_pixel area px py && has_pixel window px py) ≡ true = λ has. sym (shared px py) ∙ has in
    let same : has_pixel window px py ≡ true → has_pixel area px py ≡ covers item px py =
    λ has. covered px py (omega (arith, pixel-right window px py has, some.right)) (omega (arith, pixel-bottom window px py has, some.bottom)) in
    cut-painted (has_pixel cut px py) (has_pixel area px py) (has_pixel window px py) (covers item px py) (channel_painted c item px py old) old now
    (shared px py) same
    (laid-step (has_pixel cut px py) (covers item px py) (channel_painted c item px py old) _ old now
    (λ has. sym (same (and-right (has_pixel area px py) _ (both has))) ∙ and-left _ (has_pixel window px py) (both has))
    (λ has. paints c px py old channel (and-left _ (has_pixel window px py) (both has))) e)
