-- What an item lays on each channel.
use Rattle.std.proofs.Common.{ℕ, ◌-◌, ◌≡◌, ap, ◌∙◌, sym, subst, true, if◌then◌else◌, List}
use Rattle.std.specs.Prelude.{slice_index}
use Rattle.flat_drawable.specs.Drawable.{HasSample, IsDrawable, IsSample}
use Rattle.flat_scene.specs.declared.frames.DrawItem.{DrawItem}
use Rattle.flat_scene.specs.declared.frames.Paint.{Paint}
use Rattle.flat_scene.specs.declared.frames.Paint.TheVariants.{Fill}
use Rattle.flat_ink.specs.Areas.{has_pixel}
use Rattle.flat_ink.specs.Colours.{texel_of}
use Rattle.flat_ink.specs.Inks.{tone, mix_of, mixed, shade_at, IsShade, IsInk}
use Rattle.flat_ink.specs.Pixels.{buffer_column, buffer_row}
use Rattle.flat_ink.specs.Textures.{IsTextureOf}
use Rattle.flat_ink.specs.declared.area.Area.{Area}
use Rattle.flat_ink.specs.declared.channel_ink.ChannelInk.{ChannelInk}
use Rattle.flat_ink.specs.declared.channel_ink.BlendRule.{BlendRule}
use Rattle.flat_ink.specs.declared.channel_ink.ChannelValues.{ChannelValues}
use Rattle.flat_ink.specs.declared.channel_ink.ChannelValues.TheVariants.{Even}
use Rattle.flat_ink.specs.declared.texture.Texture.{Texture}
use Rattle.flat_ink.proofs.lemmas.Covered.{fill-ink, texture-ink}

-- a channel of a fill
pub even-ink : (c : ℕ) (item : DrawItem) (rgba : List ℕ) (mix : BlendRule) (ink : ChannelInk) (cut : Area) → item.paint ≡ Fill rgba
    → mix ≡ mix_of item.blend item.opacity (slice_index rgba 3)
    → ink ≡ record { shade = Even (tone item.blend item.opacity (slice_index rgba c)); mix = mix } → IsInk c item cut ink
even-ink c item rgba mix ink cut fill mixes e =
    subst (λ (i : ChannelInk). IsInk c item cut i) (sym e) (record {
      shade = tt;
      paints = λ px py old has. ap (λ (m : BlendRule). mixed m (tone item.blend item.opacity (slice_index rgba c)) old) mixes ∙ fill-ink c item rgba px py old
          fill;
    })

-- a channel of an image
pub shade-ink : (c : ℕ) (item : DrawItem) (t : Texture) (cut : Area) (shade : ChannelValues) (mix : BlendRule) (s : ℕ → ℕ → ℕ) → IsTextureOf item t
    → IsShade shade
    → mix ≡ mix_of item.blend item.opacity 255
    → ((px py : ℕ) → has_pixel cut px py ≡ true → shade_at shade (px - cut.x0) (py - cut.y0) ≡ tone t.blend t.opacity (s px py))
    → ((px py : ℕ) → s px py
    ≡ slice_index (texel_of t.buffers t.index (buffer_column t.columns t.sample t.flip (if t.swap then py else px))
    (buffer_row t.rows t.sample t.flip (if t.swap then px else py))) c)
    → IsInk c item cut (record { shade = shade; mix = mix })
shade-ink c item t cut shade mix s is whole mixes values texels = record {
  shade = whole;
  paints = λ px py old has.
      ap (λ (m : BlendRule). mixed m (shade_at shade (px - cut.x0) (py - cut.y0)) old) mixes
      ∙ texture-ink c item t px py old (shade_at shade (px - cut.x0) (py - cut.y0)) (s px py) is (values px py has) (texels px py);
}

-- the sample of a texture is that of its item
pub texture-sample : (item : DrawItem) (t : Texture) → IsTextureOf item t → IsDrawable item → IsSample t.sample
texture-sample item t is d = subst (λ (p : Paint). HasSample p) is.paint d.sample
