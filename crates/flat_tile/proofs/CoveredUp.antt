-- Items that are hidden.
use Rattle.std.proofs.Common.{ℕ, ◌+◌, ◌<◌, ◌≡◌, ap, ◌∙◌, sym, Bool, true, if◌then◌else◌, List, length, get_or, take, drop}
use Rattle.std.specs.Prelude.{fold}
use Rattle.std.proofs.lemmas.List.{drop_more, take-append-drop}
use Rattle.std.proofs.lemmas.Grind.{fold-append}
use Rattle.flat_scene.specs.declared.calls.BlendMode.{BlendMode}
use Rattle.flat_scene.specs.declared.calls.BlendMode.TheVariants.{Src}
use Rattle.flat_scene.specs.declared.frames.DrawItem.{DrawItem}
use Rattle.flat_ink.specs.Channels.{channel_painted, channel_step, channel_after}
use Rattle.flat_ink.specs.Colours.{laid}
use Rattle.flat_ink.specs.Pixels.{paint_colour, covers}
use Rattle.std.specs.Prelude.{slice_index}

-- what replaces leaves the same whatever was there
painted-anew : (c : ℕ) (x : DrawItem) (px py a b : ℕ) → x.blend ≡ Src → channel_painted c x px py a ≡ channel_painted c x px py b
unfolding channel_painted
painted-anew c x px py a b e =
    ap (λ (m : BlendMode). laid m x.opacity (slice_index (paint_colour x x.paint px py) 3) (slice_index (paint_colour x x.paint px py) c) a) e
    ∙ sym (ap (λ (m : BlendMode). laid m x.opacity (slice_index (paint_colour x x.paint px py) 3) (slice_index (paint_colour x x.paint px py) c) b) e)

pub step-anew : (c : ℕ) (x : DrawItem) (px py a b : ℕ) → x.blend ≡ Src → covers x px py ≡ true → channel_step c x px py a ≡ channel_step c x px py b
step-anew c x px py a b e h =
    ap (λ (t : Bool). if t then channel_painted c x px py a else a) h ∙ painted-anew c x px py a b e
    ∙ sym (ap (λ (t : Bool). if t then channel_painted c x px py b else b) h)

-- the items before one that covers a pixel and replaces what is there play no part
pub hidden : (c : ℕ) (items : List DrawItem) (i : ℕ) (d : DrawItem) (px py : ℕ) → i < length items → (get_or items i d).blend ≡ Src
    → covers (get_or items i d) px py ≡ true
    → channel_after c items px py 0 ≡ channel_after c (drop i items) px py 0
hidden c items i d px py within e h =
    let rest : List DrawItem = drop (i + 1) items in
    ap (λ (xs : List DrawItem). channel_after c xs px py 0) (sym (take-append-drop i items))
    ∙ fold-append (λ old item. channel_step c item px py old) 0 (take i items) (drop i items)
    ∙ ap (λ (xs : List DrawItem). fold (λ old item. channel_step c item px py old) (channel_after c (take i items) px py 0) xs) (drop_more items i d within)
    ∙ ap (λ (was : ℕ). fold (λ old item. channel_step c item px py old) was rest)
    (step-anew c (get_or items i d) px py (channel_after c (take i items) px py 0) 0 e h)
    ∙ ap (λ (xs : List DrawItem). channel_after c xs px py 0) (sym (drop_more items i d within))
