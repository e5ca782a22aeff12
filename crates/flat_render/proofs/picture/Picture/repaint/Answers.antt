use Rattle.std.proofs.Common.{ℕ, ◌<◌, ◌≡◌, ◌∙◌, All, ap, subst, sym, List, if◌then◌else◌, length, get_or, arith}
use Rattle.std.specs.Vec.{with_items}
use Rattle.flat_drawable.specs.Drawable.{IsDrawable}
use Rattle.std.proofs.lemmas.List.{with_items_is}
use Rattle.flat_scene.specs.declared.frames.DrawItem.{DrawItem}
use Rattle.flat_ink.specs.Channels.{channel_after}
use Rattle.flat_render.specs.Damaged.{is_in_any}
use Rattle.flat_render.specs.Grids.{place_of}
use Rattle.flat_render.specs.Stored.{stored_x, stored_y, drawn_at}
use Rattle.flat_render.proofs.Places.{place-there, stored-x, stored-y, drawn-place}
use Rattle.flat_render.proofs.Seen.{same-choice, redrawn-channels}
use Rattle.flat_render.proofs.picture.Picture.repaint.Goals as goal

pub returns-clause-pixels : goal.returns-clause-pixels
returns-clause-pixels c = λ x y hx hy.
    let channel : (n : ℕ) → n < 3 → get_or (with_items c.args.self.now.bytes c.redraw_rects.new.bytes).items (place_of c.args.self.now.grid n x y) 0
    ≡ (if is_in_any c.args.rects.now x y then channel_after n c.args.items.now x y 0 else
    get_or c.args.self.now.bytes.items (place_of c.args.self.now.grid n x y) 0) =
    (λ n low.
    let i : ℕ = place_of c.args.self.now.grid n x y in
    let there : i < length c.as_mut_slice.result.now =
    omega (arith, place-there c.args.self.now.grid c.args.self.now.sides n x y low hx hy, c.args.self.now.filled, c.as_mut_slice.ensures.len) in
    ap (λ (xs : List ℕ). get_or xs i 0) (with_items_is c.args.self.now.bytes c.redraw_rects.new.bytes (c.redraw_rects.auto.bytes ∙ c.as_mut_slice.ensures.len))
    ∙ c.redraw_rects.ensures i there
    ∙ same-choice c.as_slice-2.result.now c.args.rects.now (stored_x c.args.self.now.grid i) x (stored_y c.args.self.now.grid i) y
    (drawn_at c.args.self.now.grid c.as_slice.result.now i) (channel_after n c.args.items.now x y 0) (get_or c.as_mut_slice.result.now i 0)
    (get_or c.args.self.now.bytes.items i 0)
    c.as_slice-2.ensures (stored-x c.args.self.now.grid c.args.self.now.sides n x y low hx hy)
    (stored-y c.args.self.now.grid c.args.self.now.sides n x y low hx hy)
    (drawn-place c.args.self.now.grid c.args.self.now.sides n x y low hx hy c.as_slice.result.now
    ∙ ap (λ (items : List DrawItem). channel_after n items x y 0) c.as_slice.ensures)
    (ap (λ (xs : List ℕ). get_or xs i 0) c.as_mut_slice.ensures.value)) in
    redrawn-channels (is_in_any c.args.rects.now x y) c.args.items.now x y _ _ _ _ _ _ (channel 0 (omega arith)) (channel 1 (omega arith))
    (channel 2 (omega arith))

pub redraw_rects-requires-clause-items : goal.redraw_rects-requires-clause-items
redraw_rects-requires-clause-items c = subst (All IsDrawable) (sym c.as_slice.ensures) c.requires

pub redraw_rects-requires-clause-size : goal.redraw_rects-requires-clause-size
redraw_rects-requires-clause-size c = c.as_mut_slice.ensures.len ∙ c.args.self.now.filled
