use Rattle.std.proofs.Common.{ℕ, ◌+◌, ◌≡◌, ◌<◌, ◌≤◌, ◌⊎◌, inl, inr, subst, sym, refl, arith, get_or, length, List}
use Rattle.std.proofs.lemmas.List.{get_or_default}
use Rattle.std.proofs.lemmas.Bool.{cases_lt}
use Rattle.flat_scene.specs.declared.frames.DrawItem.{DrawItem}
use Rattle.flat_drawable.specs.Drawable.{IsDrawable}
use Rattle.flat_drawable.proofs.are_drawable.Goals as goal

more : (items : List DrawItem) (i : ℕ) (e : DrawItem) → i < length items → IsDrawable (get_or items i e)
    → ((k : ℕ) (d : DrawItem) → k < i → IsDrawable (get_or items k d)) → (k : ℕ) (d : DrawItem) → k < i + 1 → IsDrawable (get_or items k d)
more items i e within last before k d l = by_place (cases_lt k i) where
  at : (k ≡ i) → IsDrawable (get_or items k d)
  at s = subst (λ (n : ℕ). IsDrawable (get_or items n d)) (sym s) (subst (λ (x : DrawItem). IsDrawable x) (get_or_default items i e d within) last)

  by_place : (k < i) ⊎ (i ≤ k) → IsDrawable (get_or items k d)
  by_place (inl b) = before k d b
  by_place (inr b) = at (omega arith)

pub loop-item-preserved : goal.loop-item-preserved
loop-item-preserved c = more c.args.items.now c.loop-item.item-index _ c.loop-item-test.true (c.if-not-is_drawable.ensures.0 refl) c.loop-item.invariant
