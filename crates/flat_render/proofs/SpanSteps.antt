-- Spans of rows of tiles.
use Rattle.std.proofs.Common.{ℕ, ◌+◌, ◌-◌, ◌*◌, ◌<◌, ◌≤◌, ◌≡◌, refl, ap, ◌∙◌, List, ◌++◌, length, get_or, arith}
use Rattle.std.proofs.lemmas.Bool.{cases_lt}
use Rattle.std.proofs.lemmas.List.{get_or_append_left, get_or-append_right}
use Rattle.flat_render.specs.declared.tile_grid.TileGrid.{TileGrid}
use Rattle.flat_render.specs.Grids.{IsGrid}
use Rattle.flat_ink.proofs.lemmas.Ranges.{either}

-- how many bytes two spans have, of b in each row of tiles
pub cut-size : (from cut b : ℕ) → from ≤ cut → (cut - from) * b + from * b ≡ cut * b
cut-size from cut b order = let at : cut - from + from ≡ cut = omega arith in omega (arith, ap (λ (m : ℕ). m * b) at)

-- two spans that were drawn are drawn as one
pub spans-joined : (f : ℕ → ℕ) (b from cut : ℕ) (front back : List ℕ) → from ≤ cut → length front ≡ (cut - from) * b
    → ((i : ℕ) → i < length front → get_or front i 0 ≡ f (from * b + i))
    → ((i : ℕ) → i < length back → get_or back i 0 ≡ f (cut * b + i))
    → (i : ℕ) → i < length front + length back → get_or (front ++ back) i 0 ≡ f (from * b + i)
spans-joined f b from cut front back order size first second i small =
    either _ _ (cases_lt i (length front))
    (λ before. get_or_append_left front back 0 i before ∙ first i before)
    (λ past.
    let at : cut * b + (i - length front) ≡ from * b + i = omega (arith, cut-size from cut b order, size, past) in
    let rest : i - length front < length back = omega (arith, past, small) in
    get_or-append_right front back (length front) i 0 refl past ∙ second (i - length front) rest ∙ ap f at)

-- a picture with pixels has a row of tiles
pub some-rows : (g : TileGrid) → IsGrid g → 0 < g.height → 0 < g.down
some-rows g is high =
    either _ _ (cases_lt 0 g.down) (λ some. some)
    (λ none.
    let e : g.down ≡ 0 = omega (arith, none) in
    absurd (omega (arith, high, is.bottom, ap (λ (n : ℕ). n * g.tile_h) e)))
