-- Textures, read from tables.
use Rattle.std.proofs.Common.{ℕ, ◌+◌, ◌-◌, ◌<◌, ◌≤◌, ◌≡◌, refl, ap, ◌∙◌, List, get_or, arith}
use Rattle.flat_scene.specs.declared.calls.BlendMode.{BlendMode}
use Rattle.flat_scene.specs.declared.calls.BlendMode.TheVariants.{Src, SrcOver}
use Rattle.flat_ink.specs.Colours.{laid}
use Rattle.flat_ink.specs.Inks.{tone, mix_of, mixed}
use Rattle.flat_ink.specs.Textures.{IsTable}

-- a table, read at a pixel
pub table-read : (value : ℕ → ℕ) (from upto : ℕ) (table : List ℕ) (p : ℕ) → IsTable value from upto table → from ≤ p → p < upto
    → get_or table (p - from) 0 ≡ value p
table-read value from upto table p is low high =
    let at : from + (p - from) ≡ p = omega arith in
    is.values (p - from) (omega arith) ∙ ap value at

-- what is toned and then mixed is laid
pub tone-mixed : (blend : BlendMode) (opacity alpha s old : ℕ) → mixed (mix_of blend opacity alpha) (tone blend opacity s) old ≡ laid blend opacity alpha s old
tone-mixed Src opacity alpha s old = refl
tone-mixed SrcOver opacity alpha s old = refl
