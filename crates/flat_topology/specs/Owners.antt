-- Who owns the two ends of a pair.
use Rattle.std.specs.Prelude.{ℕ, ◌≡◌, Some, slice_get}
use Rattle.flat_base.specs.declared.ids.Actor.TheVariants.{Session}
use Rattle.flat_scene.specs.declared.setup.PairDecl.{PairDecl}
use Rattle.flat_scene.specs.declared.setup.Setup.{Setup}

-- session s owns the view end of pair p
abbrev pub OwnsView : Setup → ℕ → ℕ → Type 0
OwnsView setup s p = (pair : PairDecl) × (slice_get setup.pairs p ≡ Some pair) × (pair.view ≡ record { 0 = s })

-- session s owns the viewport end of pair p
abbrev pub OwnsViewport : Setup → ℕ → ℕ → Type 0
OwnsViewport setup s p = (pair : PairDecl) × (slice_get setup.pairs p ≡ Some pair)
    × (pair.viewport ≡ Session (record { 0 = s }))
