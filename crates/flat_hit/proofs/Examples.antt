-- A hit is new where its session has none, and a point looks at nodes with regions alone.
use Rattle.std.proofs.Common.{ℕ, ◌≡◌, refl, true, false, [], ◌∷◌, None, Some}
use Rattle.flat_scene.specs.declared.calls.Interaction.TheVariants.{Default, SemanticallyInvisible}
use Rattle.flat_scene.specs.declared.frames.Hit.{Hit}
use Rattle.flat_scene.specs.declared.calls.HitRegion.{HitRegion}
use Rattle.flat_topology.specs.declared.PlacedNode.{PlacedNode}
use Rattle.flat_hit.specs.Firsts.{is_hit, if_new}
use Rattle.flat_hit.specs.Touchable.{region_places}

abbrev hit : ℕ → Hit
hit s = record { session = record { 0 = s }; interaction = Default }

first_is_hit : is_hit (hit 1 ∷ hit 2 ∷ []) 2 ≡ true
first_is_hit = refl

third_is_not : is_hit (hit 1 ∷ hit 2 ∷ []) 3 ≡ false
third_is_not = refl

new_hit : if_new (hit 1 ∷ []) (Some (hit 2)) ≡ hit 2 ∷ []
new_hit = refl

second_hit : if_new (hit 1 ∷ []) (Some (record { session = record { 0 = 1 }; interaction = SemanticallyInvisible })) ≡ []
second_hit = refl

no_hit : if_new (hit 1 ∷ []) None ≡ []
no_hit = refl

-- the second and the fourth of five nodes have regions
module _ (bare : PlacedNode) (region : HitRegion) where
  abbrev with_region : PlacedNode
  with_region = record bare { hits = region ∷ [] }

  abbrev without_region : PlacedNode
  without_region = record bare { hits = [] }

  places : region_places (without_region ∷ with_region ∷ without_region ∷ with_region ∷ without_region ∷ []) ≡ 1 ∷ 3 ∷ []
  places = refl
