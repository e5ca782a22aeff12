-- Outside of a node's clip no region has a place.
use Rattle.std.proofs.Common.{ℤ, ◌≡◌, refl, Bool, true, false, ◌&&◌, List, [], ◌∷◌, Option, Some, None, arith}
use Rattle.std.specs.Int.{int_min, int_max}
use Rattle.std.specs.List.{find}
use Rattle.std.proofs.lemmas.Int.{ints, clamps}
use Rattle.flat_base.specs.declared.shapes.IntRect.{IntRect}
use Rattle.flat_base.specs.declared.shapes.Rect.{Rect}
use Rattle.flat_geom.specs.Rectangles.{is_between, has_point, shared_part}
use Rattle.flat_scene.specs.declared.calls.HitRegion.{HitRegion}
use Rattle.flat_topology.specs.declared.PlacedNode.{PlacedNode}
use Rattle.flat_topology.specs.Hits.{region_rect, hit_on}

narrower : (low high l h c : ℤ) → is_between l h c ≡ false → is_between (int_max low l) (int_min high h) c ≡ false
narrower low high l h c b = grind (arith, ints, clamps)

second-false : (a : Bool) → (a && false) ≡ false
second-false true = refl
second-false false = refl

shared-lacks : (p q : Rect) (x y : ℤ) → has_point q x y ≡ false → has_point (shared_part p q) x y ≡ false
shared-lacks p q x y lacks = by_first (is_between q.x0 q.x1 x) refl lacks
  where
    by_first : (b : Bool) → is_between q.x0 q.x1 x ≡ b → (b && is_between q.y0 q.y1 y) ≡ false → has_point (shared_part p q) x y ≡ false
    by_first true e rest = rw (narrower p.y0 p.y1 q.y0 q.y1 y rest) (second-false _)
    by_first false e rest = rw (narrower p.x0 p.x1 q.x0 q.x1 x e) refl

region-lacks : (at : PlacedNode) (area : Option IntRect) (x y : ℤ) → has_point at.clip x y ≡ false → has_point (region_rect at area) x y ≡ false
region-lacks at None x y lacks = lacks
region-lacks at (Some area) x y lacks = shared-lacks _ at.clip x y lacks

none-found : {X : Type 0} (test : X → Bool) → ((x : X) → test x ≡ false) → (xs : List X) → find test xs ≡ None
none-found test never [] = refl
none-found test never (x ∷ xs) = rw (never x) (none-found test never xs)

-- a node isn't hit outside of its clip
pub clip-lacks : (at : PlacedNode) (x y : ℤ) → has_point at.clip x y ≡ false → None ≡ hit_on x y at
clip-lacks at x y lacks =
    let none = none-found (λ (region : HitRegion). has_point (region_rect at region.area) x y) (λ region. region-lacks at region.area x y lacks) at.hits in
    rw none refl
