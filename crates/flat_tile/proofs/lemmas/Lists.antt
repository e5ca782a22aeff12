-- Draw items of a list.
use Rattle.std.proofs.Common.{ℕ, zero, suc, ◌<◌, ◌≡◌, refl, List, [], ◌∷◌, length, get_or, take, drop, arith}
use Rattle.flat_scene.specs.declared.frames.DrawItem.{DrawItem}

-- the item with a number, as a list
pub one-there : (items : List DrawItem) (p : ℕ) (d : DrawItem) → p < length items → take 1 (drop p items) ≡ get_or items p d ∷ []
one-there [] p d h = absurd (omega arith)
one-there (item ∷ items) zero d h = refl
one-there (item ∷ items) (suc p) d h = one-there items p d (omega arith)

-- an item of a list that has one
pub some-item : (items : List DrawItem) (i : ℕ) → i < length items → DrawItem
some-item [] i within = absurd (omega arith)
some-item (item ∷ items) i within = item
