-- What is found of each of some items.
use Rattle.std.proofs.Common.{ℕ, zero, suc, ◌+◌, ◌-◌, ◌<◌, ◌≤◌, ◌^◌, ◌≡◌, refl, ap, ◌∙◌, sym, subst, true, false, List, [], ◌∷◌, ◌++◌, length, get_or, take}
use Rattle.std.proofs.Common.{drop, arith}
use Rattle.std.proofs.lemmas.Bool.{cases_lt}
use Rattle.std.proofs.lemmas.List.{get_or_append_left, get_or-append_right, get_or-take, get_or-drop, get_or_push, get_or_default, length-append}
use Rattle.std.proofs.lemmas.List.{length-take-le, length-drop}
use Rattle.flat_scene.specs.declared.frames.DrawItem.{DrawItem}
use Rattle.flat_ink.specs.Areas.{has_pixel, IsWindow}
use Rattle.flat_tile.specs.Chosen.{chosen}
use Rattle.flat_ink.specs.Channels.{channel_after}
use Rattle.flat_ink.specs.Pixels.{covers}
use Rattle.flat_tile.specs.Preparing.{ArePrepared, IsOver, IsPrepared}
use Rattle.flat_tile.specs.Tiles.{tile_area, IsTile}
use Rattle.flat_ink.specs.declared.area.Area.{Area}
use Rattle.flat_tile.specs.declared.prepared_item.PreparedItem.{PreparedItem}
use Rattle.flat_tile.specs.declared.tile.Tile.{Tile}
use Rattle.flat_tile.proofs.lemmas.Lists.{some-item}
use Rattle.flat_tile.proofs.ByNumber.{AreNumbers, hidden-chosen}
use Rattle.flat_tile.proofs.Preparing.{wider-area}
use Rattle.flat_ink.proofs.lemmas.Ranges.{either}
use Rattle.flat_ink.proofs.lemmas.Windows.{pixel-right, pixel-bottom}

some-prepared : (list : List PreparedItem) (i : ℕ) → i < length list → PreparedItem
some-prepared [] i within = absurd (omega arith)
some-prepared (it ∷ list) i within = it

-- those before one that covers a window and replaces what is there play no part
pub over-same : (items : List DrawItem) (list : List PreparedItem) (places : List ℕ) (first : ℕ) (window : Area) (c px py : ℕ) → ArePrepared items list
    → AreNumbers items places → IsWindow window
    → (0 < first → first < length places) → ((e : PreparedItem) → 0 < first → IsOver (get_or list (get_or places first 0) e) window)
    → has_pixel window px py ≡ true
    → channel_after c (chosen items places) px py 0 ≡ channel_after c (drop first (chosen items places)) px py 0
over-same items list places zero window c px py are numbers some inside over has = refl
over-same items list places (suc k) window c px py are numbers some inside over has =
    let within : suc k < length places = inside (omega arith) in
    let p : ℕ = get_or places (suc k) 0 in
    let there : p < length items = numbers (suc k) 0 within in
    let d : DrawItem = some-item items p there in
    let e : PreparedItem = some-prepared list p (omega (arith, are.count, there)) in
    let it : IsPrepared (get_or items p d) (get_or list p e) = are.each p d e there in
    let on : IsOver (get_or list p e) window = over e (omega arith) in
    hidden-chosen c items places (suc k) d px py numbers within (it.replaces on.replaces)
    (sym (it.area px py (omega (arith, pixel-right window px py has, some.right)) (omega (arith, pixel-bottom window px py has, some.bottom)))
    ∙ wider-area (get_or list p e).area window px py on.within has)

-- the first n items are prepared
pub record AreSoFar (items : List DrawItem) (list : List PreparedItem) (n : ℕ) : Type 0 where
  pub count : length list ≡ n
  pub each : (k : ℕ) (d : DrawItem) (e : PreparedItem) → k < n → IsPrepared (get_or items k d) (get_or list k e)

pub none-so-far : (items : List DrawItem) (list : List PreparedItem) → list ≡ [] → AreSoFar items list 0
none-so-far items list e = record { count = ap length e; each = λ k d f small. absurd (omega arith) }

pub one-more : (items : List DrawItem) (i : ℕ) (d : DrawItem) (list longer : List PreparedItem) (it : PreparedItem) → i < length items
    → IsPrepared (get_or items i d) it → longer ≡ list ++ it ∷ []
    → AreSoFar items list i → AreSoFar items longer (i + 1)
one-more items i d list longer it within prepared more were = record {
  count = ap length more ∙ length-append list (it ∷ []) ∙ ap (λ (n : ℕ). n + 1) were.count;
  each = λ k f e small.
      either _ _ (cases_lt k i)
      (λ l. subst (λ (p : PreparedItem). IsPrepared (get_or items k f) p)
      (sym (ap (λ (xs : List PreparedItem). get_or xs k e) more ∙ get_or_append_left list (it ∷ []) e k (omega (arith, were.count, l)))) (were.each k f e l))
      (λ g. subst (λ (n : ℕ). IsPrepared (get_or items n f) (get_or longer n e)) (omega arith)
      (subst (λ (p : PreparedItem). IsPrepared (get_or items i f) p) (sym
      (ap (λ (xs : List PreparedItem). get_or xs i e) more ∙ get_or_push list it e i were.count))
      (subst (λ (item : DrawItem). IsPrepared item it) (get_or_default items i d f within) prepared)));
}

pub all-prepared : (items : List DrawItem) (list : List PreparedItem) (n : ℕ) → n ≡ length items → AreSoFar items list n → ArePrepared items list
all-prepared items list n all were = record {
  count = were.count ∙ all;
  each = λ k d e small. were.each k d e (omega (arith, all, small));
}

-- those of the first n items, and those of the others
pub prepared_joined : (items : List DrawItem) (n : ℕ) (front back : List PreparedItem) → n ≤ length items → ArePrepared (take n items) front
    → ArePrepared (drop n items) back → ArePrepared items (front ++ back)
prepared_joined items n front back within low high =
    let long : length (take n items) ≡ n = length-take-le n items within in
    let rest = length-drop n items in
    record {
      count = omega (arith, length-append front back, low.count, high.count, long, rest, within);
      each = λ k d e small.
          either _ _ (cases_lt k n)
          (λ l.
          subst (λ (item : DrawItem). IsPrepared item (get_or (front ++ back) k e)) (get_or-take n items k d l)
          (subst (λ (it : PreparedItem). IsPrepared (get_or (take n items) k d) it)
          (sym (get_or_append_left front back e k (omega (arith, low.count, long, l))))
          (low.each k d e (omega (arith, long, l)))))
          (λ g.
          let there : n + (k - n) ≡ k = omega (arith, g) in
          subst (λ (item : DrawItem). IsPrepared item (get_or (front ++ back) k e)) (get_or-drop n items (k - n) d ∙ ap (λ (i : ℕ). get_or items i d) there)
          (subst (λ (it : PreparedItem). IsPrepared (get_or (drop n items) (k - n) d) it) (sym (get_or-append_right front back n k e (low.count ∙ long) g))
          (high.each (k - n) d e (omega (arith, rest, small, g)))));
    }

-- where the area of one has no pixel, its item doesn't cover it
pub not-covered : (items : List DrawItem) (list : List PreparedItem) (n : ℕ) (d : DrawItem) (e : PreparedItem) (px py : ℕ) → ArePrepared items list
    → n < length items
    → px < 2 ^ 29 → py < 2 ^ 29
    → has_pixel (get_or list n e).area px py ≡ false → covers (get_or items n d) px py ≡ false
not-covered items list n d e px py are within right bottom h = sym ((are.each n d e within).area px py right bottom) ∙ h

-- a tile is a window
pub tile-window-is : (tile : Tile) → IsTile tile → IsWindow (tile_area tile)
tile-window-is tile is = record {
  columns = omega (arith, is.width);
  rows = omega (arith, is.height);
  right = is.right;
  bottom = is.bottom;
}
