-- Items chosen by their numbers, for each tile of a row.
use Rattle.std.proofs.Common.{ℕ, zero, suc, ◌+◌, ◌*◌, ◌/◌, ◌%◌, ◌<◌, ◌≤◌, ◌≡◌, refl, ap, ◌∙◌, sym, subst, Bool, true, false, if◌then◌else◌, List, [], ◌∷◌, ◌++◌}
use Rattle.std.proofs.Common.{length, get_or, take, drop, Vec, arith}
use Rattle.std.specs.Prelude.{min}
use Rattle.std.specs.declared.alloc.Global.{Global}
use Rattle.std.proofs.lemmas.Bool.{cases_lt, false_from_ne_true, false≢true}
use Rattle.std.proofs.lemmas.Grind.{flat_map-append, div_ceil_times}
use Rattle.std.proofs.lemmas.List.{take_all}
use Rattle.std.proofs.lemmas.List.Elements.{All-nil, All-cons, All-append}
use Rattle.std.proofs.lemmas.Nat.{div_below, div-mul-add, mod-mul-add, mul-le}
use Rattle.flat_base.proofs.lemmas.Tests.{and-left, and-right}
use Rattle.flat_drawable.specs.Drawable.{IsDrawable}
use Rattle.flat_scene.specs.declared.frames.DrawItem.{DrawItem}
use Rattle.flat_ink.specs.Areas.{is_among, has_pixel}
use Rattle.flat_tile.specs.Chosen.{chosen, IsSeenIn}
use Rattle.flat_render.specs.Bands.{AreChoices, AreEmpty, AreParts, AreRows, IsChoice, IsNoted, IsPart, ServesRow}
use Rattle.flat_render.specs.Grids.{tile_of}
use Rattle.flat_ink.specs.Pixels.{covers}
use Rattle.flat_tile.specs.Tiles.{tile_area}
use Rattle.flat_ink.specs.declared.area.Area.{Area}
use Rattle.flat_render.specs.declared.tile_grid.TileGrid.{TileGrid}
use Rattle.flat_render.proofs.Bands.{seen-both, seen-first, seen-more, seen-past}
use Rattle.flat_ink.proofs.lemmas.Ranges.{among, among-low, among-high, either}
use Rattle.flat_tile.proofs.lemmas.Lists.{one-there}

chosen-one : (items : List DrawItem) (places : List ℕ) (p : ℕ) (d : DrawItem) → p < length items
    → chosen items (places ++ p ∷ []) ≡ chosen items places ++ get_or items p d ∷ []
chosen-one items places p d h =
    flat_map-append (λ n. take 1 (drop n items)) places (p ∷ [])
    ∙ ap (λ (one : List DrawItem). chosen items places ++ (one ++ [])) (one-there items p d h)

-- what lies in a tile lies in none of the tiles that a rectangle misses
pub beyond-columns : (x0 x1 w across upto c px : ℕ) → 0 < w → upto ≡ min (x1 / w + min 1 (x1 % w)) across → c < across → c * w ≤ px → px < c * w + w
    → is_among (x0 / w) upto c ≡ false → is_among x0 x1 px ≡ false
beyond-columns x0 x1 w across upto c px some e small above below h =
    false_from_ne_true _ (λ t.
    let from : x0 / w < c + 1 = div_below x0 w (c + 1) some (omega (arith, among-low x0 x1 px t)) in
    let ends : x1 ≤ (x1 / w + min 1 (x1 % w)) * w = (div_ceil_times x1 w some).0 in
    let low : c < x1 / w + min 1 (x1 % w) =
    either _ _ (cases_lt c (x1 / w + min 1 (x1 % w))) (λ l. l)
    (λ g. absurd (omega (arith, mul-le (x1 / w + min 1 (x1 % w)) w c w g (omega arith), ends, among-high x0 x1 px t))) in
    false≢true (sym h ∙ among (x0 / w) upto c (omega (arith, from)) (omega (arith, low, e))))

-- no numbers
none-chosen : (area : Area) (items : List DrawItem) (places : List ℕ) → places ≡ [] → IsChoice area items places 0
none-chosen area items places e = subst (λ (ns : List ℕ). IsChoice area items ns 0) (sym e) (record {
  within = All-nil (λ p. p < length items);
  seen = record { drawable = All-nil IsDrawable; same = λ c px py old there. refl };
})

choice-more : (area : Area) (items : List DrawItem) (places : List ℕ) (n : ℕ) (d : DrawItem) → n < length items → IsDrawable (get_or items n d)
    → IsChoice area items places n
    → IsChoice area items (places ++ n ∷ []) (n + 1)
choice-more area items places n d small drawable is = record {
  within = All-append (λ p. p < length items) places (n ∷ []) is.within (All-cons (λ p. p < length items) n [] small (All-nil (λ p. p < length items)));
  seen = subst (λ (seen : List DrawItem). IsSeenIn area (take (n + 1) items) seen) (sym (chosen-one items places n d small))
      (seen-more area items (chosen items places) n d small drawable is.seen);
}

choice-past : (area : Area) (items : List DrawItem) (places : List ℕ) (n : ℕ) (d : DrawItem) → n < length items
    → ((px py : ℕ) → has_pixel area px py ≡ true → covers (get_or items n d) px py ≡ false)
    → IsChoice area items places n → IsChoice area items places (n + 1)
choice-past area items places n d small unseen is = record {
  within = is.within;
  seen = seen-past area items (chosen items places) n d small unseen is.seen;
}

-- where a tile of a row begins
tile-left : (g : TileGrid) (row c : ℕ) → c < g.across → (tile_of g (row * g.across + c)).left ≡ c * g.tile_w
tile-left g row c small = ap (λ (n : ℕ). n * g.tile_w) (mod-mul-add row g.across c small)

tile-top : (g : TileGrid) (row c : ℕ) → c < g.across → (tile_of g (row * g.across + c)).top ≡ row * g.tile_h
tile-top g row c small = ap (λ (n : ℕ). n * g.tile_h) (div-mul-add row g.across c small)

-- an item that covers no pixel of a tile's columns and rows covers none of the tile
tile-unseen : (g : TileGrid) (row c : ℕ) (item : DrawItem) → c < g.across
    → ((px py : ℕ) → c * g.tile_w ≤ px → px < c * g.tile_w + g.tile_w → row * g.tile_h ≤ py → py < row * g.tile_h + g.tile_h → covers item px py ≡ false)
    → (px py : ℕ) → has_pixel (tile_area (tile_of g (row * g.across + c))) px py ≡ true → covers item px py ≡ false
tile-unseen g row c item column others px py has =
    let across : is_among (tile_of g (row * g.across + c)).left ((tile_of g (row * g.across + c)).left + g.tile_w) px ≡ true = and-left _ _ has in
    let down : is_among (tile_of g (row * g.across + c)).top ((tile_of g (row * g.across + c)).top + g.tile_h) py ≡ true =
    and-right (is_among (tile_of g (row * g.across + c)).left ((tile_of g (row * g.across + c)).left + g.tile_w) px) _ has in
    others px py
    (omega (arith, among-low _ _ px across, tile-left g row c column))
    (omega (arith, among-high (tile_of g (row * g.across + c)).left _ px across, tile-left g row c column))
    (omega (arith, among-low _ _ py down, tile-top g row c column))
    (omega (arith, among-high (tile_of g (row * g.across + c)).top _ py down, tile-top g row c column))

-- one number more, of an item that may be seen in an area, and of one that isn't
part-more : (area : Area) (items : List DrawItem) (all places : List ℕ) (p : ℕ) (d : DrawItem) → p < length items → IsDrawable (get_or items p d)
    → IsPart area items all places → IsPart area items (all ++ p ∷ []) (places ++ p ∷ [])
part-more area items all places p d small drawable is = record {
  within = All-append (λ q. q < length items) places (p ∷ []) is.within (All-cons (λ q. q < length items) p [] small (All-nil (λ q. q < length items)));
  seen = subst (λ (xs : List DrawItem). IsSeenIn area xs (chosen items (places ++ p ∷ []))) (sym (chosen-one items all p d small))
      (subst (λ (ys : List DrawItem). IsSeenIn area (chosen items all ++ get_or items p d ∷ []) ys) (sym (chosen-one items places p d small))
      (seen-both area (chosen items all) (chosen items places) (get_or items p d) drawable is.seen));
}

part-past : (area : Area) (items : List DrawItem) (all places : List ℕ) (p : ℕ) (d : DrawItem) → p < length items
    → ((px py : ℕ) → has_pixel area px py ≡ true → covers (get_or items p d) px py ≡ false)
    → IsPart area items all places → IsPart area items (all ++ p ∷ []) places
part-past area items all places p d small unseen is = record {
  within = is.within;
  seen = subst (λ (xs : List DrawItem). IsSeenIn area xs (chosen items places)) (sym (chosen-one items all p d small))
      (seen-first area (chosen items all) (chosen items places) (get_or items p d) unseen is.seen);
}

-- one number more for all tiles of a row
pub parts-more : (g : TileGrid) (row p from upto : ℕ) (items : List DrawItem) (all : List ℕ) (old lists : List (Vec ℕ Global)) (d : DrawItem) → p < length items
    → IsDrawable (get_or items p d)
    → ((c px py : ℕ) → c < g.across → c * g.tile_w ≤ px → px < c * g.tile_w + g.tile_w → row * g.tile_h ≤ py → py < row * g.tile_h + g.tile_h
    → is_among from upto c ≡ false → covers (get_or items p d) px py ≡ false)
    → AreParts g row items all old → IsNoted p from upto old lists → AreParts g row items (all ++ p ∷ []) lists
parts-more g row p from upto items all old lists d small drawable others were noted = record {
  count = noted.count ∙ were.count;
  serve = λ c e column. by_test c e column (is_among from upto c) refl;
} where
  by_test : (c : ℕ) (e : Vec ℕ Global) → c < g.across → (b : Bool) → is_among from upto c ≡ b
      → IsPart (tile_area (tile_of g (row * g.across + c))) items (all ++ p ∷ []) (get_or lists c e).items
  by_test c e column true t =
      subst (λ (places : List ℕ). IsPart (tile_area (tile_of g (row * g.across + c))) items (all ++ p ∷ []) places)
      (sym (noted.noted c e (omega (arith, were.count, column)) ∙ ap (λ (b : Bool). if b then (get_or old c e).items ++ p ∷ [] else (get_or old c e).items) t))
      (part-more (tile_area (tile_of g (row * g.across + c))) items all (get_or old c e).items p d small drawable (were.serve c e column))
  by_test c e column false t =
      subst (λ (places : List ℕ). IsPart (tile_area (tile_of g (row * g.across + c))) items (all ++ p ∷ []) places)
      (sym (noted.noted c e (omega (arith, were.count, column)) ∙ ap (λ (b : Bool). if b then (get_or old c e).items ++ p ∷ [] else (get_or old c e).items) t))
      (part-past (tile_area (tile_of g (row * g.across + c))) items all (get_or old c e).items p d small
      (tile-unseen g row c (get_or items p d) column (λ px py left right top bottom. others c px py column left right top bottom t))
      (were.serve c e column))

-- one item more for all rows
pub rows-more : (g : TileGrid) (n from upto : ℕ) (items : List DrawItem) (old lists : List (Vec ℕ Global)) (d : DrawItem) → n < length items
    → IsDrawable (get_or items n d)
    → ((row c px py : ℕ) → row < length old → c < g.across → px < c * g.tile_w + g.tile_w → row * g.tile_h ≤ py → py < row * g.tile_h + g.tile_h
    → is_among from upto row ≡ false → covers (get_or items n d) px py ≡ false)
    → AreRows g items old n → IsNoted n from upto old lists → AreRows g items lists (n + 1)
rows-more g n from upto items old lists d small drawable others were noted =
    λ row e there c column. by_test row e (omega (arith, noted.count, there)) c column (is_among from upto row) refl where
      by_test : (row : ℕ) (e : Vec ℕ Global) → row < length old → (c : ℕ) → c < g.across → (b : Bool) → is_among from upto row ≡ b
          → IsChoice (tile_area (tile_of g (row * g.across + c))) items (get_or lists row e).items (n + 1)
      by_test row e there c column true t =
          subst (λ (places : List ℕ). IsChoice (tile_area (tile_of g (row * g.across + c))) items places (n + 1))
          (sym (noted.noted row e there ∙ ap (λ (b : Bool). if b then (get_or old row e).items ++ n ∷ [] else (get_or old row e).items) t))
          (choice-more (tile_area (tile_of g (row * g.across + c))) items (get_or old row e).items n d small drawable (were row e there c column))
      by_test row e there c column false t =
          subst (λ (places : List ℕ). IsChoice (tile_area (tile_of g (row * g.across + c))) items places (n + 1))
          (sym (noted.noted row e there ∙ ap (λ (b : Bool). if b then (get_or old row e).items ++ n ∷ [] else (get_or old row e).items) t))
          (choice-past (tile_area (tile_of g (row * g.across + c))) items (get_or old row e).items n d small
          (tile-unseen g row c (get_or items n d) column (λ px py left right top bottom. others row c px py there column right top bottom t))
          (were row e there c column))

-- lists without numbers, for no items
pub rows-none : (g : TileGrid) (count : ℕ) (items : List DrawItem) (lists : List (Vec ℕ Global)) → AreEmpty count lists → AreRows g items lists 0
rows-none g count items lists are = λ row d there c column.
    none-chosen (tile_area (tile_of g (row * g.across + c))) items (get_or lists row d).items (are.empty row d (omega (arith, are.count, there)))

pub parts-none : (g : TileGrid) (row : ℕ) (items : List DrawItem) (lists : List (Vec ℕ Global)) → AreEmpty g.across lists → AreParts g row items [] lists
parts-none g row items lists are = record {
  count = are.count;
  serve = λ c d small.
      subst (λ (places : List ℕ). IsPart (tile_area (tile_of g (row * g.across + c))) items [] places) (sym (are.empty c d small)) (record {
        within = All-nil (λ p. p < length items);
        seen = record { drawable = All-nil IsDrawable; same = λ k px py old there. refl };
      });
}

-- numbers that give each tile what those of a row give it serve where these do
pub parts-serve : (g : TileGrid) (row n : ℕ) (items : List DrawItem) (all : List ℕ) (lists : List (Vec ℕ Global)) → ServesRow g row items all n
    → AreParts g row items all lists → AreChoices g row items lists n
parts-serve g row n items all lists serves are = record {
  count = are.count;
  serve = λ c d column. record {
    within = (are.serve c d column).within;
    seen = record {
      drawable = (are.serve c d column).seen.drawable;
      same = λ k px py old there. (are.serve c d column).seen.same k px py old there ∙ (serves c column).seen.same k px py old there;
    };
  };
}

-- numbers that serve all items
pub choice-all : (area : Area) (items : List DrawItem) (places : List ℕ) → IsChoice area items places (length items) → IsSeenIn area items (chosen items places)
choice-all area items places is = subst (λ (all : List DrawItem). IsSeenIn area all (chosen items places)) (take_all (length items) items (omega arith)) is.seen
