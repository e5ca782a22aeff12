-- Items chosen by their numbers, one by one.
use Rattle.std.proofs.Common.{ℕ, zero, suc, ◌<◌, ◌≡◌, refl, ap, ◌∙◌, true, List, [], ◌∷◌, ◌++◌, length, get_or, drop, arith}
use Rattle.std.specs.List.{All}
use Rattle.flat_scene.specs.declared.calls.BlendMode.TheVariants.{Src}
use Rattle.flat_scene.specs.declared.frames.DrawItem.{DrawItem}
use Rattle.flat_tile.specs.Chosen.{chosen}
use Rattle.flat_ink.specs.Channels.{channel_after}
use Rattle.flat_ink.specs.Pixels.{covers}
use Rattle.flat_tile.proofs.lemmas.Lists.{some-item}
use Rattle.flat_tile.proofs.lemmas.Lists.{one-there}
use Rattle.flat_tile.proofs.CoveredUp.{hidden}

-- each number is that of an item
abbrev pub AreNumbers : List DrawItem → List ℕ → Type 0
AreNumbers items places = All (λ p. p < length items) places

rest-are : (items : List DrawItem) (p : ℕ) (places : List ℕ) → AreNumbers items (p ∷ places) → AreNumbers items places
rest-are items p places are = λ i d small. are (suc i) d (omega arith)

first-is : (items : List DrawItem) (p : ℕ) (places : List ℕ) → AreNumbers items (p ∷ places) → p < length items
first-is items p places are = are 0 0 (omega arith)

-- the first one, and the others behind it
cut-first : (items : List DrawItem) (p : ℕ) (places : List ℕ) (d : DrawItem) → p < length items
    → chosen items (p ∷ places) ≡ get_or items p d ∷ chosen items places
cut-first items p places d small = ap (λ (one : List DrawItem). one ++ chosen items places) (one-there items p d small)

pub chosen-length : (items : List DrawItem) (places : List ℕ) → AreNumbers items places → length (chosen items places) ≡ length places
chosen-length items [] are = refl
chosen-length items (p ∷ places) are =
    let small : p < length items = first-is items p places are in
    ap length (cut-first items p places (some-item items p small) small) ∙ ap suc (chosen-length items places (rest-are items p places are))

pub chosen-at : (items : List DrawItem) (places : List ℕ) (k : ℕ) (d : DrawItem) → AreNumbers items places → k < length places
    → get_or (chosen items places) k d ≡ get_or items (get_or places k 0) d
chosen-at items [] k d are small = absurd (omega arith)
chosen-at items (p ∷ places) zero d are small = ap (λ (xs : List DrawItem). get_or xs 0 d) (cut-first items p places d (first-is items p places are))
chosen-at items (p ∷ places) (suc k) d are small =
    ap (λ (xs : List DrawItem). get_or xs (suc k) d) (cut-first items p places d (first-is items p places are))
    ∙ chosen-at items places k d (rest-are items p places are) (omega arith)

pub chosen-drop : (items : List DrawItem) (places : List ℕ) (n : ℕ) → AreNumbers items places → drop n (chosen items places) ≡ chosen items (drop n places)
chosen-drop items places zero are = refl
chosen-drop items [] (suc n) are = refl
chosen-drop items (p ∷ places) (suc n) are =
    let small : p < length items = first-is items p places are in
    ap (drop (suc n)) (cut-first items p places (some-item items p small) small) ∙ chosen-drop items places n (rest-are items p places are)

-- those before one that covers a pixel and replaces what is there play no part
pub hidden-chosen : (c : ℕ) (items : List DrawItem) (places : List ℕ) (k : ℕ) (d : DrawItem) (px py : ℕ) → AreNumbers items places → k < length places
    → (get_or items (get_or places k 0) d).blend ≡ Src → covers (get_or items (get_or places k 0) d) px py ≡ true
    → channel_after c (chosen items places) px py 0 ≡ channel_after c (drop k (chosen items places)) px py 0
hidden-chosen c items places k d px py are small replaces covers_it =
    let at : get_or (chosen items places) k d ≡ get_or items (get_or places k 0) d = chosen-at items places k d are small in
    hidden c (chosen items places) k d px py (omega (arith, chosen-length items places are))
    (ap (λ (it : DrawItem). it.blend) at ∙ replaces) (ap (λ (it : DrawItem). covers it px py) at ∙ covers_it)
