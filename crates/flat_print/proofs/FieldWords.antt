-- The words of several forms in a row are those that they were read from: rectangles, insets, regions, transforms.
use Rattle.std.proofs.Common.{◌≡◌, ℕ, ℤ, List, [], ◌∷◌, ◌++◌}
use Rattle.std.proofs.Common.{map, Some, Ok, refl, sym, ◌∙◌, ap}
use Rattle.std.proofs.Common.{append-nil}
use Rattle.std.specs.List.{flat_map}
use Rattle.std.specs.Fmt.{decimal, signed_decimal}
use Rattle.flat_base.specs.declared.ids.TransformId.{TransformId}
use Rattle.flat_scene.specs.declared.calls.Interaction.{Interaction}
use Rattle.flat_scene.specs.declared.calls.HitRegion.{HitRegion}
use Rattle.flat_base.specs.declared.shapes.IntRect.{IntRect}
use Rattle.flat_scene.specs.declared.calls.Inset.{Inset}
use Rattle.flat_places.specs.Forms.{Word, Form, both, ◌<$>◌, ◌<*>◌}
use Rattle.flat_places.specs.Places.{number_below, i32, transform, interaction}
use Rattle.flat_places.specs.Places.{region, regions, transforms, int_rect, inset}
use Rattle.flat_print.specs.Print.{rect_words, inset_words, region_words}
use Rattle.flat_print.specs.Choices.{interaction_number}
use Rattle.flat_forms.proofs.lemmas.FormLemmas.{Gives, apply_ok, map_ok, both_ok}
use Rattle.flat_print.proofs.ValueWords.{Spells, number_words, i32_words, transform_words, interaction_words}

-- two forms in a row, by what is left between them
pub record Split {A B : Type 0} (f : Form (A → B)) (x : Form A) (spell : A → List Word) (words : List Word) (v : B) (rest : List Word) : Type 0 where
  pub g : A → B
  pub a : A
  pub mid : List Word
  pub first : Gives f words g mid
  pub behind : mid ≡ spell a ++ rest
  pub value : g a ≡ v

pub split : {A B : Type 0} (f : Form (A → B)) (x : Form A) (spell : A → List Word) (words : List Word) (v : B) (rest : List Word) → Spells x spell
    → Gives (f <*> x) words v rest → Split f x spell words v rest
split f x spell words v rest spells given =
    let p = apply_ok f x words v rest given in
    record { g = p.g; a = p.a; mid = p.mid; first = p.first; behind = spells.takes p.mid p.a rest p.second; value = p.value }

-- what some steps made, each of which gave what the one before it made one argument more
pub steps_2 : {A B C : Type 0} (f0 : A → B → C) (a0 : A) (f1 : B → C) (a1 : B) (made : C) → f0 a0 ≡ f1 → f1 a1 ≡ made → f0 a0 a1 ≡ made
steps_2 f0 a0 f1 a1 made e0 e1 = ap (λ g. g a1) e0 ∙ e1

pub steps_3 : {A B C D : Type 0} (f0 : A → B → C → D) (a0 : A) (f1 : B → C → D) (a1 : B) (f2 : C → D) (a2 : C) (made : D) → f0 a0 ≡ f1 → f1 a1 ≡ f2
    → f2 a2 ≡ made
    → f0 a0 a1 a2 ≡ made
steps_3 f0 a0 f1 a1 f2 a2 made e0 e1 e2 = ap (λ g. g a1 a2) e0 ∙ ap (λ g. g a2) e1 ∙ e2

pub steps_4 : {A B C D E : Type 0} (f0 : A → B → C → D → E) (a0 : A) (f1 : B → C → D → E) (a1 : B) (f2 : C → D → E) (a2 : C) (f3 : D → E) (a3 : D) (made : E)
    → f0 a0 ≡ f1 → f1 a1 ≡ f2 → f2 a2 ≡ f3 → f3 a3 ≡ made → f0 a0 a1 a2 a3 ≡ made
steps_4 f0 a0 f1 a1 f2 a2 f3 a3 made e0 e1 e2 e3 = ap (λ g. g a1 a2 a3) e0 ∙ ap (λ g. g a2 a3) e1 ∙ ap (λ g. g a3) e2 ∙ e3

pub steps_5 : {A B C D E F : Type 0} (f0 : A → B → C → D → E → F) (a0 : A) (f1 : B → C → D → E → F) (a1 : B) (f2 : C → D → E → F) (a2 : C) (f3 : D → E → F)
    (a3 : D)
    (f4 : E → F) (a4 : E) (made : F) → f0 a0 ≡ f1 → f1 a1 ≡ f2 → f2 a2 ≡ f3 → f3 a3 ≡ f4 → f4 a4 ≡ made → f0 a0 a1 a2 a3 a4 ≡ made
steps_5 f0 a0 f1 a1 f2 a2 f3 a3 f4 a4 made e0 e1 e2 e3 e4 = ap (λ g. g a1 a2 a3 a4) e0 ∙ ap (λ g. g a2 a3 a4) e1 ∙ ap (λ g. g a3 a4) e2 ∙ ap (λ g. g a4) e3 ∙ e4

pub steps_7 : {A B C D E F G H : Type 0} (f0 : A → B → C → D → E → F → G → H) (a0 : A) (f1 : B → C → D → E → F → G → H) (a1 : B) (f2 : C → D → E → F → G → H)
    (a2 : C) (f3 : D → E → F → G → H) (a3 : D) (f4 : E → F → G → H) (a4 : E) (f5 : F → G → H) (a5 : F) (f6 : G → H) (a6 : G) (made : H) → f0 a0 ≡ f1
    → f1 a1 ≡ f2 → f2 a2 ≡ f3 → f3 a3 ≡ f4 → f4 a4 ≡ f5 → f5 a5 ≡ f6 → f6 a6 ≡ made → f0 a0 a1 a2 a3 a4 a5 a6 ≡ made
steps_7 f0 a0 f1 a1 f2 a2 f3 a3 f4 a4 f5 a5 f6 a6 made e0 e1 e2 e3 e4 e5 e6 =
    ap (λ g. g a1 a2 a3 a4 a5 a6) e0 ∙ ap (λ g. g a2 a3 a4 a5 a6) e1 ∙ ap (λ g. g a3 a4 a5 a6) e2 ∙ ap (λ g. g a4 a5 a6) e3 ∙ ap (λ g. g a5 a6) e4
    ∙ ap (λ g. g a6) e5 ∙ e6

pub int_rect_words : Spells int_rect rect_words
int_rect_words = record {
  takes = λ words v rest given.
      let h : ℤ → ℤ → ℤ → ℤ → IntRect = λ x y w h. record { x = x; y = y; w = w; h = h } in
      let spell : ℤ → List Word = λ z. signed_decimal z ∷ [] in
      let d = split (h <$> i32 <*> i32 <*> i32) i32 spell words v rest i32_words given in
      let c = split (h <$> i32 <*> i32) i32 spell words d.g d.mid i32_words d.first in
      let b = split (h <$> i32) i32 spell words c.g c.mid i32_words c.first in
      let a = map_ok h i32 words b.g b.mid b.first in
      let value : h a.a b.a c.a d.a ≡ v = steps_4 h a.a b.g b.a c.g c.a d.g d.a v a.value b.value c.value d.value in
      i32_words.takes words a.a b.mid a.given ∙ ap (λ t. signed_decimal a.a ∷ t)
      (b.behind ∙ ap (λ t. signed_decimal b.a ∷ t) (c.behind ∙ ap (λ t. signed_decimal c.a ∷ t) d.behind))
      ∙ ap (λ r. rect_words r ++ rest) value;
}

region_spelled : Spells region region_words
region_spelled = record {
  takes = λ words v rest given.
      let h : IntRect → Interaction → HitRegion = λ r i. record { area = Some r; interaction = i } in
      let b = split (h <$> int_rect) interaction (λ i. decimal (interaction_number i) ∷ []) words v rest interaction_words given in
      let a = map_ok h int_rect words b.g b.mid b.first in
      let value : h a.a b.a ≡ v = steps_2 h a.a b.g b.a v a.value b.value in
      int_rect_words.takes words a.a b.mid a.given ∙ ap (λ t. rect_words a.a ++ t) b.behind ∙ ap (λ r. region_words r ++ rest) value;
}

few_taken : (words : List Word) (rs : List HitRegion) → both (λ r rest. r ∷ rest) (region words).0 (Ok []) ≡ Ok rs → (region words).1 ≡ []
    → words ≡ flat_map region_words rs
few_taken words rs is none =
    let parts = both_ok (λ r rest. r ∷ rest) (region words).0 (Ok []) rs is in
    let last : [] ≡ parts.b = let e = parts.second in cc in
    region_spelled.takes words parts.a [] (record { value = parts.first; left = none }) ∙ ap (λ t. region_words parts.a ++ t) (ap (flat_map region_words) last)
    ∙ ap (flat_map region_words) parts.value

regions_taken : (words : List Word) (rs : List HitRegion) → regions words ≡ Ok rs → words ≡ flat_map region_words rs
regions_taken [] rs is = let e : [] ≡ rs = cc in ap (flat_map region_words) e
regions_taken (x ∷ []) rs is = few_taken (x ∷ []) rs is refl
regions_taken (x ∷ y ∷ []) rs is = few_taken (x ∷ y ∷ []) rs is refl
regions_taken (x ∷ y ∷ w ∷ []) rs is = few_taken (x ∷ y ∷ w ∷ []) rs is refl
regions_taken (x ∷ y ∷ w ∷ h ∷ []) rs is = few_taken (x ∷ y ∷ w ∷ h ∷ []) rs is refl
regions_taken (x ∷ y ∷ w ∷ h ∷ i ∷ ws) rs is =
    let parts = both_ok (λ r rest. r ∷ rest) (region (x ∷ y ∷ w ∷ h ∷ i ∷ [])).0 (regions ws) rs is in
    let one : x ∷ y ∷ w ∷ h ∷ i ∷ [] ≡ region_words parts.a =
    region_spelled.takes (x ∷ y ∷ w ∷ h ∷ i ∷ []) parts.a [] (record { value = parts.first; left = refl }) ∙ append-nil (region_words parts.a) in
    let more : ws ≡ flat_map region_words parts.b = regions_taken ws parts.b parts.second in
    ap (λ t. t ++ ws) one ∙ ap (λ t. region_words parts.a ++ t) more ∙ ap (flat_map region_words) parts.value

pub regions_words : Spells (λ words. (regions words, [])) (λ rs. flat_map region_words rs)
regions_words = record {
  takes = λ words v rest given. regions_taken words v given.value ∙ sym (append-nil (flat_map region_words v))
      ∙ ap (λ t. flat_map region_words v ++ t) given.left;
}

transforms_taken : (words : List Word) (ts : List TransformId) → transforms words ≡ Ok ts → words ≡ map (λ t. decimal t.0) ts
transforms_taken [] ts is = let e : [] ≡ ts = cc in ap (map (λ (t : TransformId). decimal t.0)) e
transforms_taken (w ∷ words) ts is =
    let parts = both_ok (λ t rest. t ∷ rest) (transform (w ∷ [])).0 (transforms words) ts is in
    let one : w ∷ [] ≡ decimal parts.a.0 ∷ [] = transform_words.takes (w ∷ []) parts.a [] (record { value = parts.first; left = refl }) in
    ap (λ t. t ++ words) one ∙ ap (λ t. decimal parts.a.0 ∷ t) (transforms_taken words parts.b parts.second)
    ∙ ap (map (λ (t : TransformId). decimal t.0)) parts.value

pub transforms_words : Spells (λ words. (transforms words, [])) (map (λ t. decimal t.0))
transforms_words = record {
  takes = λ words v rest given. transforms_taken words v given.value ∙ sym (append-nil (map (λ (t : TransformId). decimal t.0) v))
      ∙ ap (λ t. map (λ (k : TransformId). decimal k.0) v ++ t) given.left;
}

pub inset_spelled : Spells inset inset_words
inset_spelled = record {
  takes = λ words v rest given.
      let h : ℕ → ℕ → ℕ → ℕ → Inset = λ t r b l. record { top = t; right = r; bottom = b; left = l } in
      let side : Form ℕ = number_below 65537 in
      let spell : ℕ → List Word = λ n. decimal n ∷ [] in
      let d = split (h <$> side <*> side <*> side) side spell words v rest (number_words 65537) given in
      let c = split (h <$> side <*> side) side spell words d.g d.mid (number_words 65537) d.first in
      let b = split (h <$> side) side spell words c.g c.mid (number_words 65537) c.first in
      let a = map_ok h side words b.g b.mid b.first in
      let value : h a.a b.a c.a d.a ≡ v = steps_4 h a.a b.g b.a c.g c.a d.g d.a v a.value b.value c.value d.value in
      (number_words 65537).takes words a.a b.mid a.given ∙ ap (λ t. decimal a.a ∷ t)
      (b.behind ∙ ap (λ t. decimal b.a ∷ t) (c.behind ∙ ap (λ t. decimal c.a ∷ t) d.behind))
      ∙ ap (λ r. inset_words r ++ rest) value;
}
