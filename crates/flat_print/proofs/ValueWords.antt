-- The words of a number, and of a value that stands for one, are those that it was read from.
use Rattle.std.proofs.Common.{◌≡◌, ℕ, ◌+◌, ◌≤◌, ◌^◌, ◌-◌, zero, suc, nat_le, Bool, true, false, cond, nat_lt, List, [], ◌∷◌, ◌++◌, length}
use Rattle.std.proofs.Common.{Option, Some, None, refl, sym, ◌∙◌, ap, option_and_then, if◌then◌else◌, slice_get, arith}
use Rattle.std.specs.Option.{option_map_or}
use Rattle.std.specs.Fmt.{decimal, signed_decimal}
use Rattle.std.proofs.lemmas.Option.{slice_get_past}
use Rattle.std.proofs.lemmas.Bool.Decides.{nat_tests}
use Rattle.flat_base.specs.declared.shapes.Orientation.{Orientation}
use Rattle.flat_base.specs.declared.shapes.Orientation.TheVariants.{Ccw0, Ccw90, Ccw180, Ccw270}
use Rattle.flat_scene.specs.declared.calls.BlendMode.{BlendMode}
use Rattle.flat_scene.specs.declared.calls.BlendMode.TheVariants.{Src, SrcOver}
use Rattle.flat_scene.specs.declared.calls.ImageFlip.{ImageFlip}
use Rattle.flat_scene.specs.declared.calls.ImageFlip.TheVariants.{Plain, LeftRight, UpDown}
use Rattle.flat_scene.specs.declared.calls.Interaction.{Interaction}
use Rattle.flat_scene.specs.declared.calls.Interaction.TheVariants.{Default, SemanticallyInvisible}
use Rattle.flat_text.specs.Number.{natural, signed}
use Rattle.flat_text.proofs.lemmas.NumberLemmas.{decimal-natural, signed_decimal-signed}
use Rattle.flat_places.specs.declared.kinds.FaultKind.TheVariants.{BadNumber}
use Rattle.flat_places.specs.Forms.{Word, Form, optional, ◌<$>◌}
use Rattle.flat_places.specs.Places.{number_below, i32, transform, content, choice, orientation, blend, flip, interaction}
use Rattle.flat_places.specs.Places.{fits_i32}
use Rattle.flat_print.specs.Print.{orientation_number}
use Rattle.flat_print.specs.Print.{blend_number}
use Rattle.flat_print.specs.Choices.{flip_number, interaction_number}
use Rattle.flat_forms.proofs.lemmas.FormLemmas.{Gives, map_ok, place_ok, or_kind_ok}

-- a form that gives a value takes the words that spell it, whatever stands behind them
pub record Spells {A : Type 0} (form : Form A) (spell : A → List Word) : Type 0 where
  pub takes : (words : List Word) (v : A) (rest : List Word) → Gives form words v rest → words ≡ spell v ++ rest

pub test_ok : {A : Type 0} (p : A → Bool) (o : Option A) (v : A) → option_and_then (λ n. if p n then Some n else None) o ≡ Some v → o ≡ Some v
test_ok p None v is = absurd (cc)
test_ok {A = A} p (Some n) v is = by_test (p n) is
  where
    by_test : (b : Bool) → cond b (Some n) None ≡ Some v → Some n ≡ Some v
    by_test true same = same
    by_test false same = absurd (cc)

pub number_words : (most : ℕ) → Spells (number_below most) (λ n. decimal n ∷ [])
number_words most = record {
  takes = λ words v rest given.
      let p = place_ok _ words v rest given in
      let number = test_ok (λ n. nat_lt n most) (natural p.word) v (or_kind_ok BadNumber _ v p.passes) in
      p.begins ∙ ap (λ w. w ∷ rest) (sym (decimal-natural p.word v number).0);
}

pub i32_words : Spells i32 (λ z. signed_decimal z ∷ [])
i32_words = record {
  takes = λ words v rest given.
      let p = place_ok _ words v rest given in
      let number = test_ok fits_i32 (signed p.word) v (or_kind_ok BadNumber _ v p.passes) in
      p.begins ∙ ap (λ w. w ∷ rest) (sym (signed_decimal-signed p.word v number).0);
}

mapped_words : {A B : Type 0} (h : A → B) (form : Form A) (spell : A → List Word) (new : B → List Word) → ((a : A) → new (h a) ≡ spell a) → Spells form spell
    → Spells (h <$> form) new
mapped_words h form spell new same spells = record {
  takes = λ words v rest given.
      let m = map_ok h form words v rest given in
      spells.takes words m.a rest m.given ∙ ap (λ t. t ++ rest) (sym (same m.a) ∙ ap new m.value);
}

pub transform_words : Spells transform (λ t. decimal t.0 ∷ [])
transform_words = mapped_words (λ n. record { 0 = n }) (number_below (2 ^ 64)) (λ n. decimal n ∷ []) (λ t. decimal t.0 ∷ []) (λ n. refl) (number_words (2 ^ 64))

pub content_words : Spells content (λ t. decimal t.0 ∷ [])
content_words = mapped_words (λ n. record { 0 = n }) (number_below (2 ^ 64)) (λ n. decimal n ∷ []) (λ t. decimal t.0 ∷ []) (λ n. refl) (number_words (2 ^ 64))

found_ok : {A : Type 0} (f : ℕ → Option A) (o : Option ℕ) (v : A) → option_and_then f o ≡ Some v → (n : ℕ) × (o ≡ Some n) × (f n ≡ Some v)
found_ok f None v is = absurd (cc)
found_ok f (Some n) v is = (n, refl, is)

choice_at : {A : Type 0} (first : ℕ) (values : List A) (number : A → ℕ) (n : ℕ) (v : A) (b : Bool) → nat_le first n ≡ b
    → ((i : ℕ) (w : A) → slice_get values i ≡ Some w → number w ≡ first + i)
    → cond b (slice_get values (n - first)) None ≡ Some v → number v ≡ n
choice_at first values number n v false at numbers is = absurd (cc)
choice_at first values number n v true at numbers is = let least : first + (n - first) ≡ n = grind (arith, nat_tests) in numbers (n - first) v is ∙ least

choice_words : {A : Type 0} (first : ℕ) (values : List A) (number : A → ℕ) → ((i : ℕ) (w : A) → slice_get values i ≡ Some w → number w ≡ first + i)
    → Spells (choice first values) (λ v. decimal (number v) ∷ [])
choice_words first values number numbers = record {
  takes = λ words v rest given.
      let p = place_ok _ words v rest given in
      let found = found_ok _ (natural p.word) v (or_kind_ok BadNumber _ v p.passes) in
      p.begins ∙ ap (λ w. w ∷ rest) (sym (decimal-natural p.word found.0 found.1).0
      ∙ ap decimal (sym (choice_at first values number found.0 v (nat_le first found.0) refl numbers found.2)));
}

none_past : {A : Type 0} (values : List A) (i : ℕ) (v : A) → length values ≤ i → slice_get values i ≡ Some v → ⊥
none_past {A = A} values i v past is = none_some (sym (slice_get_past values i past) ∙ is)
  where
    none_some : None ≡ Some v → ⊥
    none_some wrong = absurd (cc)

orientation_at : (i : ℕ) (w : Orientation) → slice_get (Ccw0 ∷ Ccw90 ∷ Ccw180 ∷ Ccw270 ∷ []) i ≡ Some w → orientation_number w ≡ 1 + i
orientation_at zero w is = let e : Ccw0 ≡ w = cc in sym (ap orientation_number e)
orientation_at (suc zero) w is = let e : Ccw90 ≡ w = cc in sym (ap orientation_number e)
orientation_at (suc (suc zero)) w is = let e : Ccw180 ≡ w = cc in sym (ap orientation_number e)
orientation_at (suc (suc (suc zero))) w is = let e : Ccw270 ≡ w = cc in sym (ap orientation_number e)
orientation_at (suc (suc (suc (suc i)))) w is = absurd (none_past (Ccw0 ∷ Ccw90 ∷ Ccw180 ∷ Ccw270 ∷ []) (suc (suc (suc (suc i)))) w (omega arith) is)

pub orientation_words : Spells orientation (λ o. decimal (orientation_number o) ∷ [])
orientation_words = choice_words 1 (Ccw0 ∷ Ccw90 ∷ Ccw180 ∷ Ccw270 ∷ []) orientation_number orientation_at

blend_at : (i : ℕ) (w : BlendMode) → slice_get (Src ∷ SrcOver ∷ []) i ≡ Some w → blend_number w ≡ 1 + i
blend_at zero w is = let e : Src ≡ w = cc in sym (ap blend_number e)
blend_at (suc zero) w is = let e : SrcOver ≡ w = cc in sym (ap blend_number e)
blend_at (suc (suc i)) w is = absurd (none_past (Src ∷ SrcOver ∷ []) (suc (suc i)) w (omega arith) is)

pub blend_words : Spells blend (λ m. decimal (blend_number m) ∷ [])
blend_words = choice_words 1 (Src ∷ SrcOver ∷ []) blend_number blend_at

flip_at : (i : ℕ) (w : ImageFlip) → slice_get (Plain ∷ LeftRight ∷ UpDown ∷ []) i ≡ Some w → flip_number w ≡ 1 + i
flip_at zero w is = let e : Plain ≡ w = cc in sym (ap flip_number e)
flip_at (suc zero) w is = let e : LeftRight ≡ w = cc in sym (ap flip_number e)
flip_at (suc (suc zero)) w is = let e : UpDown ≡ w = cc in sym (ap flip_number e)
flip_at (suc (suc (suc i))) w is = absurd (none_past (Plain ∷ LeftRight ∷ UpDown ∷ []) (suc (suc (suc i))) w (omega arith) is)

pub flip_words : Spells flip (λ f. decimal (flip_number f) ∷ [])
flip_words = choice_words 1 (Plain ∷ LeftRight ∷ UpDown ∷ []) flip_number flip_at

interaction_at : (i : ℕ) (w : Interaction) → slice_get (Default ∷ SemanticallyInvisible ∷ []) i ≡ Some w → interaction_number w ≡ 0 + i
interaction_at zero w is = let e : Default ≡ w = cc in sym (ap interaction_number e)
interaction_at (suc zero) w is = let e : SemanticallyInvisible ≡ w = cc in sym (ap interaction_number e)
interaction_at (suc (suc i)) w is = absurd (none_past (Default ∷ SemanticallyInvisible ∷ []) (suc (suc i)) w (omega arith) is)

pub interaction_words : Spells interaction (λ i. decimal (interaction_number i) ∷ [])
interaction_words = choice_words 0 (Default ∷ SemanticallyInvisible ∷ []) interaction_number interaction_at

optional_taken : {A : Type 0} (form : Form A) (spell : A → List Word) → Spells form spell → (words : List Word) (o : Option A) (rest : List Word)
    → Gives (optional form) words o rest → words ≡ option_map_or spell o [] ++ rest
optional_taken form spell spells [] o rest given = let value = given.value in let none : None ≡ o =
    cc in given.left ∙ ap (λ v. option_map_or spell v [] ++ rest) none
optional_taken form spell spells (w ∷ words) o rest given =
    let g : Gives (Some <$> form) (w ∷ words) o rest = record { value = given.value; left = given.left } in
    let m = map_ok Some form (w ∷ words) o rest g in
    spells.takes (w ∷ words) m.a rest m.given ∙ ap (λ v. option_map_or spell v [] ++ rest) m.value

pub optional_words : {A : Type 0} (form : Form A) (spell : A → List Word) → Spells form spell → Spells (optional form) (λ o. option_map_or spell o [])
optional_words form spell spells = record { takes = optional_taken form spell spells }
