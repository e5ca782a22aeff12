-- The words of calls on viewports. A viewport whose inset is 0 on all sides is spelt without it.
use Rattle.std.proofs.Common.{◌≡◌, ℕ, ◌^◌, ◌==◌, ◌&&◌, Bool, true, false, cond, List, [], ◌∷◌, ◌++◌}
use Rattle.std.proofs.Common.{Option, Some, None, Ok, refl, sym, ◌∙◌, ap}
use Rattle.std.proofs.Common.{append-nil, subst}
use Rattle.std.specs.Option.{option_map_or}
use Rattle.std.specs.Fmt.{decimal}
use Rattle.flat_base.specs.declared.ids.SessionNo.{SessionNo}
use Rattle.flat_base.specs.declared.ids.PairNo.{PairNo}
use Rattle.flat_base.specs.declared.ids.ContentId.{ContentId}
use Rattle.flat_scene.specs.declared.calls.Call.{Call}
use Rattle.flat_scene.specs.declared.calls.Inset.{Inset}
use Rattle.flat_scene.specs.declared.calls.Call.TheVariants as call
use Rattle.flat_forms.specs.declared.calls.CallName.TheVariants.{CreateViewport, SetViewportProperties, ReleaseViewport}
use Rattle.flat_places.specs.declared.script.Script.{Script}
use Rattle.flat_places.specs.Forms.{Word, Reading, both, mapped, whole, optional, ◌<$>◌, ◌<*>◌}
use Rattle.flat_places.specs.Places.{u32, content}
use Rattle.flat_places.specs.Places.{viewport_end, inset}
use Rattle.flat_forms.specs.Calls.{call_form, inset_or_none}
use Rattle.flat_scene.specs.Draft.{no_inset}
use Rattle.flat_print.specs.Print.{pair_word, call_fields, call_name, inset_words}
use Rattle.flat_forms.proofs.lemmas.FormLemmas.{apply_ok, map_ok, whole_ok, Shown, shown_whole}
use Rattle.flat_forms.proofs.lemmas.ParserLemmas.{is_zero}
use Rattle.flat_print.proofs.ValueWords.{number_words, content_words, optional_words}
use Rattle.flat_print.proofs.NameWords.{viewport_end_words}
use Rattle.flat_print.proofs.FieldWords.{split, steps_4, inset_spelled}
use Rattle.flat_print.proofs.SpeltCalls.{Spelt, ShownCall, CallShown}

pub spelt-SetViewportProperties : (s : Script) (o : SessionNo) (words : List Word) (c : Call) → whole (call_form s o SetViewportProperties) words ≡ Ok c
    → Spelt s SetViewportProperties words c
spelt-SetViewportProperties s o words c is =
    let h : ContentId → ℕ → ℕ → Option Inset → Call = λ x1 x2 x3 x4. call.SetViewportProperties x1 x2 x3 x4 in
    let given = whole_ok (call_form s o SetViewportProperties) words c is in
    let p4 = split (h <$> content <*> u32 <*> u32) (optional inset) (λ i. option_map_or inset_words i []) words c []
    (optional_words inset inset_words inset_spelled) given in
    let p3 = split (h <$> content <*> u32) u32 (λ n. decimal n ∷ []) words p4.g p4.mid (number_words (2 ^ 32)) p4.first in
    let p2 = split (h <$> content) u32 (λ n. decimal n ∷ []) words p3.g p3.mid (number_words (2 ^ 32)) p3.first in
    let p1 = map_ok h content words p2.g p2.mid p2.first in
    let value : h p1.a p2.a p3.a p4.a ≡ c = steps_4 h p1.a p2.g p2.a p3.g p3.a p4.g p4.a c p1.value p2.value p3.value p4.value in
    let last : p4.mid ≡ option_map_or inset_words p4.a [] = p4.behind ∙ append-nil (option_map_or inset_words p4.a []) in
    let taken : words ≡ call_fields s (h p1.a p2.a p3.a p4.a) =
    content_words.takes words p1.a p2.mid p1.given ∙ ap (λ t. decimal p1.a.0 ∷ t)
    (p2.behind ∙ ap (λ t. decimal p2.a ∷ t) (p3.behind ∙ ap (λ t. decimal p3.a ∷ t) last)) in
    record { fields = ap (call_fields s) (sym value) ∙ sym taken; named = ap call_name (sym value) }

pub spelt-ReleaseViewport : (s : Script) (o : SessionNo) (words : List Word) (c : Call) → whole (call_form s o ReleaseViewport) words ≡ Ok c
    → Spelt s ReleaseViewport words c
spelt-ReleaseViewport s o words c is =
    let h : ContentId → Call = λ x1. call.ReleaseViewport x1 in
    let given = whole_ok (call_form s o ReleaseViewport) words c is in
    let p1 = map_ok h content words c [] given in
    let value : h p1.a ≡ c = p1.value in
    let taken : words ≡ call_fields s (h p1.a) = content_words.takes words p1.a [] p1.given in
    record { fields = ap (call_fields s) (sym value) ∙ sym taken; named = ap call_name (sym value) }

abbrev has_no_inset : Inset → Bool
has_no_inset i = (i.top == 0) && (i.right == 0) && (i.bottom == 0) && (i.left == 0)

all_four : (p q r s : Bool) → (p && q && r && s) ≡ true → (p ≡ true) × (q ≡ true) × (r ≡ true) × (s ≡ true)
all_four true true true true is = (refl, refl, refl, refl)
all_four true true true false is = absurd (cc)
all_four true true false s is = absurd (cc)
all_four true false r s is = absurd (cc)
all_four false q r s is = absurd (cc)

no_inset_is : (i : Inset) → has_no_inset i ≡ true → no_inset ≡ i
no_inset_is i is =
    let sides = all_four (i.top == 0) (i.right == 0) (i.bottom == 0) (i.left == 0) is in
    let top = sym (is_zero i.top sides.0) in
    let right = sym (is_zero i.right sides.1) in
    let bottom = sym (is_zero i.bottom sides.2) in
    let left = sym (is_zero i.left sides.3) in
    ap (λ n. record no_inset { top = n }) top ∙ ap (λ n. record no_inset { top = i.top; right = n }) right
    ∙ ap (λ n. record no_inset { top = i.top; right = i.right; bottom = n }) bottom
    ∙ ap (λ n. record no_inset { top = i.top; right = i.right; bottom = i.bottom; left = n }) left

-- what the four places before the inset give
record FrontGiven (s : Script) (o : SessionNo) (x : ContentId) (y : PairNo) (w h : ℕ) : Type 0 where
  pub first : (content (decimal x.0 ∷ [])).0 ≡ Ok x
  pub second : (viewport_end s o (pair_word s y ∷ [])).0 ≡ Ok y
  pub third : (u32 (decimal w ∷ [])).0 ≡ Ok w
  pub fourth : (u32 (decimal h ∷ [])).0 ≡ Ok h

-- the words of those places
abbrev front_words : Script → ContentId → PairNo → ℕ → ℕ → List Word
front_words s x y w h = decimal x.0 ∷ pair_word s y ∷ decimal w ∷ decimal h ∷ []

front_again : (s : Script) (o : SessionNo) (x : ContentId) (y : PairNo) (w h : ℕ) → FrontGiven s o x y w h
    → whole (call_form s o CreateViewport) (front_words s x y w h) ≡ Ok (call.CreateViewport x y w h no_inset)
front_again s o x y w h given =
    let make : ContentId → PairNo → ℕ → ℕ → Option Inset → Call = λ d p m n i. call.CreateViewport d p m n (inset_or_none i) in
    let r : Reading ContentId → Reading PairNo → Reading ℕ → Reading ℕ → Reading Call =
    λ d p m n. both (λ v (_ : Unit {0}). v) (both (λ g v. g v) (both (λ g v. g v) (both (λ g v. g v) (both (λ g v. g v) (mapped make d) p) m) n) (Ok None))
    (Ok tt) in
    ap (λ d. r d (viewport_end s o (pair_word s y ∷ [])).0 (u32 (decimal w ∷ [])).0 (u32 (decimal h ∷ [])).0) given.first
    ∙ ap (λ p. r (Ok x) p (u32 (decimal w ∷ [])).0 (u32 (decimal h ∷ [])).0) given.second ∙ ap (λ m. r (Ok x) (Ok y) m (u32 (decimal h ∷ [])).0) given.third
    ∙ ap (λ n. r (Ok x) (Ok y) (Ok w) n) given.fourth

shown_by_test : (s : Script) (o : SessionNo) (words : List Word) (x : ContentId) (y : PairNo) (w h : ℕ) (i : Inset) (b : Bool) → has_no_inset i ≡ b
    → FrontGiven s o x y w h → words ≡ front_words s x y w h ++ inset_words i
    → whole (call_form s o CreateViewport) words ≡ Ok (call.CreateViewport x y w h i)
    → Shown (whole (call_form s o CreateViewport)) (front_words s x y w h ++ cond b [] (inset_words i)) words (call.CreateViewport x y w h i)
shown_by_test s o words x y w h i true at given taken is = record {
  behind = inset_words i;
  begins = taken;
  again = front_again s o x y w h given ∙ ap (λ j. Ok (call.CreateViewport x y w h j)) (no_inset_is i at);
}
shown_by_test s o words x y w h i false at given taken is =
    shown_whole (whole (call_form s o CreateViewport)) (front_words s x y w h ++ inset_words i) words (call.CreateViewport x y w h i) (sym taken) is

shown_by_inset : (s : Script) (o : SessionNo) (words : List Word) (x : ContentId) (y : PairNo) (w h : ℕ) (i : Option Inset) → FrontGiven s o x y w h
    → words ≡ front_words s x y w h ++ option_map_or inset_words i []
    → whole (call_form s o CreateViewport) words ≡ Ok (call.CreateViewport x y w h (inset_or_none i))
    → ShownCall s o CreateViewport words (call.CreateViewport x y w h (inset_or_none i))
shown_by_inset s o words x y w h None given taken is =
    record {
      fields = shown_whole (whole (call_form s o CreateViewport)) (front_words s x y w h) words (call.CreateViewport x y w h no_inset) (sym taken) is;
      named = refl;
    }
shown_by_inset s o words x y w h (Some i) given taken is =
    record { fields = shown_by_test s o words x y w h i (has_no_inset i) refl given taken is; named = refl }

pub shown-CreateViewport : (s : Script) (o : SessionNo) → CallShown s o CreateViewport
shown-CreateViewport s o words c is =
    let make : ContentId → PairNo → ℕ → ℕ → Option Inset → Call = λ d p m n i. call.CreateViewport d p m n (inset_or_none i) in
    let given = whole_ok (call_form s o CreateViewport) words c is in
    let p5 = split (make <$> content <*> viewport_end s o <*> u32 <*> u32) (optional inset) (λ i. option_map_or inset_words i []) words c []
    (optional_words inset inset_words inset_spelled) given in
    let p4 = apply_ok (make <$> content <*> viewport_end s o <*> u32) u32 words p5.g p5.mid p5.first in
    let p3 = apply_ok (make <$> content <*> viewport_end s o) u32 words p4.g p4.mid p4.first in
    let p2 = apply_ok (make <$> content) (viewport_end s o) words p3.g p3.mid p3.first in
    let p1 = map_ok make content words p2.g p2.mid p2.first in
    let value : make p1.a p2.a p3.a p4.a p5.a ≡ c = ap (λ g. g p2.a p3.a p4.a p5.a) p1.value ∙ ap (λ g. g p3.a p4.a p5.a) p2.value
    ∙ ap (λ g. g p4.a p5.a) p3.value ∙ ap (λ g. g p5.a) p4.value ∙ p5.value in
    let at1 : words ≡ decimal p1.a.0 ∷ p2.mid = content_words.takes words p1.a p2.mid p1.given in
    let at2 : p2.mid ≡ pair_word s p2.a ∷ p3.mid = (viewport_end_words s o).takes p2.mid p2.a p3.mid p2.second in
    let at3 : p3.mid ≡ decimal p3.a ∷ p4.mid = (number_words (2 ^ 32)).takes p3.mid p3.a p4.mid p3.second in
    let at4 : p4.mid ≡ decimal p4.a ∷ p5.mid = (number_words (2 ^ 32)).takes p4.mid p4.a p5.mid p4.second in
    let front : FrontGiven s o p1.a p2.a p3.a p4.a = record {
      first = ap (λ t. (content t).0) (sym at1) ∙ p1.given.value;
      second = ap (λ t. (viewport_end s o t).0) (sym at2) ∙ p2.second.value;
      third = ap (λ t. (u32 t).0) (sym at3) ∙ p3.second.value;
      fourth = ap (λ t. (u32 t).0) (sym at4) ∙ p4.second.value;
    } in
    let last : p5.mid ≡ option_map_or inset_words p5.a [] = p5.behind ∙ append-nil (option_map_or inset_words p5.a []) in
    let taken : words ≡ front_words s p1.a p2.a p3.a p4.a ++ option_map_or inset_words p5.a [] =
    at1 ∙ ap (λ t. decimal p1.a.0 ∷ t) (at2 ∙ ap (λ t. pair_word s p2.a ∷ t) (at3 ∙ ap (λ t. decimal p3.a ∷ t) (at4 ∙ ap (λ t. decimal p4.a ∷ t) last))) in
    let P : Call → Type 0 = ShownCall s o CreateViewport words in
    subst P value (shown_by_inset s o words p1.a p2.a p3.a p4.a p5.a front taken (is ∙ ap Ok (sym value)))
