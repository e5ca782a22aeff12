-- The words of each call on views and transforms are those that it was read from.
use Rattle.std.proofs.Common.{◌≡◌, ℕ, ◌^◌, ℤ, List, [], ◌∷◌}
use Rattle.std.proofs.Common.{map, Option, Ok, sym, ◌∙◌, ap}
use Rattle.std.proofs.Common.{append-nil}
use Rattle.std.specs.List.{flat_map}
use Rattle.std.specs.Option.{option_map_or}
use Rattle.std.specs.Fmt.{decimal, signed_decimal}
use Rattle.flat_base.specs.declared.ids.SessionNo.{SessionNo}
use Rattle.flat_base.specs.declared.ids.PairNo.{PairNo}
use Rattle.flat_base.specs.declared.shapes.Orientation.{Orientation}
use Rattle.flat_base.specs.declared.ids.TransformId.{TransformId}
use Rattle.flat_base.specs.declared.ids.ContentId.{ContentId}
use Rattle.flat_scene.specs.declared.calls.Interaction.{Interaction}
use Rattle.flat_scene.specs.declared.calls.HitRegion.{HitRegion}
use Rattle.flat_base.specs.declared.shapes.IntRect.{IntRect}
use Rattle.flat_scene.specs.declared.calls.Call.{Call}
use Rattle.flat_scene.specs.declared.calls.Call.TheVariants as call
use Rattle.flat_forms.specs.declared.calls.CallName.TheVariants.{CreateView, ReleaseView, CreateTransform, ReleaseTransform, SetTranslation, SetOrientation}
use Rattle.flat_forms.specs.declared.calls.CallName.TheVariants.{SetScale, SetOpacity, SetClipBoundary, AddChild, RemoveChild, ReplaceChildren}
use Rattle.flat_forms.specs.declared.calls.CallName.TheVariants.{SetRootTransform}
use Rattle.flat_forms.specs.declared.calls.CallName.TheVariants.{SetHitRegions, SetInfiniteHitRegion, SetContent, Clear}
use Rattle.flat_places.specs.declared.script.Script.{Script}
use Rattle.flat_places.specs.Forms.{Word, whole, optional, ◌<$>◌, ◌<*>◌}
use Rattle.flat_places.specs.Places.{i32, u32, transform, content, orientation, interaction, view_end}
use Rattle.flat_places.specs.Places.{regions, transforms, int_rect}
use Rattle.flat_forms.specs.Calls.{call_form}
use Rattle.flat_print.specs.Print.{call_fields, call_name, rect_words, region_words, orientation_number}
use Rattle.flat_print.specs.Choices.{interaction_number}
use Rattle.flat_forms.proofs.lemmas.FormLemmas.{map_ok, whole_ok}
use Rattle.flat_print.proofs.ValueWords.{number_words, i32_words, transform_words, content_words, orientation_words, interaction_words, optional_words}
use Rattle.flat_print.proofs.NameWords.{view_end_words}
use Rattle.flat_print.proofs.FieldWords.{split, steps_2, steps_3, int_rect_words, regions_words, transforms_words}
use Rattle.flat_print.proofs.SpeltCalls.{Spelt}

pub spelt-CreateView : (s : Script) (o : SessionNo) (words : List Word) (c : Call) → whole (call_form s o CreateView) words ≡ Ok c → Spelt s CreateView words c
spelt-CreateView s o words c is =
    let h : PairNo → Call = λ p. call.CreateView p in
    let given = whole_ok (call_form s o CreateView) words c is in
    let p1 = map_ok h (view_end s o) words c [] given in
    let value : h p1.a ≡ c = p1.value in
    let taken : words ≡ call_fields s (h p1.a) = (view_end_words s o).takes words p1.a [] p1.given in
    record { fields = ap (call_fields s) (sym value) ∙ sym taken; named = ap call_name (sym value) }

pub spelt-CreateTransform : (s : Script) (o : SessionNo) (words : List Word) (c : Call) → whole (call_form s o CreateTransform) words ≡ Ok c
    → Spelt s CreateTransform words c
spelt-CreateTransform s o words c is =
    let h : TransformId → Call = λ t. call.CreateTransform t in
    let given = whole_ok (call_form s o CreateTransform) words c is in
    let p1 = map_ok h transform words c [] given in
    let value : h p1.a ≡ c = p1.value in
    let taken : words ≡ call_fields s (h p1.a) = transform_words.takes words p1.a [] p1.given in
    record { fields = ap (call_fields s) (sym value) ∙ sym taken; named = ap call_name (sym value) }

pub spelt-ReleaseTransform : (s : Script) (o : SessionNo) (words : List Word) (c : Call) → whole (call_form s o ReleaseTransform) words ≡ Ok c
    → Spelt s ReleaseTransform words c
spelt-ReleaseTransform s o words c is =
    let h : TransformId → Call = λ t. call.ReleaseTransform t in
    let given = whole_ok (call_form s o ReleaseTransform) words c is in
    let p1 = map_ok h transform words c [] given in
    let value : h p1.a ≡ c = p1.value in
    let taken : words ≡ call_fields s (h p1.a) = transform_words.takes words p1.a [] p1.given in
    record { fields = ap (call_fields s) (sym value) ∙ sym taken; named = ap call_name (sym value) }

pub spelt-SetTranslation : (s : Script) (o : SessionNo) (words : List Word) (c : Call) → whole (call_form s o SetTranslation) words ≡ Ok c
    → Spelt s SetTranslation words c
spelt-SetTranslation s o words c is =
    let h : TransformId → ℤ → ℤ → Call = λ t x y. call.SetTranslation t x y in
    let given = whole_ok (call_form s o SetTranslation) words c is in
    let p3 = split (h <$> transform <*> i32) i32 (λ z. signed_decimal z ∷ []) words c [] i32_words given in
    let p2 = split (h <$> transform) i32 (λ z. signed_decimal z ∷ []) words p3.g p3.mid i32_words p3.first in
    let p1 = map_ok h transform words p2.g p2.mid p2.first in
    let value : h p1.a p2.a p3.a ≡ c = steps_3 h p1.a p2.g p2.a p3.g p3.a c p1.value p2.value p3.value in
    let taken : words ≡ call_fields s (h p1.a p2.a p3.a) =
    transform_words.takes words p1.a p2.mid p1.given ∙ ap (λ t. decimal p1.a.0 ∷ t) (p2.behind ∙ ap (λ t. signed_decimal p2.a ∷ t) (p3.behind)) in
    record { fields = ap (call_fields s) (sym value) ∙ sym taken; named = ap call_name (sym value) }

pub spelt-AddChild : (s : Script) (o : SessionNo) (words : List Word) (c : Call) → whole (call_form s o AddChild) words ≡ Ok c → Spelt s AddChild words c
spelt-AddChild s o words c is =
    let h : TransformId → TransformId → Call = λ p k. call.AddChild p k in
    let given = whole_ok (call_form s o AddChild) words c is in
    let p2 = split (h <$> transform) transform (λ t. decimal t.0 ∷ []) words c [] transform_words given in
    let p1 = map_ok h transform words p2.g p2.mid p2.first in
    let value : h p1.a p2.a ≡ c = steps_2 h p1.a p2.g p2.a c p1.value p2.value in
    let taken : words ≡ call_fields s (h p1.a p2.a) = transform_words.takes words p1.a p2.mid p1.given ∙ ap (λ t. decimal p1.a.0 ∷ t) (p2.behind) in
    record { fields = ap (call_fields s) (sym value) ∙ sym taken; named = ap call_name (sym value) }

pub spelt-RemoveChild : (s : Script) (o : SessionNo) (words : List Word) (c : Call) → whole (call_form s o RemoveChild) words ≡ Ok c
    → Spelt s RemoveChild words c
spelt-RemoveChild s o words c is =
    let h : TransformId → TransformId → Call = λ p k. call.RemoveChild p k in
    let given = whole_ok (call_form s o RemoveChild) words c is in
    let p2 = split (h <$> transform) transform (λ t. decimal t.0 ∷ []) words c [] transform_words given in
    let p1 = map_ok h transform words p2.g p2.mid p2.first in
    let value : h p1.a p2.a ≡ c = steps_2 h p1.a p2.g p2.a c p1.value p2.value in
    let taken : words ≡ call_fields s (h p1.a p2.a) = transform_words.takes words p1.a p2.mid p1.given ∙ ap (λ t. decimal p1.a.0 ∷ t) (p2.behind) in
    record { fields = ap (call_fields s) (sym value) ∙ sym taken; named = ap call_name (sym value) }

pub spelt-ReplaceChildren : (s : Script) (o : SessionNo) (words : List Word) (c : Call) → whole (call_form s o ReplaceChildren) words ≡ Ok c
    → Spelt s ReplaceChildren words c
spelt-ReplaceChildren s o words c is =
    let h : TransformId → List TransformId → Call = λ p ks. call.ReplaceChildren p ks in
    let spell : List TransformId → List Word = map (λ k. decimal k.0) in
    let given = whole_ok (call_form s o ReplaceChildren) words c is in
    let p2 = split (h <$> transform) (λ ws. (transforms ws, [])) spell words c [] transforms_words given in
    let p1 = map_ok h transform words p2.g p2.mid p2.first in
    let value : h p1.a p2.a ≡ c = steps_2 h p1.a p2.g p2.a c p1.value p2.value in
    let last : p2.mid ≡ spell p2.a = p2.behind ∙ append-nil (spell p2.a) in
    let taken : words ≡ call_fields s (h p1.a p2.a) = transform_words.takes words p1.a p2.mid p1.given ∙ ap (λ t. decimal p1.a.0 ∷ t) last in
    record { fields = ap (call_fields s) (sym value) ∙ sym taken; named = ap call_name (sym value) }

pub spelt-SetRootTransform : (s : Script) (o : SessionNo) (words : List Word) (c : Call) → whole (call_form s o SetRootTransform) words ≡ Ok c
    → Spelt s SetRootTransform words c
spelt-SetRootTransform s o words c is =
    let h : TransformId → Call = λ t. call.SetRootTransform t in
    let given = whole_ok (call_form s o SetRootTransform) words c is in
    let p1 = map_ok h transform words c [] given in
    let value : h p1.a ≡ c = p1.value in
    let taken : words ≡ call_fields s (h p1.a) = transform_words.takes words p1.a [] p1.given in
    record { fields = ap (call_fields s) (sym value) ∙ sym taken; named = ap call_name (sym value) }

pub spelt-SetHitRegions : (s : Script) (o : SessionNo) (words : List Word) (c : Call) → whole (call_form s o SetHitRegions) words ≡ Ok c
    → Spelt s SetHitRegions words c
spelt-SetHitRegions s o words c is =
    let h : TransformId → List HitRegion → Call = λ t r. call.SetHitRegions t r in
    let given = whole_ok (call_form s o SetHitRegions) words c is in
    let p2 = split (h <$> transform) (λ ws. (regions ws, [])) (λ rs. flat_map region_words rs) words c [] regions_words given in
    let p1 = map_ok h transform words p2.g p2.mid p2.first in
    let value : h p1.a p2.a ≡ c = steps_2 h p1.a p2.g p2.a c p1.value p2.value in
    let taken : words ≡ call_fields s (h p1.a p2.a) = transform_words.takes words p1.a p2.mid p1.given ∙ ap (λ t. decimal p1.a.0 ∷ t) (p2.behind)
    ∙ ap (λ t. decimal p1.a.0 ∷ t) (append-nil (flat_map region_words p2.a)) in
    record { fields = ap (call_fields s) (sym value) ∙ sym taken; named = ap call_name (sym value) }

pub spelt-SetInfiniteHitRegion : (s : Script) (o : SessionNo) (words : List Word) (c : Call) → whole (call_form s o SetInfiniteHitRegion) words ≡ Ok c
    → Spelt s SetInfiniteHitRegion words c
spelt-SetInfiniteHitRegion s o words c is =
    let h : TransformId → Interaction → Call = λ t i. call.SetInfiniteHitRegion t i in
    let given = whole_ok (call_form s o SetInfiniteHitRegion) words c is in
    let p2 = split (h <$> transform) interaction (λ i. decimal (interaction_number i) ∷ []) words c [] interaction_words given in
    let p1 = map_ok h transform words p2.g p2.mid p2.first in
    let value : h p1.a p2.a ≡ c = steps_2 h p1.a p2.g p2.a c p1.value p2.value in
    let taken : words ≡ call_fields s (h p1.a p2.a) = transform_words.takes words p1.a p2.mid p1.given ∙ ap (λ t. decimal p1.a.0 ∷ t) (p2.behind) in
    record { fields = ap (call_fields s) (sym value) ∙ sym taken; named = ap call_name (sym value) }

pub spelt-SetContent : (s : Script) (o : SessionNo) (words : List Word) (c : Call) → whole (call_form s o SetContent) words ≡ Ok c → Spelt s SetContent words c
spelt-SetContent s o words c is =
    let h : TransformId → ContentId → Call = λ t d. call.SetContent t d in
    let given = whole_ok (call_form s o SetContent) words c is in
    let p2 = split (h <$> transform) content (λ t. decimal t.0 ∷ []) words c [] content_words given in
    let p1 = map_ok h transform words p2.g p2.mid p2.first in
    let value : h p1.a p2.a ≡ c = steps_2 h p1.a p2.g p2.a c p1.value p2.value in
    let taken : words ≡ call_fields s (h p1.a p2.a) = transform_words.takes words p1.a p2.mid p1.given ∙ ap (λ t. decimal p1.a.0 ∷ t) (p2.behind) in
    record { fields = ap (call_fields s) (sym value) ∙ sym taken; named = ap call_name (sym value) }

pub spelt-ReleaseView : (s : Script) (o : SessionNo) (words : List Word) (c : Call) → whole (call_form s o ReleaseView) words ≡ Ok c
    → Spelt s ReleaseView words c
spelt-ReleaseView s o words c is =
    let given = whole_ok (call_form s o ReleaseView) words c is in
    let same = given.value in
    let value : call.ReleaseView ≡ c = cc in
    record { fields = ap (call_fields s) (sym value) ∙ sym given.left; named = ap call_name (sym value) }

pub spelt-Clear : (s : Script) (o : SessionNo) (words : List Word) (c : Call) → whole (call_form s o Clear) words ≡ Ok c → Spelt s Clear words c
spelt-Clear s o words c is =
    let given = whole_ok (call_form s o Clear) words c is in
    let same = given.value in
    let value : call.Clear ≡ c = cc in
    record { fields = ap (call_fields s) (sym value) ∙ sym given.left; named = ap call_name (sym value) }

pub spelt-SetOrientation : (s : Script) (o : SessionNo) (words : List Word) (c : Call) → whole (call_form s o SetOrientation) words ≡ Ok c
    → Spelt s SetOrientation words c
spelt-SetOrientation s o words c is =
    let h : TransformId → Orientation → Call = λ x1 x2. call.SetOrientation x1 x2 in
    let given = whole_ok (call_form s o SetOrientation) words c is in
    let p2 = split (h <$> transform) orientation (λ o. decimal (orientation_number o) ∷ []) words c [] orientation_words given in
    let p1 = map_ok h transform words p2.g p2.mid p2.first in
    let value : h p1.a p2.a ≡ c = steps_2 h p1.a p2.g p2.a c p1.value p2.value in
    let taken : words ≡ call_fields s (h p1.a p2.a) = transform_words.takes words p1.a p2.mid p1.given ∙ ap (λ t. decimal p1.a.0 ∷ t) (p2.behind) in
    record { fields = ap (call_fields s) (sym value) ∙ sym taken; named = ap call_name (sym value) }

pub spelt-SetScale : (s : Script) (o : SessionNo) (words : List Word) (c : Call) → whole (call_form s o SetScale) words ≡ Ok c → Spelt s SetScale words c
spelt-SetScale s o words c is =
    let h : TransformId → ℕ → ℕ → Call = λ x1 x2 x3. call.SetScale x1 x2 x3 in
    let given = whole_ok (call_form s o SetScale) words c is in
    let p3 = split (h <$> transform <*> u32) u32 (λ n. decimal n ∷ []) words c [] (number_words (2 ^ 32)) given in
    let p2 = split (h <$> transform) u32 (λ n. decimal n ∷ []) words p3.g p3.mid (number_words (2 ^ 32)) p3.first in
    let p1 = map_ok h transform words p2.g p2.mid p2.first in
    let value : h p1.a p2.a p3.a ≡ c = steps_3 h p1.a p2.g p2.a p3.g p3.a c p1.value p2.value p3.value in
    let taken : words ≡ call_fields s (h p1.a p2.a p3.a) =
    transform_words.takes words p1.a p2.mid p1.given ∙ ap (λ t. decimal p1.a.0 ∷ t) (p2.behind ∙ ap (λ t. decimal p2.a ∷ t) (p3.behind)) in
    record { fields = ap (call_fields s) (sym value) ∙ sym taken; named = ap call_name (sym value) }

pub spelt-SetOpacity : (s : Script) (o : SessionNo) (words : List Word) (c : Call) → whole (call_form s o SetOpacity) words ≡ Ok c → Spelt s SetOpacity words c
spelt-SetOpacity s o words c is =
    let h : TransformId → ℕ → Call = λ x1 x2. call.SetOpacity x1 x2 in
    let given = whole_ok (call_form s o SetOpacity) words c is in
    let p2 = split (h <$> transform) u32 (λ n. decimal n ∷ []) words c [] (number_words (2 ^ 32)) given in
    let p1 = map_ok h transform words p2.g p2.mid p2.first in
    let value : h p1.a p2.a ≡ c = steps_2 h p1.a p2.g p2.a c p1.value p2.value in
    let taken : words ≡ call_fields s (h p1.a p2.a) = transform_words.takes words p1.a p2.mid p1.given ∙ ap (λ t. decimal p1.a.0 ∷ t) (p2.behind) in
    record { fields = ap (call_fields s) (sym value) ∙ sym taken; named = ap call_name (sym value) }

pub spelt-SetClipBoundary : (s : Script) (o : SessionNo) (words : List Word) (c : Call) → whole (call_form s o SetClipBoundary) words ≡ Ok c
    → Spelt s SetClipBoundary words c
spelt-SetClipBoundary s o words c is =
    let h : TransformId → Option IntRect → Call = λ x1 x2. call.SetClipBoundary x1 x2 in
    let given = whole_ok (call_form s o SetClipBoundary) words c is in
    let p2 = split (h <$> transform) (optional int_rect) (λ r. option_map_or rect_words r []) words c [] (optional_words int_rect rect_words int_rect_words)
    given in
    let p1 = map_ok h transform words p2.g p2.mid p2.first in
    let value : h p1.a p2.a ≡ c = steps_2 h p1.a p2.g p2.a c p1.value p2.value in
    let taken : words ≡ call_fields s (h p1.a p2.a) = transform_words.takes words p1.a p2.mid p1.given ∙ ap (λ t. decimal p1.a.0 ∷ t) (p2.behind)
    ∙ ap (λ t. decimal p1.a.0 ∷ t) (append-nil (option_map_or rect_words p2.a [])) in
    record { fields = ap (call_fields s) (sym value) ∙ sym taken; named = ap call_name (sym value) }
