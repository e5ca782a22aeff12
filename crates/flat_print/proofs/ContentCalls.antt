-- The words of each call on images and fills are those that it was read from.
use Rattle.std.proofs.Common.{◌≡◌, ℕ, ◌^◌, List, [], ◌∷◌}
use Rattle.std.proofs.Common.{Ok, sym, ◌∙◌, ap}
use Rattle.std.proofs.Common.{append-nil}
use Rattle.std.specs.Fmt.{decimal}
use Rattle.flat_base.specs.declared.ids.SessionNo.{SessionNo}
use Rattle.flat_base.specs.declared.ids.BufferNo.{BufferNo}
use Rattle.flat_scene.specs.declared.calls.BlendMode.{BlendMode}
use Rattle.flat_scene.specs.declared.calls.ImageFlip.{ImageFlip}
use Rattle.flat_base.specs.declared.ids.ContentId.{ContentId}
use Rattle.flat_base.specs.declared.shapes.IntRect.{IntRect}
use Rattle.flat_scene.specs.declared.calls.Call.{Call}
use Rattle.flat_scene.specs.declared.calls.Call.TheVariants as call
use Rattle.flat_forms.specs.declared.calls.CallName.TheVariants.{CreateImage}
use Rattle.flat_forms.specs.declared.calls.CallName.TheVariants.{SetImageSampleRegion, SetImageDestinationSize, SetImageBlendingFunction, SetImageFlip}
use Rattle.flat_forms.specs.declared.calls.CallName.TheVariants.{SetImageOpacity, ReleaseImage, CreateFilledRect, SetSolidFill, ReleaseFilledRect}
use Rattle.flat_places.specs.declared.script.Script.{Script}
use Rattle.flat_places.specs.Forms.{Word, whole, ◌<$>◌, ◌<*>◌}
use Rattle.flat_places.specs.Places.{u32, colour, content, blend, flip}
use Rattle.flat_places.specs.Places.{collection, int_rect}
use Rattle.flat_forms.specs.Calls.{call_form}
use Rattle.flat_print.specs.Print.{buffers_word, call_fields, call_name, rect_words}
use Rattle.flat_print.specs.Print.{blend_number}
use Rattle.flat_print.specs.Choices.{flip_number}
use Rattle.flat_forms.proofs.lemmas.FormLemmas.{map_ok, whole_ok}
use Rattle.flat_print.proofs.ValueWords.{number_words, content_words, blend_words, flip_words}
use Rattle.flat_print.proofs.NameWords.{collection_words}
use Rattle.flat_print.proofs.FieldWords.{split, steps_2, steps_3, steps_5, steps_7, int_rect_words}
use Rattle.flat_print.proofs.SpeltCalls.{Spelt}

pub spelt-CreateFilledRect : (s : Script) (o : SessionNo) (words : List Word) (c : Call) → whole (call_form s o CreateFilledRect) words ≡ Ok c
    → Spelt s CreateFilledRect words c
spelt-CreateFilledRect s o words c is =
    let h : ContentId → Call = λ d. call.CreateFilledRect d in
    let given = whole_ok (call_form s o CreateFilledRect) words c is in
    let p1 = map_ok h content words c [] given in
    let value : h p1.a ≡ c = p1.value in
    let taken : words ≡ call_fields s (h p1.a) = content_words.takes words p1.a [] p1.given in
    record { fields = ap (call_fields s) (sym value) ∙ sym taken; named = ap call_name (sym value) }

pub spelt-SetSolidFill : (s : Script) (o : SessionNo) (words : List Word) (c : Call) → whole (call_form s o SetSolidFill) words ≡ Ok c
    → Spelt s SetSolidFill words c
spelt-SetSolidFill s o words c is =
    let h : ContentId → ℕ → ℕ → ℕ → ℕ → ℕ → ℕ → Call = λ d r g b a w h. call.SetSolidFill d r g b a w h in
    let given = whole_ok (call_form s o SetSolidFill) words c is in
    let p7 = split (h <$> content <*> colour <*> colour <*> colour <*> colour <*> u32) u32 (λ n. decimal n ∷ []) words c [] (number_words (2 ^ 32)) given in
    let p6 = split (h <$> content <*> colour <*> colour <*> colour <*> colour) u32 (λ n. decimal n ∷ []) words p7.g p7.mid (number_words (2 ^ 32)) p7.first in
    let p5 = split (h <$> content <*> colour <*> colour <*> colour) colour (λ n. decimal n ∷ []) words p6.g p6.mid (number_words 256) p6.first in
    let p4 = split (h <$> content <*> colour <*> colour) colour (λ n. decimal n ∷ []) words p5.g p5.mid (number_words 256) p5.first in
    let p3 = split (h <$> content <*> colour) colour (λ n. decimal n ∷ []) words p4.g p4.mid (number_words 256) p4.first in
    let p2 = split (h <$> content) colour (λ n. decimal n ∷ []) words p3.g p3.mid (number_words 256) p3.first in
    let p1 = map_ok h content words p2.g p2.mid p2.first in
    let value : h p1.a p2.a p3.a p4.a p5.a p6.a p7.a ≡ c =
    steps_7 h p1.a p2.g p2.a p3.g p3.a p4.g p4.a p5.g p5.a p6.g p6.a p7.g p7.a c p1.value p2.value p3.value p4.value p5.value p6.value p7.value in
    let taken : words ≡ call_fields s (h p1.a p2.a p3.a p4.a p5.a p6.a p7.a) =
    content_words.takes words p1.a p2.mid p1.given ∙ ap (λ t. decimal p1.a.0 ∷ t)
    (p2.behind ∙ ap (λ t. decimal p2.a ∷ t) (p3.behind
    ∙ ap (λ t. decimal p3.a ∷ t) (p4.behind ∙ ap (λ t. decimal p4.a ∷ t)
    (p5.behind ∙ ap (λ t. decimal p5.a ∷ t) (p6.behind ∙ ap (λ t. decimal p6.a ∷ t) (p7.behind)))))) in
    record { fields = ap (call_fields s) (sym value) ∙ sym taken; named = ap call_name (sym value) }

pub spelt-ReleaseFilledRect : (s : Script) (o : SessionNo) (words : List Word) (c : Call) → whole (call_form s o ReleaseFilledRect) words ≡ Ok c
    → Spelt s ReleaseFilledRect words c
spelt-ReleaseFilledRect s o words c is =
    let h : ContentId → Call = λ d. call.ReleaseFilledRect d in
    let given = whole_ok (call_form s o ReleaseFilledRect) words c is in
    let p1 = map_ok h content words c [] given in
    let value : h p1.a ≡ c = p1.value in
    let taken : words ≡ call_fields s (h p1.a) = content_words.takes words p1.a [] p1.given in
    record { fields = ap (call_fields s) (sym value) ∙ sym taken; named = ap call_name (sym value) }

pub spelt-CreateImage : (s : Script) (o : SessionNo) (words : List Word) (c : Call) → whole (call_form s o CreateImage) words ≡ Ok c
    → Spelt s CreateImage words c
spelt-CreateImage s o words c is =
    let h : ContentId → BufferNo → ℕ → ℕ → ℕ → Call = λ x1 x2 x3 x4 x5. call.CreateImage x1 x2 x3 x4 x5 in
    let given = whole_ok (call_form s o CreateImage) words c is in
    let p5 = split (h <$> content <*> (collection s o) <*> u32 <*> u32) u32 (λ n. decimal n ∷ []) words c [] (number_words (2 ^ 32)) given in
    let p4 = split (h <$> content <*> (collection s o) <*> u32) u32 (λ n. decimal n ∷ []) words p5.g p5.mid (number_words (2 ^ 32)) p5.first in
    let p3 = split (h <$> content <*> (collection s o)) u32 (λ n. decimal n ∷ []) words p4.g p4.mid (number_words (2 ^ 32)) p4.first in
    let p2 = split (h <$> content) (collection s o) (λ b. buffers_word s b ∷ []) words p3.g p3.mid (collection_words s o) p3.first in
    let p1 = map_ok h content words p2.g p2.mid p2.first in
    let value : h p1.a p2.a p3.a p4.a p5.a ≡ c = steps_5 h p1.a p2.g p2.a p3.g p3.a p4.g p4.a p5.g p5.a c p1.value p2.value p3.value p4.value p5.value in
    let taken : words ≡ call_fields s (h p1.a p2.a p3.a p4.a p5.a) =
    content_words.takes words p1.a p2.mid p1.given ∙ ap (λ t. decimal p1.a.0 ∷ t)
    (p2.behind ∙ ap (λ t. buffers_word s p2.a ∷ t) (p3.behind ∙ ap (λ t. decimal p3.a ∷ t) (p4.behind ∙ ap (λ t. decimal p4.a ∷ t) (p5.behind)))) in
    record { fields = ap (call_fields s) (sym value) ∙ sym taken; named = ap call_name (sym value) }

pub spelt-SetImageSampleRegion : (s : Script) (o : SessionNo) (words : List Word) (c : Call) → whole (call_form s o SetImageSampleRegion) words ≡ Ok c
    → Spelt s SetImageSampleRegion words c
spelt-SetImageSampleRegion s o words c is =
    let h : ContentId → IntRect → Call = λ x1 x2. call.SetImageSampleRegion x1 x2 in
    let given = whole_ok (call_form s o SetImageSampleRegion) words c is in
    let p2 = split (h <$> content) int_rect rect_words words c [] int_rect_words given in
    let p1 = map_ok h content words p2.g p2.mid p2.first in
    let value : h p1.a p2.a ≡ c = steps_2 h p1.a p2.g p2.a c p1.value p2.value in
    let taken : words ≡ call_fields s (h p1.a p2.a) = content_words.takes words p1.a p2.mid p1.given ∙ ap (λ t. decimal p1.a.0 ∷ t) (p2.behind)
    ∙ ap (λ t. decimal p1.a.0 ∷ t) (append-nil (rect_words p2.a)) in
    record { fields = ap (call_fields s) (sym value) ∙ sym taken; named = ap call_name (sym value) }

pub spelt-SetImageDestinationSize : (s : Script) (o : SessionNo) (words : List Word) (c : Call) → whole (call_form s o SetImageDestinationSize) words ≡ Ok c
    → Spelt s SetImageDestinationSize words c
spelt-SetImageDestinationSize s o words c is =
    let h : ContentId → ℕ → ℕ → Call = λ x1 x2 x3. call.SetImageDestinationSize x1 x2 x3 in
    let given = whole_ok (call_form s o SetImageDestinationSize) words c is in
    let p3 = split (h <$> content <*> u32) u32 (λ n. decimal n ∷ []) words c [] (number_words (2 ^ 32)) given in
    let p2 = split (h <$> content) u32 (λ n. decimal n ∷ []) words p3.g p3.mid (number_words (2 ^ 32)) p3.first in
    let p1 = map_ok h content words p2.g p2.mid p2.first in
    let value : h p1.a p2.a p3.a ≡ c = steps_3 h p1.a p2.g p2.a p3.g p3.a c p1.value p2.value p3.value in
    let taken : words ≡ call_fields s (h p1.a p2.a p3.a) =
    content_words.takes words p1.a p2.mid p1.given ∙ ap (λ t. decimal p1.a.0 ∷ t) (p2.behind ∙ ap (λ t. decimal p2.a ∷ t) (p3.behind)) in
    record { fields = ap (call_fields s) (sym value) ∙ sym taken; named = ap call_name (sym value) }

pub spelt-SetImageBlendingFunction : (s : Script) (o : SessionNo) (words : List Word) (c : Call) → whole (call_form s o SetImageBlendingFunction) words ≡ Ok c
    → Spelt s SetImageBlendingFunction words c
spelt-SetImageBlendingFunction s o words c is =
    let h : ContentId → BlendMode → Call = λ x1 x2. call.SetImageBlendingFunction x1 x2 in
    let given = whole_ok (call_form s o SetImageBlendingFunction) words c is in
    let p2 = split (h <$> content) blend (λ m. decimal (blend_number m) ∷ []) words c [] blend_words given in
    let p1 = map_ok h content words p2.g p2.mid p2.first in
    let value : h p1.a p2.a ≡ c = steps_2 h p1.a p2.g p2.a c p1.value p2.value in
    let taken : words ≡ call_fields s (h p1.a p2.a) = content_words.takes words p1.a p2.mid p1.given ∙ ap (λ t. decimal p1.a.0 ∷ t) (p2.behind) in
    record { fields = ap (call_fields s) (sym value) ∙ sym taken; named = ap call_name (sym value) }

pub spelt-SetImageFlip : (s : Script) (o : SessionNo) (words : List Word) (c : Call) → whole (call_form s o SetImageFlip) words ≡ Ok c
    → Spelt s SetImageFlip words c
spelt-SetImageFlip s o words c is =
    let h : ContentId → ImageFlip → Call = λ x1 x2. call.SetImageFlip x1 x2 in
    let given = whole_ok (call_form s o SetImageFlip) words c is in
    let p2 = split (h <$> content) flip (λ f. decimal (flip_number f) ∷ []) words c [] flip_words given in
    let p1 = map_ok h content words p2.g p2.mid p2.first in
    let value : h p1.a p2.a ≡ c = steps_2 h p1.a p2.g p2.a c p1.value p2.value in
    let taken : words ≡ call_fields s (h p1.a p2.a) = content_words.takes words p1.a p2.mid p1.given ∙ ap (λ t. decimal p1.a.0 ∷ t) (p2.behind) in
    record { fields = ap (call_fields s) (sym value) ∙ sym taken; named = ap call_name (sym value) }

pub spelt-SetImageOpacity : (s : Script) (o : SessionNo) (words : List Word) (c : Call) → whole (call_form s o SetImageOpacity) words ≡ Ok c
    → Spelt s SetImageOpacity words c
spelt-SetImageOpacity s o words c is =
    let h : ContentId → ℕ → Call = λ x1 x2. call.SetImageOpacity x1 x2 in
    let given = whole_ok (call_form s o SetImageOpacity) words c is in
    let p2 = split (h <$> content) u32 (λ n. decimal n ∷ []) words c [] (number_words (2 ^ 32)) given in
    let p1 = map_ok h content words p2.g p2.mid p2.first in
    let value : h p1.a p2.a ≡ c = steps_2 h p1.a p2.g p2.a c p1.value p2.value in
    let taken : words ≡ call_fields s (h p1.a p2.a) = content_words.takes words p1.a p2.mid p1.given ∙ ap (λ t. decimal p1.a.0 ∷ t) (p2.behind) in
    record { fields = ap (call_fields s) (sym value) ∙ sym taken; named = ap call_name (sym value) }

pub spelt-ReleaseImage : (s : Script) (o : SessionNo) (words : List Word) (c : Call) → whole (call_form s o ReleaseImage) words ≡ Ok c
    → Spelt s ReleaseImage words c
spelt-ReleaseImage s o words c is =
    let h : ContentId → Call = λ x1. call.ReleaseImage x1 in
    let given = whole_ok (call_form s o ReleaseImage) words c is in
    let p1 = map_ok h content words c [] given in
    let value : h p1.a ≡ c = p1.value in
    let taken : words ≡ call_fields s (h p1.a) = content_words.takes words p1.a [] p1.given in
    record { fields = ap (call_fields s) (sym value) ∙ sym taken; named = ap call_name (sym value) }
