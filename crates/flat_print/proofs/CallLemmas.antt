-- The words of each call are read as it.
use Rattle.std.proofs.Common.{◌≡◌, Bool, true, false, cond, List, [], ◌∷◌}
use Rattle.std.proofs.Common.{Option, Some, None, Ok, refl, sym, ◌∙◌, ap}
use Rattle.std.proofs.Common.{subst}
use Rattle.std.specs.List.{find}
use Rattle.std.specs.Str.{bytes_eq}
use Rattle.std.proofs.lemmas.Slice.Eq.{bytes_eq-Decides}
use Rattle.flat_base.specs.declared.ids.SessionNo.{SessionNo}
use Rattle.flat_scene.specs.declared.calls.Call.{Call}
use Rattle.flat_forms.specs.declared.calls.CallName.{CallName}
use Rattle.flat_forms.specs.declared.calls.CallName.TheVariants.{CreateView, ReleaseView, CreateTransform, ReleaseTransform, SetTranslation, SetOrientation}
use Rattle.flat_forms.specs.declared.calls.CallName.TheVariants.{SetScale, SetOpacity, SetClipBoundary, AddChild, RemoveChild, ReplaceChildren}
use Rattle.flat_forms.specs.declared.calls.CallName.TheVariants.{SetRootTransform, SetViewportProperties, ReleaseViewport, CreateImage}
use Rattle.flat_forms.specs.declared.calls.CallName.TheVariants.{SetImageSampleRegion, SetImageDestinationSize, SetImageBlendingFunction, SetImageFlip}
use Rattle.flat_forms.specs.declared.calls.CallName.TheVariants.{SetImageOpacity, ReleaseImage, CreateFilledRect, SetSolidFill, ReleaseFilledRect}
use Rattle.flat_forms.specs.declared.calls.CallName.TheVariants.{SetHitRegions, SetInfiniteHitRegion, SetContent, Clear}
use Rattle.flat_places.specs.declared.script.Script.{Script}
use Rattle.flat_places.specs.Forms.{Word, whole}
use Rattle.flat_forms.specs.Calls.{call_form, call_named, call_written, call_names, text}
use Rattle.flat_places.specs.Known.{knows}
use Rattle.flat_print.specs.Print.{call_fields, call_name}
use Rattle.flat_forms.proofs.lemmas.FormLemmas.{Shown}
use Rattle.flat_print.proofs.SpeltCalls.{CallShown, in_full}
use Rattle.flat_print.proofs.TransformCalls.{spelt-CreateView, spelt-CreateTransform, spelt-ReleaseTransform, spelt-SetTranslation, spelt-AddChild}
use Rattle.flat_print.proofs.TransformCalls.{spelt-RemoveChild, spelt-ReplaceChildren, spelt-SetRootTransform, spelt-SetHitRegions, spelt-SetInfiniteHitRegion}
use Rattle.flat_print.proofs.TransformCalls.{spelt-SetContent, spelt-ReleaseView, spelt-Clear, spelt-SetOrientation, spelt-SetScale, spelt-SetOpacity}
use Rattle.flat_print.proofs.TransformCalls.{spelt-SetClipBoundary}
use Rattle.flat_print.proofs.ContentCalls.{spelt-CreateFilledRect, spelt-SetSolidFill, spelt-ReleaseFilledRect, spelt-CreateImage, spelt-SetImageSampleRegion}
use Rattle.flat_print.proofs.ContentCalls.{spelt-SetImageDestinationSize, spelt-SetImageBlendingFunction, spelt-SetImageFlip, spelt-SetImageOpacity}
use Rattle.flat_print.proofs.ContentCalls.{spelt-ReleaseImage}
use Rattle.flat_print.proofs.ViewportCalls.{spelt-SetViewportProperties, spelt-ReleaseViewport, shown-CreateViewport}

abbrev pub AllShown : Script → SessionNo → List CallName → Type 0
AllShown s o [] = Unit {0}
AllShown s o (n ∷ ns) = CallShown s o n × AllShown s o ns

all_shown : (s : Script) (o : SessionNo) → AllShown s o call_names
all_shown s o = (
  in_full s o CreateView (spelt-CreateView s o),
  (
    in_full s o ReleaseView (spelt-ReleaseView s o),
    (
      in_full s o CreateTransform (spelt-CreateTransform s o),
      (
        in_full s o ReleaseTransform (spelt-ReleaseTransform s o),
        (
          in_full s o SetTranslation (spelt-SetTranslation s o),
          (
            in_full s o SetOrientation (spelt-SetOrientation s o),
            (
              in_full s o SetScale (spelt-SetScale s o),
              (
                in_full s o SetOpacity (spelt-SetOpacity s o),
                (
                  in_full s o SetClipBoundary (spelt-SetClipBoundary s o),
                  (
                    in_full s o AddChild (spelt-AddChild s o),
                    (
                      in_full s o RemoveChild (spelt-RemoveChild s o),
                      (
                        in_full s o ReplaceChildren (spelt-ReplaceChildren s o),
                        (
                          in_full s o SetRootTransform (spelt-SetRootTransform s o),
                          (
                            shown-CreateViewport s o,
                            (
                              in_full s o SetViewportProperties (spelt-SetViewportProperties s o),
                              (
                                in_full s o ReleaseViewport (spelt-ReleaseViewport s o),
                                (
                                  in_full s o CreateImage (spelt-CreateImage s o),
                                  (
                                    in_full s o SetImageSampleRegion (spelt-SetImageSampleRegion s o),
                                    (
                                      in_full s o SetImageDestinationSize (spelt-SetImageDestinationSize s o),
                                      (
                                        in_full s o SetImageBlendingFunction (spelt-SetImageBlendingFunction s o),
                                        (
                                          in_full s o SetImageFlip (spelt-SetImageFlip s o),
                                          (
                                            in_full s o SetImageOpacity (spelt-SetImageOpacity s o),
                                            (
                                              in_full s o ReleaseImage (spelt-ReleaseImage s o),
                                              (
                                                in_full s o CreateFilledRect (spelt-CreateFilledRect s o),
                                                (
                                                  in_full s o SetSolidFill (spelt-SetSolidFill s o),
                                                  (
                                                    in_full s o ReleaseFilledRect (spelt-ReleaseFilledRect s o),
                                                    (
                                                      in_full s o SetHitRegions (spelt-SetHitRegions s o),
                                                      (
                                                        in_full s o SetInfiniteHitRegion (spelt-SetInfiniteHitRegion s o),
                                                        (in_full s o SetContent (spelt-SetContent s o), (in_full s o Clear (spelt-Clear s o), tt)),
                                                      ),
                                                    ),
                                                  ),
                                                ),
                                              ),
                                            ),
                                          ),
                                        ),
                                      ),
                                    ),
                                  ),
                                ),
                              ),
                            ),
                          ),
                        ),
                      ),
                    ),
                  ),
                ),
              ),
            ),
          ),
        ),
      ),
    ),
  ),
)

shown_at : (s : Script) (o : SessionNo) (n m : CallName) → m ≡ n → CallShown s o m → CallShown s o n
shown_at s o n m e spelt = let P : CallName → Type 0 = CallShown s o in subst P e spelt

found_by : (s : Script) (o : SessionNo) (p : CallName → Bool) (b : Bool) (m n : CallName) (more : Option CallName) → p m ≡ b → CallShown s o m
    → (more ≡ Some n → CallShown s o n × (p n ≡ true)) → cond b (Some m) more ≡ Some n
    → CallShown s o n × (p n ≡ true)
found_by s o p true m n more passed spelt rest is = let e : m ≡ n = cc in (shown_at s o n m e spelt, ap p (sym e) ∙ passed)
found_by s o p false m n more wrong spelt rest is = rest is

find_shown : (s : Script) (o : SessionNo) (p : CallName → Bool) (ns : List CallName) (n : CallName) → AllShown s o ns → find p ns ≡ Some n
    → CallShown s o n × (p n ≡ true)
find_shown s o p [] n all is = absurd (cc)
find_shown s o p (m ∷ ns) n all is = found_by s o p (p m) m n (find p ns) refl all.0 (λ more. find_shown s o p ns n all.1 more) is

-- a known call, by its first word
pub record NamedCall (s : Script) (o : SessionNo) (w : Word) (n : CallName) (words : List Word) (c : Call) : Type 0 where
  pub fields : Shown (whole (call_form s o n)) (call_fields s c) words c
  pub word : text (call_name c) ≡ w

pub call_shown : (s : Script) (o : SessionNo) (w : Word) (n : CallName) → call_named s.version w ≡ Some n → (words : List Word) (c : Call)
    → whole (call_form s o n) words ≡ Ok c → NamedCall s o w n words c
call_shown s o w n named words c is =
    let found = find_shown s o (λ m. bytes_eq w (text m)) call_names n (all_shown s o) (written_by (knows s.version w) named) in
    let shown = found.0 words c is in
    record { fields = shown.fields; word = ap text shown.named ∙ sym ((bytes_eq-Decides w (text n)).0 found.1) }
  where
    written_by : (b : Bool) → cond b (call_written w) None ≡ Some n → call_written w ≡ Some n
    written_by true is = is
    written_by false is = absurd (cc)
