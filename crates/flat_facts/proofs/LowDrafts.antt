-- No transform and no image of a draft has too great an opacity.
use Rattle.std.proofs.Common.{◌≡◌, ℕ, ◌-◌, Bool, true, false, cond, ◌==◌, nat_lt, nat_le, List, [], ◌∷◌, ◌++◌, map, refl, sym, ap, ◌∙◌, subst, arith, Option}
use Rattle.std.proofs.Common.{Some, None, Ok, Err}
use Rattle.std.specs.List.{list_all}
use Rattle.std.proofs.lemmas.Bool.Decides.{nat_tests}
use Rattle.flat_base.specs.declared.errors.Reason.{Reason}
use Rattle.flat_base.specs.declared.limits.TheConstants.{OPACITY_MAX}
use Rattle.flat_scene.specs.declared.calls.Call.{Call}
use Rattle.flat_scene.specs.declared.calls.Call.TheVariants.{CreateView, ReleaseView, CreateTransform, ReleaseTransform, SetTranslation, SetOrientation}
use Rattle.flat_scene.specs.declared.calls.Call.TheVariants.{SetScale, SetOpacity, SetClipBoundary, AddChild, RemoveChild, ReplaceChildren, SetRootTransform}
use Rattle.flat_scene.specs.declared.calls.Call.TheVariants.{CreateViewport, SetViewportProperties, ReleaseViewport, CreateImage, SetImageSampleRegion}
use Rattle.flat_scene.specs.declared.calls.Call.TheVariants.{SetImageDestinationSize, SetImageBlendingFunction, SetImageFlip, SetImageOpacity, ReleaseImage}
use Rattle.flat_scene.specs.declared.calls.Call.TheVariants.{CreateFilledRect, SetSolidFill, ReleaseFilledRect, SetHitRegions, SetInfiniteHitRegion, SetContent}
use Rattle.flat_scene.specs.declared.calls.Call.TheVariants.{Clear}
use Rattle.flat_scene.specs.declared.setup.Setup.{Setup}
use Rattle.flat_scene.specs.Draft.{Draft, Transform, Image, Solid, Made, an_image, a_fill, a_viewport, changed_at, empty_draft, transform_of, content_of}
use Rattle.flat_scene.specs.Draft.{new_transform}
use Rattle.flat_scene.specs.declared.calls.ViewportProps.{ViewportProps}
use Rattle.flat_scene.specs.Effect.{effect, on_image, on_viewport, on_fill, draft_of, after_calls, unless, changed_if}
use Rattle.flat_scene.specs.Misuse.{misuse, first_reason, Test, names_transform, names_content, is_image}
use Rattle.flat_base.proofs.lemmas.Tests.{and-left, and-right, all-more}
use Rattle.flat_facts.proofs.lemmas.ViewCalls.{after-refused as after_error}
use Rattle.std.proofs.lemmas.Bool.{and_from}

-- ---- drafts

-- a content that is no image of more than full opacity
abbrev pub is_low : Made → Bool
is_low (an_image image) = nat_le image.opacity OPACITY_MAX
is_low (a_fill solid) = true
is_low (a_viewport pair props) = true

abbrev pub is_dim : Transform → Bool
is_dim t = nat_le t.opacity OPACITY_MAX

-- A draft in which nothing has too great an opacity.
pub record IsLowDraft (draft : Draft) : Type 0 where
  pub contents : list_all is_low draft.contents ≡ true
  pub transforms : list_all is_dim draft.transforms ≡ true

module _ {A : Type 0} (p : A → Bool) (f : A → A) (keeps : (x : A) → p x ≡ true → p (f x) ≡ true) where
  pick : (b : Bool) (x : A) (xs changed : List A) → p x ≡ true → list_all p xs ≡ true → list_all p changed ≡ true
      → list_all p (cond b (f x ∷ xs) (x ∷ changed)) ≡ true
  pick true x xs changed here all more = and_from _ _ (keeps x here) all
  pick false x xs changed here all more = and_from _ _ here more

  all_changed : (n : ℕ) (xs : List A) → list_all p xs ≡ true → list_all p (changed_at n f xs) ≡ true
  all_changed n [] all = refl
  all_changed n (x ∷ xs) all =
      pick (n == 1) x xs (changed_at (n - 1) f xs) (and-left (p x) (list_all p xs) all) (and-right (p x) (list_all p xs) all)
      (all_changed (n - 1) xs (and-right (p x) (list_all p xs) all))

  pub all_changed_if : (serial : Option ℕ) (xs : List A) → list_all p xs ≡ true → list_all p (changed_if serial f xs) ≡ true
  all_changed_if None xs all = all
  all_changed_if (Some n) xs all = all_changed n xs all

all_mapped : {A : Type 0} (p : A → Bool) (f : A → A) → ((x : A) → p (f x) ≡ p x) → (xs : List A) → list_all p xs ≡ true → list_all p (map f xs) ≡ true
all_mapped p f same [] all = refl
all_mapped p f same (x ∷ xs) all = and_from _ _ (same x ∙ and-left (p x) (list_all p xs) all) (all_mapped p f same xs (and-right (p x) (list_all p xs) all))

rest_none : (t : Bool) (r : Reason) (more : Option Reason) → cond t (Some r) more ≡ None → more ≡ None
rest_none true r more none = absurd (cc)
rest_none false r more none = none

-- the last of several tests doesn't hold where none does
none_last : (tests : List Test) (b : Bool) (reason : Reason) → first_reason (tests ++ (b, reason) ∷ []) ≡ None → b ≡ false
none_last [] true reason none = absurd (cc)
none_last [] false reason none = refl
none_last (test ∷ tests) b reason none = none_last tests b reason (rest_none test.0 test.1 (first_reason (tests ++ (b, reason) ∷ [])) none)

not_above : (v : ℕ) → nat_lt OPACITY_MAX v ≡ false → nat_le v OPACITY_MAX ≡ true
not_above v low = grind (arith, nat_tests)

module _ (setup : Setup) (d : Draft) (good : IsLowDraft d) where
  -- a change of one transform that leaves its opacity
  same_opacity : (serial : Option ℕ) (f : Transform → Transform) → ((t : Transform) → is_dim t ≡ true → is_dim (f t) ≡ true)
      → IsLowDraft (record d { transforms = changed_if serial f d.transforms })
  same_opacity serial f keeps = record { contents = good.contents; transforms = all_changed_if is_dim f keeps serial d.transforms good.transforms }

  -- a change of one content that leaves it low
  same_content : (serial : Option ℕ) (f : Made → Made) → ((m : Made) → is_low m ≡ true → is_low (f m) ≡ true)
      → IsLowDraft (record d { contents = changed_if serial f d.contents })
  same_content serial f keeps = record { contents = all_changed_if is_low f keeps serial d.contents good.contents; transforms = good.transforms }

  on_low : (f : Image → Image) → ((i : Image) → (f i).opacity ≡ i.opacity) → (m : Made) → is_low m ≡ true → is_low (on_image f m) ≡ true
  on_low f same (an_image image) low = ap (λ v. nat_le v OPACITY_MAX) (same image) ∙ low
  on_low f same (a_fill solid) low = low
  on_low f same (a_viewport pair props) low = low

  on_opacity : (v : ℕ) → nat_le v OPACITY_MAX ≡ true → (m : Made) → is_low m ≡ true → is_low (on_image (λ image. record image { opacity = v }) m) ≡ true
  on_opacity v fits (an_image image) low = fits
  on_opacity v fits (a_fill solid) low = low
  on_opacity v fits (a_viewport pair props) low = low

  on_view : (f : ViewportProps → ViewportProps) (m : Made) → is_low m ≡ true → is_low (on_viewport f m) ≡ true
  on_view f (an_image image) low = low
  on_view f (a_fill solid) low = low
  on_view f (a_viewport pair props) low = low

  on_solid : (solid : Solid) (m : Made) → is_low m ≡ true → is_low (on_fill solid m) ≡ true
  on_solid solid (an_image image) low = low
  on_solid solid (a_fill before) low = low
  on_solid solid (a_viewport pair props) low = low

  -- a call that is no misuse keeps a draft good
  pub good_effect : (call : Call) → misuse setup d call ≡ None → IsLowDraft (effect d call)
  good_effect (CreateView pair) fine = record { contents = good.contents; transforms = good.transforms }
  good_effect ReleaseView fine = record { contents = good.contents; transforms = good.transforms }
  good_effect (CreateTransform t) fine = record { contents = good.contents; transforms = all-more is_dim d.transforms new_transform good.transforms refl }
  good_effect (ReleaseTransform t) fine = record { contents = good.contents; transforms = good.transforms }
  good_effect (SetTranslation t x y) fine = same_opacity (transform_of d t) _ (λ one low. low)
  good_effect (SetOrientation t o) fine = same_opacity (transform_of d t) _ (λ one low. low)
  good_effect (SetScale t sx sy) fine = same_opacity (transform_of d t) _ (λ one low. low)
  good_effect (SetOpacity t v) fine = same_opacity (transform_of d t) _ (λ one low. not_above v (none_last (names_transform d t) _ _ fine))
  good_effect (SetClipBoundary t rect) fine = same_opacity (transform_of d t) _ (λ one low. low)
  good_effect (AddChild p k) fine = same_opacity (transform_of d p) _ (λ one low. low)
  good_effect (RemoveChild p k) fine = same_opacity (transform_of d p) _ (λ one low. low)
  good_effect (ReplaceChildren p ks) fine = same_opacity (transform_of d p) _ (λ one low. low)
  good_effect (SetRootTransform t) fine = record { contents = good.contents; transforms = good.transforms }
  good_effect (CreateViewport c pair w h inset) fine = record { contents = all-more is_low d.contents _ good.contents refl; transforms = good.transforms }
  good_effect (SetViewportProperties c w h inset) fine = same_content (content_of d c) _ (on_view _)
  good_effect (ReleaseViewport c) fine = record { contents = good.contents; transforms = all_mapped is_dim _ (λ one. refl) d.transforms good.transforms }
  good_effect (CreateImage c buffers i w h) fine = record { contents = all-more is_low d.contents _ good.contents refl; transforms = good.transforms }
  good_effect (SetImageSampleRegion c rect) fine = same_content (content_of d c) _ (on_low _ (λ i. refl))
  good_effect (SetImageDestinationSize c w h) fine = same_content (content_of d c) _ (on_low _ (λ i. refl))
  good_effect (SetImageBlendingFunction c m) fine = same_content (content_of d c) _ (on_low _ (λ i. refl))
  good_effect (SetImageFlip c f) fine = same_content (content_of d c) _ (on_low _ (λ i. refl))
  good_effect (SetImageOpacity c v) fine = same_content (content_of d c) _ (on_opacity v (not_above v (none_last (names_content d is_image c) _ _ fine)))
  good_effect (ReleaseImage c) fine = record { contents = good.contents; transforms = good.transforms }
  good_effect (CreateFilledRect c) fine = record { contents = all-more is_low d.contents _ good.contents refl; transforms = good.transforms }
  good_effect (SetSolidFill c r g b a w h) fine = same_content (content_of d c) _ (on_solid _)
  good_effect (ReleaseFilledRect c) fine = record { contents = good.contents; transforms = good.transforms }
  good_effect (SetHitRegions t regions) fine = same_opacity (transform_of d t) _ (λ one low. low)
  good_effect (SetInfiniteHitRegion t i) fine = same_opacity (transform_of d t) _ (λ one low. low)
  good_effect (SetContent t c) fine = same_opacity (transform_of d t) _ (λ one low. low)
  good_effect Clear fine = record { contents = good.contents; transforms = good.transforms }

-- ---- drafts of calls

step_good : (setup : Setup) (start draft : Draft) (call : Call) (calls : List Call) (m : Option Reason) → misuse setup start call ≡ m
    → after_calls setup (unless m (effect start call)) calls ≡ Ok draft
    → (misuse setup start call ≡ None → after_calls setup (Ok (effect start call)) calls ≡ Ok draft → IsLowDraft draft) → IsLowDraft draft
step_good setup start draft call calls None is made follows = follows is made
step_good setup start draft call calls (Some reason) is made follows =
    absurd (let e : Err reason ≡ Ok draft = sym (after_error setup reason calls) ∙ made in cc)

good_from : (setup : Setup) (start draft : Draft) (calls : List Call) → IsLowDraft start → after_calls setup (Ok start) calls ≡ Ok draft → IsLowDraft draft
good_from setup start draft [] good made = let same : start ≡ draft = cc in subst IsLowDraft same good
good_from setup start draft (call ∷ calls) good made =
    step_good setup start draft call calls (misuse setup start call) refl made
    (λ fine rest. good_from setup (effect start call) draft calls (good_effect setup start good call fine) rest)

pub low-draft : (setup : Setup) (draft : Draft) (calls : List Call) → draft_of setup calls ≡ Ok draft → IsLowDraft draft
low-draft setup draft calls made = good_from setup empty_draft draft calls (record { contents = refl; transforms = refl }) made
