-- No transform and no image of a draft has too great an opacity, and each image shows a part of its buffer.
use Rattle.std.proofs.Common.{◌≡◌, ℕ, ◌-◌, Bool, true, false, cond, not, ◌&&◌, ◌||◌, ◌==◌, nat_lt, nat_le, List, [], ◌∷◌, ◌++◌, map, refl, ◌∙◌, subst, arith}
use Rattle.std.proofs.Common.{Option, Some, None, Result, Ok, Err}
use Rattle.std.specs.Prelude.{pos, int_lt, is_none, slice_get}
use Rattle.std.specs.Int.{is_negative}
use Rattle.std.specs.List.{list_all}
use Rattle.std.proofs.lemmas.Bool.{and_from}
use Rattle.std.proofs.lemmas.Bool.Decides.{nat_tests}
use Rattle.flat_base.specs.declared.errors.Reason.{Reason}
use Rattle.flat_base.specs.declared.errors.Reason.TheVariants.{BadSize, BadBuffer, BadRect, TooManyNamed, UnknownContent, WrongContent, ZeroId}
use Rattle.flat_base.specs.declared.ids.BufferNo.{BufferNo}
use Rattle.flat_base.specs.declared.limits.TheConstants.{OPACITY_MAX, NAMED_MAX}
use Rattle.flat_base.specs.declared.shapes.IntRect.{IntRect}
use Rattle.flat_scene.specs.declared.calls.Call.{Call}
use Rattle.flat_scene.specs.declared.calls.Call.TheVariants.{CreateTransform, SetTranslation, SetOrientation, SetScale, SetOpacity, SetClipBoundary, AddChild}
use Rattle.flat_scene.specs.declared.calls.Call.TheVariants.{RemoveChild, ReplaceChildren, CreateViewport, SetViewportProperties, ReleaseViewport, CreateImage}
use Rattle.flat_scene.specs.declared.calls.Call.TheVariants.{SetImageSampleRegion, SetImageDestinationSize, SetImageBlendingFunction, SetImageFlip}
use Rattle.flat_scene.specs.declared.calls.Call.TheVariants.{SetImageOpacity, CreateFilledRect, SetSolidFill, SetHitRegions, SetInfiniteHitRegion, SetContent}
use Rattle.flat_scene.specs.declared.calls.ViewportProps.{ViewportProps}
use Rattle.flat_scene.specs.declared.setup.BufferDecl.{BufferDecl}
use Rattle.flat_scene.specs.declared.setup.Setup.{Setup}
use Rattle.flat_scene.specs.Draft.{Draft, Transform, Image, Solid, Made, an_image, a_fill, a_viewport, changed_at, empty_draft, transform_of, content_of}
use Rattle.flat_scene.specs.Draft.{made_of, new_transform}
use Rattle.flat_scene.specs.Effect.{effect, on_image, on_viewport, on_fill, draft_of, after_call, after_calls, unless, changed_if, new_image}
use Rattle.flat_scene.specs.Misuse.{misuse, first_reason, Test, names_transform, names_content, is_new_content, is_image, is_bad_image, is_bad_index}
use Rattle.flat_scene.specs.Misuse.{is_bad_rect, leaves_made, is_full}
use Rattle.flat_base.proofs.lemmas.Tests.{and-left, and-right}
use Rattle.flat_rules.proofs.lemmas.AllOrSome.{all-append}

-- ---- what is asked

abbrev pub is_dim : ℕ → Bool
is_dim opacity = nat_le opacity OPACITY_MAX

-- no negative corner, and sides of at least 1
abbrev pub is_sample : IntRect → Bool
is_sample r = (not (is_negative r.x) && not (is_negative r.y)) && (not (int_lt r.w (pos 1)) && not (int_lt r.h (pos 1)))

abbrev pub is_fair_made : Made → Bool
is_fair_made (an_image image) = is_sample image.sample && is_dim image.opacity
is_fair_made (a_fill solid) = true
is_fair_made (a_viewport pair props) = true

abbrev pub is_fair_transform : Transform → Bool
is_fair_transform t = is_dim t.opacity

-- A draft in which all have that.
pub record IsFair (draft : Draft) : Type 0 where
  pub contents : list_all is_fair_made draft.contents ≡ true
  pub transforms : list_all is_fair_transform draft.transforms ≡ true

-- ---- lists

module _ {A : Type 0} (p : A → Bool) (f : A → A) (keeps : (x : A) → p x ≡ true → p (f x) ≡ true) where
  pick : (b : Bool) (x : A) (xs changed : List A) → p x ≡ true → list_all p xs ≡ true → list_all p changed ≡ true
      → list_all p (cond b (f x ∷ xs) (x ∷ changed)) ≡ true
  pick true x xs changed here all more = and_from _ _ (keeps x here) all
  pick false x xs changed here all more = and_from _ _ here more

  all-changed : (n : ℕ) (xs : List A) → list_all p xs ≡ true → list_all p (changed_at n f xs) ≡ true
  all-changed n [] all = refl
  all-changed n (x ∷ xs) all =
      pick (n == 1) x xs (changed_at (n - 1) f xs) (and-left (p x) (list_all p xs) all) (and-right (p x) (list_all p xs) all)
      (all-changed (n - 1) xs (and-right (p x) (list_all p xs) all))

  pub all-changed-if : (serial : Option ℕ) (xs : List A) → list_all p xs ≡ true → list_all p (changed_if serial f xs) ≡ true
  all-changed-if None xs all = all
  all-changed-if (Some n) xs all = all-changed n xs all

all-mapped : {A : Type 0} (p : A → Bool) (f : A → A) → ((x : A) → p (f x) ≡ p x) → (xs : List A) → list_all p xs ≡ true → list_all p (map f xs) ≡ true
all-mapped p f same [] all = refl
all-mapped p f same (x ∷ xs) all = and_from _ _ (same x ∙ and-left (p x) (list_all p xs) all) (all-mapped p f same xs (and-right (p x) (list_all p xs) all))

-- ---- tests that gave no reason

rest-none : (t : Bool) (r : Reason) (more : Option Reason) → cond t (Some r) more ≡ None → more ≡ None
rest-none true r more none = absurd (cc)
rest-none false r more none = none

-- a test doesn't hold where none of several does
none-at : (before : List Test) (b : Bool) (reason : Reason) (after : List Test) → first_reason (before ++ (b, reason) ∷ after) ≡ None → b ≡ false
none-at [] true reason after none = absurd (cc)
none-at [] false reason after none = refl
none-at (test ∷ before) b reason after none = none-at before b reason after (rest-none test.0 test.1 (first_reason (before ++ (b, reason) ∷ after)) none)

not-above : (v : ℕ) → nat_lt OPACITY_MAX v ≡ false → is_dim v ≡ true
not-above v low = grind (arith, nat_tests)

not-zero : (w : ℕ) → (w == 0) ≡ false → int_lt (pos w) (pos 1) ≡ false
not-zero w some = grind (arith, nat_tests)

sized : (o : Option BufferDecl) (buffers : BufferNo) (i w h : ℕ) → is_bad_image o w h ≡ false → is_bad_index o i ≡ false
    → is_fair_made (new_image buffers i w h) ≡ true
sized None buffers i w h fine known = absurd (let h : true ≡ false = known in cc)
sized (Some decl) buffers i w h fine known =
    let wide : (w == 0) ≡ false = grind arith in
    let high : (h == 0) ≡ false = grind arith in
    rw (not-zero w wide, not-zero h high) refl

within-image : (r : IntRect) (o : Option Made) → not (is_image o) ≡ false → (is_bad_rect r || leaves_made r o) ≡ false → is_sample r ≡ true
within-image r None sort fine = absurd (let h : true ≡ false = sort in cc)
within-image r (Some (a_fill solid)) sort fine = absurd (let h : true ≡ false = sort in cc)
within-image r (Some (a_viewport pair props)) sort fine = absurd (let h : true ≡ false = sort in cc)
within-image r (Some (an_image image)) sort fine = grind arith

-- ---- changes of a content

on-same : (f : Image → Image) → ((i : Image) → (is_sample (f i).sample && is_dim (f i).opacity) ≡ (is_sample i.sample && is_dim i.opacity)) → (m : Made)
    → is_fair_made m ≡ true
    → is_fair_made (on_image f m) ≡ true
on-same f same (an_image image) fair = same image ∙ fair
on-same f same (a_fill solid) fair = fair
on-same f same (a_viewport pair props) fair = fair

on-opacity : (v : ℕ) → is_dim v ≡ true → (m : Made) → is_fair_made m ≡ true → is_fair_made (on_image (λ image. record image { opacity = v }) m) ≡ true
on-opacity v low (an_image image) fair = and_from _ _ (and-left (is_sample image.sample) (is_dim image.opacity) fair) low
on-opacity v low (a_fill solid) fair = fair
on-opacity v low (a_viewport pair props) fair = fair

on-sample : (r : IntRect) → is_sample r ≡ true → (m : Made) → is_fair_made m ≡ true → is_fair_made (on_image (λ image. record image { sample = r }) m) ≡ true
on-sample r fine (an_image image) fair = and_from _ _ fine (and-right (is_sample image.sample) (is_dim image.opacity) fair)
on-sample r fine (a_fill solid) fair = fair
on-sample r fine (a_viewport pair props) fair = fair

on-view : (f : ViewportProps → ViewportProps) (m : Made) → is_fair_made m ≡ true → is_fair_made (on_viewport f m) ≡ true
on-view f (an_image image) fair = fair
on-view f (a_fill solid) fair = fair
on-view f (a_viewport pair props) fair = fair

on-solid : (solid : Solid) (m : Made) → is_fair_made m ≡ true → is_fair_made (on_fill solid m) ≡ true
on-solid solid (an_image image) fair = fair
on-solid solid (a_fill before) fair = fair
on-solid solid (a_viewport pair props) fair = fair

-- ---- calls

module _ (setup : Setup) (d : Draft) (fair : IsFair d) where
  one-transform : (serial : Option ℕ) (f : Transform → Transform) → ((t : Transform) → is_fair_transform t ≡ true → is_fair_transform (f t) ≡ true)
      → IsFair (record d { transforms = changed_if serial f d.transforms })
  one-transform serial f keeps = record { contents = fair.contents; transforms = all-changed-if is_fair_transform f keeps serial d.transforms fair.transforms }

  one-content : (serial : Option ℕ) (f : Made → Made) → ((m : Made) → is_fair_made m ≡ true → is_fair_made (f m) ≡ true)
      → IsFair (record d { contents = changed_if serial f d.contents })
  one-content serial f keeps = record { contents = all-changed-if is_fair_made f keeps serial d.contents fair.contents; transforms = fair.transforms }

  one-more : (m : Made) → is_fair_made m ≡ true → list_all is_fair_made (d.contents ++ m ∷ []) ≡ true
  one-more m here = all-append is_fair_made d.contents (m ∷ []) fair.contents (and_from _ _ here refl)

  image-made : (buffers : BufferNo) (i w h : ℕ) (before after : List Test) (small wrong : Reason)
      → first_reason (before ++ (is_bad_image (slice_get setup.buffers buffers.0) w h, small) ∷ (is_bad_index (slice_get setup.buffers buffers.0) i, wrong)
      ∷ after) ≡ None
      → is_fair_made (new_image buffers i w h) ≡ true
  image-made buffers i w h before after small wrong fine =
      let size : is_bad_image (slice_get setup.buffers buffers.0) w h ≡ false = none-at before _ small _ fine in
      sized (slice_get setup.buffers buffers.0) buffers i w h size (index before fine)
    where
      index : (before : List Test) → first_reason (before
          ++ (is_bad_image (slice_get setup.buffers buffers.0) w h, small) ∷ (is_bad_index (slice_get setup.buffers buffers.0) i, wrong) ∷ after) ≡ None
          → is_bad_index (slice_get setup.buffers buffers.0) i ≡ false
      index [] none = none-at ((is_bad_image (slice_get setup.buffers buffers.0) w h, small) ∷ []) _ wrong after none
      index (test ∷ tests) none = index tests (rest-none test.0 test.1 _ none)

  -- a call that is no misuse keeps a draft fair
  fair-effect : (call : Call) → misuse setup d call ≡ None → IsFair (effect d call)
  fair-effect (CreateTransform t) fine = record {
    contents = fair.contents;
    transforms = all-append is_fair_transform d.transforms (new_transform ∷ []) fair.transforms refl;
  }
  fair-effect (SetTranslation t x y) fine = one-transform (transform_of d t) _ (λ one low. low)
  fair-effect (SetOrientation t o) fine = one-transform (transform_of d t) _ (λ one low. low)
  fair-effect (SetScale t sx sy) fine = one-transform (transform_of d t) _ (λ one low. low)
  fair-effect (SetOpacity t v) fine = one-transform (transform_of d t) _ (λ one low. not-above v (none-at (names_transform d t) _ _ [] fine))
  fair-effect (SetClipBoundary t rect) fine = one-transform (transform_of d t) _ (λ one low. low)
  fair-effect (AddChild p k) fine = one-transform (transform_of d p) _ (λ one low. low)
  fair-effect (RemoveChild p k) fine = one-transform (transform_of d p) _ (λ one low. low)
  fair-effect (ReplaceChildren p ks) fine = one-transform (transform_of d p) _ (λ one low. low)
  fair-effect (CreateViewport c pair w h inset) fine = record { contents = one-more _ refl; transforms = fair.transforms }
  fair-effect (SetViewportProperties c w h inset) fine = one-content (content_of d c) _ (on-view _)
  fair-effect (ReleaseViewport c) fine = record {
    contents = fair.contents;
    transforms = all-mapped is_fair_transform _ (λ one. refl) d.transforms fair.transforms;
  }
  fair-effect (CreateImage c buffers i w h) fine = record {
    contents =
        one-more _ (image-made buffers i w h (is_new_content d c) ((is_full NAMED_MAX d.content_names, TooManyNamed) ∷ []) BadSize BadBuffer fine);
    transforms =
        fair.transforms;
  }
  fair-effect (SetImageSampleRegion c rect) fine =
      one-content (content_of d c) _
      (on-sample rect
      (within-image rect (made_of d c)
      (none-at ((c.0 == 0, ZeroId) ∷ (is_none (content_of d c), UnknownContent) ∷ []) _ WrongContent
      ((is_bad_rect rect || leaves_made rect (made_of d c), BadRect) ∷ []) fine)
      (none-at (names_content d is_image c) _ _ [] fine)))
  fair-effect (SetImageDestinationSize c w h) fine = one-content (content_of d c) _ (on-same _ (λ i. refl))
  fair-effect (SetImageBlendingFunction c m) fine = one-content (content_of d c) _ (on-same _ (λ i. refl))
  fair-effect (SetImageFlip c f) fine = one-content (content_of d c) _ (on-same _ (λ i. refl))
  fair-effect (SetImageOpacity c v) fine = one-content (content_of d c) _ (on-opacity v (not-above v (none-at (names_content d is_image c) _ _ [] fine)))
  fair-effect (CreateFilledRect c) fine = record { contents = one-more _ refl; transforms = fair.transforms }
  fair-effect (SetSolidFill c r g b a w h) fine = one-content (content_of d c) _ (on-solid _)
  fair-effect (SetHitRegions t regions) fine = one-transform (transform_of d t) _ (λ one low. low)
  fair-effect (SetInfiniteHitRegion t i) fine = one-transform (transform_of d t) _ (λ one low. low)
  fair-effect (SetContent t c) fine = one-transform (transform_of d t) _ (λ one low. low)
  fair-effect _ fine = record { contents = fair.contents; transforms = fair.transforms }

module _ (setup : Setup) where
  unless-fair : (e : Draft) (call : Call) (reason : Option Reason) → misuse setup e call ≡ reason → IsFair e → (d : Draft)
      → unless reason (effect e call) ≡ Ok d → IsFair d
  unless-fair e call None fine fair d is = let same : effect e call ≡ d = cc in subst IsFair same (fair-effect setup e fair call fine)
  unless-fair e call (Some r) fine fair d is = cc

  call-fair : (before : Result Draft Reason) (call : Call) → ((d : Draft) → before ≡ Ok d → IsFair d) → (d : Draft) → after_call setup before call ≡ Ok d
      → IsFair d
  call-fair (Err r) call fair d is = cc
  call-fair (Ok e) call fair d is = unless-fair e call (misuse setup e call) refl (fair e refl) d is

  after-fair : (before : Result Draft Reason) (calls : List Call) → ((d : Draft) → before ≡ Ok d → IsFair d) → (d : Draft)
      → after_calls setup before calls ≡ Ok d → IsFair d
  after-fair before [] fair d is = fair d is
  after-fair before (call ∷ calls) fair d is = after-fair (after_call setup before call) calls (call-fair before call fair) d is

  -- the draft of any calls is fair
  pub draft-fair : (calls : List Call) (d : Draft) → draft_of setup calls ≡ Ok d → IsFair d
  draft-fair calls = after-fair (Ok empty_draft) calls
      (λ d is. let same : empty_draft ≡ d = cc in subst IsFair same (record { contents = refl; transforms = refl }))
