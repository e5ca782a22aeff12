-- A draft names only what its session owns.
use Rattle.std.proofs.Common.{◌≡◌, ℕ, ◌-◌, Bool, true, List, [], ◌∷◌, refl, arith, subst}
use Rattle.std.specs.Prelude.{Option, Some, None, Result, Ok, Err}
use Rattle.std.specs.List.{list_all}
use Rattle.std.proofs.lemmas.List.Folds.{list_all-append}
use Rattle.flat_base.specs.declared.ids.PairNo.{PairNo}
use Rattle.flat_base.specs.declared.errors.Reason.{Reason}
use Rattle.flat_base.specs.declared.ids.SessionNo.{SessionNo}
use Rattle.flat_scene.specs.declared.calls.Call.{Call}
use Rattle.flat_scene.specs.declared.calls.Call.TheVariants.{CreateView, ReleaseView, CreateViewport, SetViewportProperties, CreateImage, SetImageSampleRegion}
use Rattle.flat_scene.specs.declared.calls.Call.TheVariants.{SetImageDestinationSize, SetImageBlendingFunction, SetImageFlip, SetImageOpacity, CreateFilledRect}
use Rattle.flat_scene.specs.declared.calls.Call.TheVariants.{SetSolidFill, Clear}
use Rattle.flat_scene.specs.declared.setup.Setup.{Setup}
use Rattle.flat_scene.specs.Draft.{Draft, Made, an_image, a_fill, a_viewport, changed_at, content_of, empty_draft}
use Rattle.flat_scene.specs.Effect.{effect, changed_if, on_image, on_viewport, on_fill, after_call, after_calls, draft_of, unless}
use Rattle.flat_rules.specs.Legal.{owns_view, owns_viewport, owns_in_call}
use Rattle.flat_scene.specs.Misuse.{misuse}

module _ (setup : Setup) (s : SessionNo) where
  abbrev pub view_owned : Option PairNo → Bool
  view_owned (Some p) = owns_view setup s p
  view_owned None = true

  abbrev pub made_owned : Made → Bool
  made_owned (a_viewport p props) = owns_viewport setup s p
  made_owned _ = true

  pub record IsOwned (draft : Draft) : Type 0 where
    pub view : view_owned draft.view ≡ true
    pub contents : list_all made_owned draft.contents ≡ true

  changed-at : (n : ℕ) (f : Made → Made) → ((m : Made) → made_owned (f m) ≡ made_owned m) → (ms : List Made)
      → list_all made_owned (changed_at n f ms) ≡ list_all made_owned ms
  changed-at n f same [] = refl
  changed-at n f same (m ∷ ms) = grind (arith, same m, changed-at (n - 1) f same ms)

  changed-if : (n : Option ℕ) (f : Made → Made) → ((m : Made) → made_owned (f m) ≡ made_owned m) → (ms : List Made) → list_all made_owned ms ≡ true
      → list_all made_owned (changed_if n f ms) ≡ true
  changed-if None f same ms all = all
  changed-if (Some n) f same ms all = rw (changed-at n f same ms) all

  on-image : (f : _) (m : Made) → made_owned (on_image f m) ≡ made_owned m
  on-image f (an_image i) = refl
  on-image f (a_fill x) = refl
  on-image f (a_viewport p props) = refl

  on-viewport : (f : _) (m : Made) → made_owned (on_viewport f m) ≡ made_owned m
  on-viewport f (an_image i) = refl
  on-viewport f (a_fill x) = refl
  on-viewport f (a_viewport p props) = refl

  on-fill : (f : _) (m : Made) → made_owned (on_fill f m) ≡ made_owned m
  on-fill f (an_image i) = refl
  on-fill f (a_fill x) = refl
  on-fill f (a_viewport p props) = refl

  effect-owned : (draft : Draft) (call : Call) → IsOwned draft → owns_in_call setup s call ≡ true → IsOwned (effect draft call)
  effect-owned draft (CreateView pair) owned own = record { view = own; contents = owned.contents }
  effect-owned draft ReleaseView owned own = record { view = refl; contents = owned.contents }
  effect-owned draft Clear owned own = record { view = refl; contents = owned.contents }
  effect-owned draft (CreateViewport c pair w h inset) owned own = record { view = owned.view; contents = rw (list_all-append, owned.contents, own) refl }
  effect-owned draft (CreateImage c buffers i w h) owned own = record { view = owned.view; contents = rw (list_all-append, owned.contents) refl }
  effect-owned draft (CreateFilledRect c) owned own = record { view = owned.view; contents = rw (list_all-append, owned.contents) refl }
  effect-owned draft (SetViewportProperties c w h inset) owned own =
      record { view = owned.view; contents = changed-if (content_of draft c) _ (on-viewport _) _ owned.contents }
  effect-owned draft (SetImageSampleRegion c rect) owned own =
      record { view = owned.view; contents = changed-if (content_of draft c) _ (on-image _) _ owned.contents }
  effect-owned draft (SetImageDestinationSize c w h) owned own =
      record { view = owned.view; contents = changed-if (content_of draft c) _ (on-image _) _ owned.contents }
  effect-owned draft (SetImageBlendingFunction c m) owned own =
      record { view = owned.view; contents = changed-if (content_of draft c) _ (on-image _) _ owned.contents }
  effect-owned draft (SetImageFlip c f) owned own = record { view = owned.view; contents = changed-if (content_of draft c) _ (on-image _) _ owned.contents }
  effect-owned draft (SetImageOpacity c v) owned own = record { view = owned.view; contents = changed-if (content_of draft c) _ (on-image _) _ owned.contents }
  effect-owned draft (SetSolidFill c r g b a w h) owned own =
      record { view = owned.view; contents = changed-if (content_of draft c) _ (on-fill _) _ owned.contents }
  effect-owned draft _ owned own = record { view = owned.view; contents = owned.contents }

  unless-owned : (reason : Option Reason) (e d : Draft) → IsOwned e → unless reason e ≡ Ok d → IsOwned d
  unless-owned None e d owned is = let same : e ≡ d = cc in subst IsOwned same owned
  unless-owned (Some r) e d owned is = cc

  call-owned : (before : Result Draft Reason) (call : Call) → ((d : Draft) → before ≡ Ok d → IsOwned d) → owns_in_call setup s call ≡ true
      → (d : Draft) → after_call setup before call ≡ Ok d → IsOwned d
  call-owned (Err r) call owned own d is = cc
  call-owned (Ok e) call owned own d is = unless-owned (misuse setup e call) (effect e call) d (effect-owned e call (owned e refl) own) is

  -- a draft after calls that name what is owned
  after-owned : (before : Result Draft Reason) (calls : List Call) → ((d : Draft) → before ≡ Ok d → IsOwned d) → list_all (owns_in_call setup s) calls ≡ true
      → (d : Draft) → after_calls setup before calls ≡ Ok d → IsOwned d
  after-owned before [] owned all d is = owned d is
  after-owned before (call ∷ calls) owned all d is =
      after-owned (after_call setup before call) calls (call-owned before call owned (grind arith)) (grind arith) d is

  pub draft-owned : (calls : List Call) → list_all (owns_in_call setup s) calls ≡ true → (d : Draft) → draft_of setup calls ≡ Ok d → IsOwned d
  draft-owned calls all = after-owned (Ok empty_draft) calls
      (λ d is. let same : empty_draft ≡ d = cc in subst IsOwned same (record { view = refl; contents = refl })) all
