-- Calls keep what a draft reaches free of viewports that don't live.
use Rattle.std.proofs.Common.{◌≡◌, ◌∙◌, sym, subst, ℕ, ◌+◌, ◌≤◌, Bool, true, false, cond, List, [], ◌∷◌, ◌++◌, length, filter, refl, arith, ap, Some, None, Ok}
use Rattle.std.proofs.Common.{Err, length-append}
use Rattle.std.specs.Prelude.{not, ◌||◌, ◌==◌, nat_lt, Option, is_some}
use Rattle.std.proofs.lemmas.Bool.Decides.{nat_tests}
use Rattle.std.proofs.lemmas.List.{append-nil, length-map}
use Rattle.std.proofs.lemmas.List.Folds.{list_all-append, list_any-append}
use Rattle.flat_base.specs.declared.errors.Reason.{Reason}
use Rattle.flat_base.specs.declared.ids.PairNo.{PairNo}
use Rattle.flat_scene.specs.declared.calls.Call.{Call}
use Rattle.flat_scene.specs.declared.calls.Call.TheVariants.{CreateTransform, ReleaseTransform, SetTranslation, SetOrientation, SetScale, SetOpacity}
use Rattle.flat_scene.specs.declared.calls.Call.TheVariants.{SetClipBoundary, AddChild, RemoveChild, ReplaceChildren, SetRootTransform, CreateViewport}
use Rattle.flat_scene.specs.declared.calls.Call.TheVariants.{SetViewportProperties, ReleaseViewport, CreateImage, SetImageSampleRegion, SetImageDestinationSize}
use Rattle.flat_scene.specs.declared.calls.Call.TheVariants.{SetImageBlendingFunction, SetImageFlip, SetImageOpacity, CreateFilledRect, SetSolidFill}
use Rattle.flat_scene.specs.declared.calls.Call.TheVariants.{SetHitRegions, SetInfiniteHitRegion, SetContent, Clear}
use Rattle.flat_scene.specs.declared.setup.Setup.{Setup}
use Rattle.flat_scene.specs.Draft.{Draft, Transform, Made, a_fill, a_viewport, Name, named, changed_at, transform_of, content_of, empty_draft, new_transform}
use Rattle.flat_scene.specs.Effect.{effect, after_calls, unless, changed_if, is_serial, held_but, on_image, on_viewport, on_fill, draft_of, new_image}
use Rattle.flat_scene.specs.Misuse.{misuse}
use Rattle.flat_facts.proofs.lemmas.Lives.{pair_made, pair_at, serial_at, serials_by, IsTidy, tidy-empty, changed-pair, image-pair, viewport-pair, fill-pair}
use Rattle.flat_facts.proofs.lemmas.Lives.{all-fewer}
use Rattle.flat_facts.proofs.LiveSteps.{follows}
use Rattle.flat_facts.proofs.Reached.{has, is_alive, is_reached, IsReached, reached-empty, with-changed, with-contents, child-after, named-children}
use Rattle.flat_facts.proofs.Reached.{fewer-after, parts, alive-same, alive-made, one-later, drop-all, named-all, mapped-later}
use Rattle.flat_facts.proofs.lemmas.ViewCalls.{after-refused}

-- a viewport that is named is alive
named-alive : (f : ℕ → Option PairNo) (names : List Name) (id : ℕ) → is_alive f (serials_by f names) (named names id) ≡ true
named-alive f [] id = refl
named-alive f (x ∷ xs) id = by_id (named-alive f xs id) (x.id == id) (f x.serial) refl
  where
    kept : (a b c : Bool) → (not a || b) ≡ true → (not a || (c || b)) ≡ true
    kept true true true h = refl
    kept true true false h = refl
    kept true false c h = cc
    kept false b c h = refl

    later : (o : Option ℕ) (p : Option PairNo) → is_alive f (serials_by f xs) o ≡ true → is_alive f (serial_at x p ++ serials_by f xs) o ≡ true
    later None p here = refl
    later (Some k) None here = here
    later (Some k) (Some p) here = kept (is_some (f k)) (has (serials_by f xs) k) (x.serial == k) here

    by_id : is_alive f (serials_by f xs) (named xs id) ≡ true → (b : Bool) → (p : Option PairNo) → f x.serial ≡ p
        → is_alive f (serial_at x p ++ serials_by f xs) (cond b (Some x.serial) (named xs id)) ≡ true
    by_id rest false p is = later (named xs id) p rest
    by_id rest true None is = rw is refl
    by_id rest true (Some p) is = let itself : (x.serial == x.serial) ≡ true = grind (arith, nat_tests) in rw (is, itself) refl

-- a viewport that is released is held no more, and the others live on
alive-released : (f : ℕ → Option PairNo) (lives : List ℕ) (out o : Option ℕ) → is_alive f lives o ≡ true
    → is_alive f (filter (λ (k : ℕ). not (is_serial out k)) lives) (held_but out o) ≡ true
alive-released f lives out None here = refl
alive-released f lives out (Some k) here = by_out (is_serial out k) refl
  where
    has-fewer : (xs : List ℕ) → is_serial out k ≡ false → has (filter (λ (j : ℕ). not (is_serial out j)) xs) k ≡ has xs k
    has-fewer [] other = refl
    has-fewer (x ∷ xs) other = by_test (has-fewer xs other) (is_serial out x) refl (x == k) refl
      where
        by_test : has (filter (λ (j : ℕ). not (is_serial out j)) xs) k ≡ has xs k → (b : Bool) → is_serial out x ≡ b → (c : Bool) → (x == k) ≡ c
            → has (cond (not b) (x ∷ filter (λ (j : ℕ). not (is_serial out j)) xs) (filter (λ (j : ℕ). not (is_serial out j)) xs)) k ≡ (c || has xs k)
        by_test rest false is c same = rw (same, rest) refl
        by_test rest true is false same = rest
        by_test rest true is true same =
            let number : x ≡ k = grind (arith, nat_tests) in
            let both : true ≡ false = sym is ∙ ap (is_serial out) number ∙ other in cc

    by_out : (b : Bool) → is_serial out k ≡ b → is_alive f (filter (λ (j : ℕ). not (is_serial out j)) lives) (cond b None (Some k)) ≡ true
    by_out true is = refl
    by_out false is = rw (has-fewer lives is) here

-- ---- one call

-- a transform that doesn't hold what is released
abbrev without : Option ℕ → Transform → Transform
without out t = record t { content = held_but out t.content }

-- contents are changed, and remain of the same pairs
same-pairs : (d : Draft) (r : IsReached d) (serial : Option ℕ) (f : Made → Made) → ((m : Made) → pair_made (f m) ≡ pair_made m)
    → IsReached (record d { contents = changed_if serial f d.contents })
same-pairs d r None f same = record { first = r.first; fits = r.fits; names = r.names; root = r.root; later = r.later }
same-pairs d r (Some n) f same = with-contents d r _ refl refl refl
    (alive-same (pair_at d.contents) (pair_at (changed_at n f d.contents)) d.viewports (λ k. changed-pair f same n k d.contents))

pub reached-call : (d : Draft) (call : Call) → IsTidy d → IsReached d → IsReached (effect d call)
reached-call d (CreateTransform t) tidy r = record {
  first = r.first;
  fits = omega (arith, r.fits, length-append d.transforms (new_transform ∷ []));
  names = list_all-append (λ (x : Name). nat_lt r.first x.serial) d.transform_names
      ((let x : Name = record { id = t.0; serial = length d.transforms + 1 } in x) ∷ []) ∙ rw (r.names, new_after) refl;
  root = r.root;
  later = one-later (is_reached r.first (pair_at d.contents) d.viewports) r.first d.transforms new_transform r.fits r.later refl;
}
  where
    new_after : nat_lt r.first (length d.transforms + 1) ≡ true
    new_after = let fits : r.first ≤ length d.transforms = r.fits in grind (arith, nat_tests)
reached-call d (ReleaseTransform t) tidy r = record {
  first = r.first;
  fits = r.fits;
  names = all-fewer (λ (x : Name). nat_lt r.first x.serial) (λ (x : Name). not (x.id == t.0)) d.transform_names r.names;
  root = r.root;
  later = r.later;
}
reached-call d (SetTranslation t x y) tidy r = with-changed d r (transform_of d t) _ (λ one here. here)
reached-call d (SetOrientation t o) tidy r = with-changed d r (transform_of d t) _ (λ one here. here)
reached-call d (SetScale t sx sy) tidy r = with-changed d r (transform_of d t) _ (λ one here. here)
reached-call d (SetOpacity t v) tidy r = with-changed d r (transform_of d t) _ (λ one here. here)
reached-call d (SetClipBoundary t rect) tidy r = with-changed d r (transform_of d t) _ (λ one here. here)
reached-call d (SetHitRegions t regions) tidy r = with-changed d r (transform_of d t) _ (λ one here. here)
reached-call d (SetInfiniteHitRegion t i) tidy r = with-changed d r (transform_of d t) _ (λ one here. here)
reached-call d (AddChild p k) tidy r =
    with-changed d r (transform_of d p) _
    (λ one here. let both = parts d r one here in rw (
      both.0,
      child-after d r (transform_of d k) one.children (named-all r.first d.transform_names k.0 r.names) both.1,
    ) refl)
reached-call d (RemoveChild p k) tidy r = with-changed d r (transform_of d p) _
    (λ one here. let both = parts d r one here in rw (both.0, fewer-after d r _ one.children both.1) refl)
reached-call d (ReplaceChildren p ks) tidy r = with-changed d r (transform_of d p) _ (λ one here. rw ((parts d r one here).0, named-children d r ks) refl)
reached-call d (SetRootTransform t) tidy r = record {
  first = r.first;
  fits = r.fits;
  names = r.names;
  root = named-all r.first d.transform_names t.0 r.names;
  later = r.later;
}
reached-call d (SetContent t c) tidy r =
    with-changed d r (transform_of d t) _
    (λ one here.
    let alive : is_alive (pair_at d.contents) d.viewports (content_of d c) ≡ true =
    ap (λ (l : List ℕ). is_alive (pair_at d.contents) l (content_of d c)) tidy.viewports ∙ named-alive (pair_at d.contents) d.content_names c.0 in
    rw (alive, (parts d r one here).1) refl)
reached-call d (CreateViewport c p w h inset) tidy r =
    with-contents d r _ refl refl refl
    (alive-made d.contents (a_viewport p (record { w = w; h = h; inset = inset })) d.viewports ((length d.contents + 1) ∷ []) (λ some. new_one))
  where
    new_one : has (d.viewports ++ (length d.contents + 1) ∷ []) (length d.contents + 1) ≡ true
    new_one =
        let itself : (length d.contents + 1 == length d.contents + 1) ≡ true = grind (arith, nat_tests) in
        list_any-append (λ x. x == length d.contents + 1) d.viewports ((length d.contents + 1) ∷ [])
        ∙ rw itself (or-true (has d.viewports (length d.contents + 1)))
      where
        or-true : (b : Bool) → (b || (true || false)) ≡ true
        or-true true = refl
        or-true false = refl
reached-call d (CreateImage c buffers i w h) tidy r =
    with-contents d r _ refl refl refl (λ o here.
    let alive : is_alive (pair_at (d.contents ++ new_image buffers i w h ∷ [])) (d.viewports ++ []) o ≡ true =
    alive-made d.contents (new_image buffers i w h) d.viewports [] (λ some. let no : false ≡ true = some in cc) o here in
    ap (λ (l : List ℕ). is_alive (pair_at (d.contents ++ new_image buffers i w h ∷ [])) l o) (sym (append-nil d.viewports)) ∙ alive)
reached-call d (CreateFilledRect c) tidy r =
    with-contents d r _ refl refl refl (λ o here.
    let alive : is_alive (pair_at (d.contents ++ a_fill None ∷ [])) (d.viewports ++ []) o ≡ true =
    alive-made d.contents (a_fill None) d.viewports [] (λ some. let no : false ≡ true = some in cc) o here in
    ap (λ (l : List ℕ). is_alive (pair_at (d.contents ++ a_fill None ∷ [])) l o) (sym (append-nil d.viewports)) ∙ alive)
reached-call d (ReleaseViewport c) tidy r = record {
  first = r.first;
  fits = omega (arith, r.fits, length-map d.transforms (without (content_of d c)));
  names = r.names;
  root = r.root;
  later = mapped-later (is_reached r.first (pair_at d.contents) d.viewports)
      (is_reached r.first (pair_at d.contents) (filter (λ (k : ℕ). not (is_serial (content_of d c) k)) d.viewports)) (without (content_of d c))
      (λ one here. let both = parts d r one here in rw (alive-released (pair_at d.contents) d.viewports (content_of d c) one.content both.0, both.1) refl)
      r.first d.transforms r.later;
}
reached-call d (SetViewportProperties c w h inset) tidy r = same-pairs d r (content_of d c) (on_viewport _) (viewport-pair _)
reached-call d (SetImageSampleRegion c rect) tidy r = same-pairs d r (content_of d c) (on_image _) (image-pair _)
reached-call d (SetImageDestinationSize c w h) tidy r = same-pairs d r (content_of d c) (on_image _) (image-pair _)
reached-call d (SetImageBlendingFunction c m) tidy r = same-pairs d r (content_of d c) (on_image _) (image-pair _)
reached-call d (SetImageFlip c f) tidy r = same-pairs d r (content_of d c) (on_image _) (image-pair _)
reached-call d (SetImageOpacity c v) tidy r = same-pairs d r (content_of d c) (on_image _) (image-pair _)
reached-call d (SetSolidFill c red g b a w h) tidy r = same-pairs d r (content_of d c) (on_fill _) (fill-pair _)
reached-call d Clear tidy r = record { first = length d.transforms; fits = omega arith; names = refl; root = refl; later = drop-all _ d.transforms }
reached-call d _ tidy r = record { first = r.first; fits = r.fits; names = r.names; root = r.root; later = r.later }

-- ---- several calls

reached-more : (setup : Setup) (d : Draft) (call : Call) (calls : List Call) (d' : Draft) → (reason : Option Reason) → misuse setup d call ≡ reason
    → (misuse setup d call ≡ None → after_calls setup (Ok (effect d call)) calls ≡ Ok d' → IsReached d')
    → after_calls setup (unless reason (effect d call)) calls ≡ Ok d' → IsReached d'
reached-more setup d call calls d' None is rest good = rest is good
reached-more setup d call calls d' (Some reason) is rest good = let wrong : Err reason ≡ Ok d' = sym (after-refused setup reason calls) ∙ good in cc

reached-calls : (setup : Setup) (d : Draft) (calls : List Call) (d' : Draft) → IsTidy d → IsReached d → after_calls setup (Ok d) calls ≡ Ok d' → IsReached d'
reached-calls setup d [] d' tidy r good = let same : d ≡ d' = cc in subst IsReached same r
reached-calls setup d (call ∷ calls) d' tidy r good =
    reached-more setup d call calls d' (misuse setup d call) refl
    (λ fine rest. reached-calls setup (effect d call) calls d' (follows setup d call tidy fine).tidy (reached-call d call tidy r) rest) good

pub reached : (setup : Setup) (calls : List Call) (d : Draft) → draft_of setup calls ≡ Ok d → IsReached d
reached setup calls d good = reached-calls setup empty_draft calls d tidy-empty reached-empty good
