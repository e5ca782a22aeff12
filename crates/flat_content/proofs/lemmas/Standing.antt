-- Each call on a table that stands for a draft has the draft's reasons, and leaves a table that stands for the draft after it.
use Rattle.std.proofs.Common.{ℕ, ◌+◌, ◌-◌, ◌≤◌, ◌≡◌, ◌≢◌, refl, sym, ◌∙◌, ap, subst, Bool, true, false, cond, not, List, [], ◌∷◌, ◌++◌, map, length}
use Rattle.std.proofs.Common.{length-append, slice_get, Option, Some, None, IsSome, unwrap_or, arith}
use Rattle.std.proofs.lemmas.List.{length-map, map-append}
use Rattle.std.specs.Prelude.{◌==◌, ◌||◌, is_some, is_none, nat_lt}
use Rattle.std.specs.List.{filter_map}
use Rattle.std.specs.Option.{option_map, option_and_then}
use Rattle.flat_base.specs.declared.ids.BufferNo.{BufferNo}
use Rattle.flat_base.specs.declared.ids.ContentId.{ContentId}
use Rattle.flat_base.specs.declared.ids.PairNo.{PairNo}
use Rattle.flat_base.specs.declared.errors.Reason.{Reason}
use Rattle.flat_base.specs.declared.errors.Reason.TheVariants.{ZeroId, IdInUse, UnknownContent, WrongContent, BadOpacity, BadRect, BadSize, BadBuffer}
use Rattle.flat_base.specs.declared.limits.TheConstants.{OPACITY_MAX}
use Rattle.flat_scene.specs.declared.calls.Call.{Call}
use Rattle.flat_scene.specs.declared.calls.Call.TheVariants.{CreateViewport, SetViewportProperties, ReleaseViewport, CreateImage, SetImageSampleRegion}
use Rattle.flat_scene.specs.declared.calls.Call.TheVariants.{SetImageDestinationSize, SetImageBlendingFunction, SetImageFlip, SetImageOpacity, CreateFilledRect}
use Rattle.flat_scene.specs.declared.calls.Call.TheVariants.{SetSolidFill, ReleaseFilledRect, Clear}
use Rattle.flat_scene.specs.declared.calls.Inset.{Inset}
use Rattle.flat_scene.specs.declared.calls.ViewportProps.{ViewportProps}
use Rattle.flat_scene.specs.declared.setup.Setup.{Setup}
use Rattle.flat_scene.specs.declared.trees.HeldContent.{HeldContent}
use Rattle.flat_scene.specs.Draft as scene
use Rattle.flat_scene.specs.Draft.{Draft, Made, Name, an_image, a_fill, named, without_name, of_serial, changed_at, content_of, made_of}
use Rattle.flat_scene.specs.Effect as effect
use Rattle.flat_scene.specs.Effect.{effect, changed_if, on_fill, with_made, with_content}
use Rattle.flat_scene.specs.Misuse.{Test, misuse, first_reason, is_bad_image, is_bad_index, is_bad_rect, is_bad_side, is_fill, is_image, is_viewport}
use Rattle.flat_scene.specs.Misuse.{leaves_made}
use Rattle.flat_scene.specs.Tree.{content_held, shown_content, use_in, use_of}
use Rattle.flat_graph.specs.declared.names.NamedNode.{NamedNode}
use Rattle.flat_graph.specs.Names.{key_named, names_but}
use Rattle.flat_graph.specs.State.{GraphState}
use Rattle.flat_graph.specs.Stands.{IsHeld, serial_of}
use Rattle.flat_graph.specs.Laws.{IsContent}
use Rattle.flat_graph.proofs.lemmas.DraftNames.{named-append, once-append, named-without, once-without, length-without, of_serial-map}
use Rattle.flat_graph.proofs.lemmas.NameLemmas.{named-with, length-with, named-but, length-but}
use Rattle.flat_content.specs.declared.stored_content.StoredContent.{StoredContent}
use Rattle.flat_content.specs.declared.stored_content.StoredImage.{StoredImage}
use Rattle.flat_content.specs.declared.stored_content.StoredContent.TheVariants.{Image, Fill, Viewport}
use Rattle.flat_content.specs.Table.{TableState, as_made, change_named, cleared, content_at, held_at, held_of, in_use, made_at, change_at, made_named}
use Rattle.flat_content.specs.Table.{new_image, on_image, on_viewport, released, use_at, viewport_released, with_stored}
use Rattle.flat_content.proofs.Soundness.{sound-released, sound-added, sound-changed, change-length}
use Rattle.flat_content.proofs.Serials.{of_serial-some}
use Rattle.flat_content.specs.Reasons.{create_tests, image_tests, new_tests, properties_tests, room_tests, sort_tests, solid_tests, viewport_tests}
use Rattle.flat_content.specs.Stands.{StandsFor}
use Rattle.flat_content.specs.Laws.{IsCall, CallsStand, ContentCallsStand}
use Rattle.std.proofs.lemmas.Bool.{not-false, eqb-false}

none-some : (x : Option ℕ) → is_some x ≡ false → x ≡ None
none-some None e = refl
none-some (Some n) e = absurd (cc)

some-none : (x : Option ℕ) → is_none x ≡ false → (n : ℕ) × (x ≡ Some n)
some-none None e = absurd (cc)
some-none (Some n) e = (n, refl)

-- no test of a list holds, if there is no first reason
first-none : (b : Bool) (reason : Reason) (rest : Option Reason) → cond b (Some reason) rest ≡ None → (b ≡ false) × (rest ≡ None)
first-none true reason rest e = absurd (cc)
first-none false reason rest e = (refl, e)

-- a change of one content, in the table and in the draft
changed-made : (serial : ℕ) (f : StoredContent → StoredContent) (g : Made → Made) (contents : List StoredContent) (stored : StoredContent)
    → of_serial contents serial ≡ Some stored
    → as_made (f stored) ≡ g (as_made stored)
    → map as_made (changed_at serial f contents) ≡ changed_at serial g (map as_made contents)
changed-made serial f g [] stored e same = absurd (cc)
changed-made serial f g (x ∷ xs) stored e same = by_test (serial == 1) e (changed-made (serial - 1) f g xs stored)
  where
    by_test : (b : Bool) → cond b (Some x) (of_serial xs (serial - 1)) ≡ Some stored
        → (of_serial xs (serial - 1) ≡ Some stored → as_made (f stored) ≡ g (as_made stored)
        → map as_made (changed_at (serial - 1) f xs) ≡ changed_at (serial - 1) g (map as_made xs))
        → map as_made (cond b (f x ∷ xs) (x ∷ changed_at (serial - 1) f xs))
        ≡ cond b (g (as_made x) ∷ map as_made xs) (as_made x ∷ changed_at (serial - 1) g (map as_made xs))
    by_test true is more = let it : x ≡ stored = cc in ap (λ (m : Made). m ∷ map as_made xs) (rw it same)
    by_test false is more = ap (λ (rest : List Made). as_made x ∷ rest) (more is same)

abbrev as_image : StoredImage → scene.Image
as_image image = record {
  buffers = image.buffers;
  index = image.index;
  size = image.size;
  sample = image.sample;
  destination = image.destination;
  blend = image.blend;
  flip = image.flip;
  opacity = image.opacity;
}

-- what the sort of a stored content says of a change
fill-change : (stored : StoredContent) (rgba : List ℕ) (size : ℕ × ℕ) → is_fill (Some (as_made stored)) ≡ true
    → as_made (Fill (Some (record { rgba = rgba; size = size }))) ≡ on_fill (record { rgba = rgba; size = size }) (as_made stored)
fill-change (Image image) rgba size e = absurd (cc)
fill-change (Fill None) rgba size e = refl
fill-change (Fill (Some fill)) rgba size e = refl
fill-change (Viewport pair props) rgba size e = absurd (cc)

module _ (setup : Setup) (table : TableState) (draft : Draft) (s : StandsFor setup table draft) where
  -- the content of a serial
  made-same : (serial : ℕ) → made_at table serial ≡ of_serial draft.contents serial
  made-same serial = sym (of_serial-map as_made table.contents serial) ∙ ap (λ (contents : List Made). of_serial contents serial) s.contents

  made-of : (c : ContentId) → made_named table c.0 ≡ made_of draft c
  made-of c = rw (s.names c.0) (by_serial (named draft.content_names c.0))
    where
      by_serial : (x : Option ℕ) → option_and_then (made_at table) x ≡ option_and_then (of_serial draft.contents) x
      by_serial None = refl
      by_serial (Some serial) = made-same serial

  stands-released : (c : ContentId) → StandsFor setup (released table c.0) (record draft { content_names = without_name c.0 draft.content_names })
  stands-released c = record {
    sound = sound-released table c.0 s.sound;
    buffers = s.buffers;
    contents = s.contents;
    names = λ id. named-but c.0 table.names id ∙ ap (λ (x : Option ℕ). cond (c.0 == id) None x) (s.names id) ∙ sym (named-without c.0 draft.content_names id);
    count =
        let same : is_some (key_named table.names c.0) ≡ is_some (named draft.content_names c.0) = ap is_some (s.names c.0) in
        let fewer = length-but c.0 table.names s.sound.rising in
        let fewer' = length-without c.0 draft.content_names s.once in
        let counted : length table.names ≡ length draft.content_names = s.count in
        equal-rest (is_some (key_named table.names c.0)) (is_some (named draft.content_names c.0)) (length (names_but c.0 table.names))
        (length (without_name c.0 draft.content_names)) same
        (fewer ∙ counted ∙ sym fewer');
    once = once-without c.0 draft.content_names s.once;
    viewports = s.viewports;
  }
    where
      equal-rest : (b d : Bool) (m n : ℕ) → b ≡ d → m + cond b 1 0 ≡ n + cond d 1 0 → m ≡ n
      equal-rest true true m n e h = omega arith
      equal-rest true false m n e h = absurd (cc)
      equal-rest false true m n e h = absurd (cc)
      equal-rest false false m n e h = omega arith

  next-serial : length table.contents + 1 ≡ length draft.contents + 1
  next-serial = ap (λ (n : ℕ). n + 1) (sym (length-map table.contents as_made) ∙ ap length s.contents)

  use-same : (serial : ℕ) → use_at table serial ≡ use_of draft serial
  use-same serial = ap (option_and_then (use_in serial)) (made-same serial)

  -- one content more
  stands-added : (c : ContentId) (stored : StoredContent) (viewports : List ℕ) → c.0 ≢ 0 → key_named table.names c.0 ≡ None
      → in_use stored (length table.contents + 1) table.viewports ≡ viewports
      → StandsFor setup (with_stored table c.0 stored) (record (with_made draft c (as_made stored)) { viewports = viewports })
  stands-added c stored viewports some absent used = record {
    sound = sound-added table c.0 stored some absent s.sound;
    buffers = s.buffers;
    contents = map-append as_made table.contents (stored ∷ []) ∙ ap (λ (made : List Made). made ++ as_made stored ∷ []) s.contents;
    names = λ id. named-with name table.names id absent ∙ ap (λ (x : Option ℕ). cond (c.0 == id) (Some (length table.contents + 1)) x) (s.names id)
        ∙ ap (λ (n : ℕ). cond (c.0 == id) (Some n) (named draft.content_names id)) next-serial ∙ sym (named-append draft.content_names name' id absent');
    count = length-with name table.names ∙ ap (λ (n : ℕ). n + 1) s.count ∙ sym (length-append draft.content_names (name' ∷ []));
    once = once-append draft.content_names name' absent' s.once;
    viewports = used;
  }
    where
      name : NamedNode
      name = record { id = c.0; key = length table.contents + 1 }

      name' : Name
      name' = record { id = c.0; serial = length draft.contents + 1 }

      absent' : named draft.content_names c.0 ≡ None
      absent' = sym (s.names c.0) ∙ absent

  stands-changed : (c : ContentId) (f : StoredContent → StoredContent) (g : Made → Made) (serial : ℕ) (stored : StoredContent)
      → key_named table.names c.0 ≡ Some serial
      → of_serial table.contents serial ≡ Some stored
      → as_made (f stored) ≡ g (as_made stored) → StandsFor setup (change_named table c.0 f) (with_content draft c g)
  stands-changed c f g serial stored named_so there same = record {
    sound = sound-changed table (change_at (key_named table.names c.0) f table.contents) (change-length (key_named table.names c.0) f table.contents) s.sound;
    buffers = s.buffers;
    contents =
        ap (λ (x : Option ℕ). map as_made (change_at x f table.contents)) named_so ∙ changed-made serial f g table.contents stored there same
        ∙ ap (changed_at serial g) s.contents ∙ ap (λ (x : Option ℕ). changed_if x g draft.contents) (sym named_so ∙ s.names c.0);
    names = s.names;
    count = s.count;
    once = s.once;
    viewports = s.viewports;
  }

  held-same : (graph : GraphState) (c : ContentId) → IsContent setup graph draft c (held_of table c.0)
  held-same graph c = record {
    serial = rw (s.names c.0) (by_serial (content_of draft c));
    made = λ it e. by_name it (key_named table.names c.0) refl e;
  }
    where
      by_serial : (x : Option ℕ) → option_map serial_of (option_map (held_at table) x) ≡ x
      by_serial None = refl
      by_serial (Some serial) = refl

      some-map : (x : Option StoredContent) → IsSome x → IsSome (option_map as_made x)
      some-map None e = e
      some-map (Some stored) e = refl

      by_name : (it : HeldContent) (x : Option ℕ) → key_named table.names c.0 ≡ x → option_map (held_at table) x ≡ Some it → IsHeld draft.contents it
      by_name it None named_so e = absurd (cc)
      by_name it (Some serial) named_so e =
          let is : held_at table serial ≡ it = cc in
          let low : 1 ≤ serial = s.sound.from_one c.0 serial named_so in
          let high : serial ≤ length table.contents = s.sound.made c.0 serial named_so in
          subst (λ (h : HeldContent). IsHeld draft.contents h) is (record {
            made = rw (← made-same serial) (some-map (of_serial table.contents serial) (of_serial-some table.contents serial low high));
            sort = ap is_viewport (made-same serial);
          })

  shown-same : (held : Option ℕ) → option_and_then (content_at table) held ≡ content_held draft held
  shown-same None = refl
  shown-same (Some serial) = ap (option_and_then (shown_content serial)) (made-same serial)

  -- a change of what is of a sort, where that is asked
  sorted-stands : (c : ContentId) (sort : Option Made → Bool) (rest : List Test) (f : StoredContent → StoredContent) (g : Made → Made) → sort None ≡ false
      → ((stored : StoredContent) → sort (Some (as_made stored)) ≡ true → as_made (f stored) ≡ g (as_made stored))
      → first_reason (sort_tests table sort c.0 ++ rest) ≡ None → StandsFor setup (change_named table c.0 f) (with_content draft c g)
  sorted-stands c sort rest f g never same none =
      let first = first-none (c.0 == 0) ZeroId _ none in
      let second = first-none (is_none (key_named table.names c.0)) UnknownContent _ first.1 in
      let third = first-none (not (sort (made_named table c.0))) WrongContent _ second.1 in
      by_name (key_named table.names c.0) refl third.0
    where
      by_content : (serial : ℕ) (x : Option StoredContent) → key_named table.names c.0 ≡ Some serial → of_serial table.contents serial ≡ x
          → not (sort (option_map as_made x)) ≡ false
          → StandsFor setup (change_named table c.0 f) (with_content draft c g)
      by_content serial None named_so there e = absurd (let no : ◌≡◌ {A = Bool} true false = sym (ap not never) ∙ e in cc)
      by_content serial (Some stored) named_so there e = stands-changed c f g serial stored named_so there
          (same stored (not-false (sort (Some (as_made stored))) e))

      by_name : (x : Option ℕ) → key_named table.names c.0 ≡ x → not (sort (option_and_then (made_at table) x)) ≡ false
          → StandsFor setup (change_named table c.0 f) (with_content draft c g)
      by_name None named_so e = absurd (let no : ◌≡◌ {A = Bool} true false = sym (ap not never) ∙ e in cc)
      by_name (Some serial) named_so e = by_content serial (of_serial table.contents serial) named_so refl e

  solid-stands : (c : ContentId) (r g b a w h : ℕ)
      → IsCall setup table draft (SetSolidFill c r g b a w h) (solid_tests table c.0 w h)
      (change_named table c.0 (λ _. Fill (Some (record { rgba = r ∷ g ∷ b ∷ a ∷ []; size = (w, h) }))))
  solid-stands c r g b a w h = record {
    reason = rw (made-of c, s.names c.0) refl;
    stands =
        sorted-stands c is_fill ((is_bad_side w || is_bad_side h, BadSize) ∷ []) (λ _. Fill (Some (record { rgba = r ∷ g ∷ b ∷ a ∷ []; size = (w, h) })))
        (on_fill (record { rgba = r ∷ g ∷ b ∷ a ∷ []; size = (w, h) })) refl (λ stored is. fill-change stored (r ∷ g ∷ b ∷ a ∷ []) (w, h) is);
  }

  -- a change of an image, in the table and in the draft
  image-call : (call : Call) (c : ContentId) (rest : List Test) (f : StoredImage → StoredImage) (g : scene.Image → scene.Image)
      → effect draft call ≡ with_content draft c (effect.on_image g)
      → ((image : StoredImage) → as_image (f image) ≡ g (as_image image))
      → first_reason (sort_tests table is_image c.0 ++ rest) ≡ misuse setup draft call
      → IsCall setup table draft call (sort_tests table is_image c.0 ++ rest) (change_named table c.0 (on_image f))
  image-call call c rest f g is same reason = record {
    reason = reason;
    stands = λ none. rw is (sorted-stands c is_image rest (on_image f) (effect.on_image g) refl (λ stored sort. each stored) none);
  }
    where
      each : (stored : StoredContent) → as_made (on_image f stored) ≡ effect.on_image g (as_made stored)
      each (Image image) = ap an_image (same image)
      each (Fill None) = refl
      each (Fill (Some fill)) = refl
      each (Viewport pair props) = refl

  properties-stands : (c : ContentId) (w h : ℕ) (inset : Option Inset)
      → IsCall setup table draft (SetViewportProperties c w h inset) (properties_tests table c.0 w h)
      (change_named table c.0 (on_viewport (λ props. record { w = w; h = h; inset = unwrap_or inset props.inset })))
  properties-stands c w h inset = record {
    reason = rw (made-of c, s.names c.0) refl;
    stands = sorted-stands c is_viewport ((is_bad_side w || is_bad_side h, BadSize) ∷ []) (on_viewport change) (effect.on_viewport change) refl
        (λ stored sort. each stored);
  }
    where
      change : ViewportProps → ViewportProps
      change props = record { w = w; h = h; inset = unwrap_or inset props.inset }

      each : (stored : StoredContent) → as_made (on_viewport change stored) ≡ effect.on_viewport change (as_made stored)
      each (Image image) = refl
      each (Fill None) = refl
      each (Fill (Some fill)) = refl
      each (Viewport pair props) = refl

  -- what the tests of a new id say
  new-allows : (c : ContentId) (rest : List Test) → first_reason (new_tests table c.0 ++ rest) ≡ None → (c.0 ≢ 0) × (key_named table.names c.0 ≡ None)
  new-allows c rest none =
      let first = first-none (c.0 == 0) ZeroId _ none in
      let second = first-none (is_some (key_named table.names c.0)) IdInUse _ first.1 in
      (eqb-false c.0 0 first.0, none-some (key_named table.names c.0) second.0)

  create-stands : (c : ContentId) → IsCall setup table draft (CreateFilledRect c) (create_tests table c.0) (with_stored table c.0 (Fill None))
  create-stands c = record {
    reason = rw (s.names c.0, s.count) refl;
    stands = λ none.
        let allows = new-allows c (room_tests table) none in
        stands-added c (Fill None) draft.viewports allows.0 allows.1 s.viewports;
  }

  release-stands : (c : ContentId) → IsCall setup table draft (ReleaseFilledRect c) (sort_tests table is_fill c.0) (released table c.0)
  release-stands c = record { reason = rw (made-of c, s.names c.0) refl; stands = λ none. stands-released c }

  viewport-stands : (c : ContentId) (pair : PairNo) (w h : ℕ) (inset : Inset)
      → IsCall setup table draft (CreateViewport c pair w h inset) (viewport_tests table c.0 w h)
      (with_stored table c.0 (Viewport pair (record { w = w; h = h; inset = inset })))
  viewport-stands c pair w h inset = record {
    reason = rw (s.names c.0, s.count) refl;
    stands = λ none.
        let allows = new-allows c ((is_bad_side w || is_bad_side h, BadSize) ∷ room_tests table) none in
        stands-added c (Viewport pair (record { w = w; h = h; inset = inset })) (draft.viewports ++ (length draft.contents + 1) ∷ []) allows.0 allows.1
        (ap (λ (used : List ℕ). used ++ (length table.contents + 1) ∷ []) s.viewports ∙ ap (λ (n : ℕ). draft.viewports ++ n ∷ []) next-serial);
  }

  image-stands : (c : ContentId) (buffers : BufferNo) (i w h : ℕ)
      → IsCall setup table draft (CreateImage c buffers i w h) (image_tests table c.0 buffers i w h) (with_stored table c.0 (new_image buffers i w h))
  image-stands c buffers i w h = record {
    reason = rw (s.names c.0, s.count, s.buffers) refl;
    stands = λ none.
        let allows = new-allows c ((is_bad_image (slice_get table.buffers buffers.0) w h, BadSize)
        ∷ (is_bad_index (slice_get table.buffers buffers.0) i, BadBuffer) ∷ room_tests table) none in
        stands-added c (new_image buffers i w h) draft.viewports allows.0 allows.1 s.viewports;
  }

  stands-viewport_released : (c : ContentId) → StandsFor setup (viewport_released table c.0) (effect draft (ReleaseViewport c))
  stands-viewport_released c =
      let r = stands-released c in
      record {
        sound = record { rising = r.sound.rising; no_zero = r.sound.no_zero; from_one = r.sound.from_one; made = r.sound.made };
        buffers = r.buffers;
        contents = r.contents;
        names = r.names;
        count = r.count;
        once = r.once;
        viewports = rw (s.names c.0, s.viewports) refl;
      }

  uses-same : filter_map (use_at table) table.viewports ≡ filter_map (use_of draft) draft.viewports
  uses-same = ap (filter_map (use_at table)) s.viewports ∙ filter_map-same draft.viewports
    where
      filter_map-same : (serials : List ℕ) → filter_map (use_at table) serials ≡ filter_map (use_of draft) serials
      filter_map-same [] = refl
      filter_map-same (serial ∷ serials) = rw (use-same serial, filter_map-same serials) refl

  stands-cleared : StandsFor setup (cleared table) (effect draft Clear)
  stands-cleared = record {
    sound = record { rising = tt; no_zero = refl; from_one = λ id serial e. absurd (cc); made = λ id serial e. absurd (cc) };
    buffers = s.buffers;
    contents = s.contents;
    names = λ id. refl;
    count = refl;
    once = tt;
    viewports = refl;
  }

  content_stands : CallsStand setup table draft
  content_stands = record {
    create_fill = create-stands;
    set_solid_fill = solid-stands;
    release_filled_rect = release-stands;
    create_viewport = viewport-stands;
    set_viewport_properties = properties-stands;
    release_viewport = λ c. record { reason = rw (made-of c, s.names c.0) refl; stands = λ none. stands-viewport_released c };
    create_image = image-stands;
    set_image_sample_region = λ c rect.
        image-call (SetImageSampleRegion c rect) c ((is_bad_rect rect || leaves_made rect (made_named table c.0), BadRect) ∷ [])
        (λ image. record image { sample = rect }) (λ image. record image { sample = rect })
        refl (λ image. refl) (rw (made-of c, s.names c.0) refl);
    set_image_destination_size = λ c w h.
        image-call (SetImageDestinationSize c w h) c ((is_bad_side w || is_bad_side h, BadSize) ∷ []) (λ image. record image { destination = (w, h) })
        (λ image. record image { destination = (w, h) })
        refl (λ image. refl) (rw (made-of c, s.names c.0) refl);
    set_image_blending_function = λ c m. image-call (SetImageBlendingFunction c m) c [] (λ image. record image { blend = m })
        (λ image. record image { blend = m }) refl (λ image. refl) (rw (made-of c, s.names c.0) refl);
    set_image_flip = λ c f. image-call (SetImageFlip c f) c [] (λ image. record image { flip = f }) (λ image. record image { flip = f }) refl (λ image. refl)
        (rw (made-of c, s.names c.0) refl);
    set_image_opacity = λ c v.
        image-call (SetImageOpacity c v) c ((nat_lt OPACITY_MAX v, BadOpacity) ∷ []) (λ image. record image { opacity = v })
        (λ image. record image { opacity = v }) refl (λ image. refl)
        (rw (made-of c, s.names c.0) refl);
    release_image = λ c. record { reason = rw (made-of c, s.names c.0) refl; stands = λ none. stands-released c };
    uses = uses-same;
    clear = stands-cleared;
    made = made-of;
    sorts = λ c. rw (made-of c, s.names c.0) refl;
    held = held-same;
    shown = shown-same;
  }

pub content_calls_stand : ContentCallsStand
content_calls_stand setup table draft s = content_stands setup table draft s
