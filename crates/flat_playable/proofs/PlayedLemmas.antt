-- A line of the body that is read is one that is played.
use Rattle.std.proofs.Common.{◌≡◌, ℕ, ◌+◌, ◌<◌, ◌≤◌, ◌==◌, ◌&&◌, Bool, true, false, ◌||◌, nat_lt, if◌then◌else◌, cond, subst, List, [], ◌∷◌, ◌++◌, Option, Some}
use Rattle.std.proofs.Common.{None, unwrap_or, option_map, Ok, Err, refl, sym, ◌∙◌, ap, codes, arith, slice_get, inl, inr}
use Rattle.std.specs.Option.{option_map_or, option_or}
use Rattle.std.specs.List.{list_any, list_all, before_first, after_first}
use Rattle.std.proofs.lemmas.Option.{slice_get_past}
use Rattle.std.specs.Prelude.{length}
use Rattle.std.specs.Str.{bytes_eq}
use Rattle.std.specs.Fmt.{decimal}
use Rattle.std.proofs.lemmas.List.Quantifiers.{position-Some}
use Rattle.std.proofs.lemmas.Bool.Decides.{nat_tests}
use Rattle.flat_base.specs.declared.ids.Actor.{Actor}
use Rattle.flat_base.specs.declared.ids.Actor.TheVariants.{Display, Session, Probe}
use Rattle.flat_base.specs.declared.ids.SessionNo.{SessionNo}
use Rattle.flat_base.specs.declared.ids.PairNo.{PairNo}
use Rattle.flat_base.specs.declared.ids.FenceNo.{FenceNo}
use Rattle.flat_base.specs.declared.ids.BufferNo.{BufferNo}
use Rattle.flat_base.specs.declared.ids.ContentId.{ContentId}
use Rattle.flat_scene.specs.declared.calls.Call.{Call}
use Rattle.flat_scene.specs.declared.calls.Call.TheVariants as call
use Rattle.flat_scene.specs.declared.calls.Inset.{Inset}
use Rattle.flat_scene.specs.declared.calls.PresentArgs.{PresentArgs}
use Rattle.flat_scene.specs.declared.script.SessionLine.{SessionLine}
use Rattle.flat_scene.specs.declared.script.SessionLine.TheVariants as line
use Rattle.flat_scene.specs.declared.script.DisplayLine.{DisplayLine}
use Rattle.flat_scene.specs.declared.script.DisplayLine.TheVariants as display
use Rattle.flat_scene.specs.declared.script.LineBody.{LineBody}
use Rattle.flat_scene.specs.declared.script.LineBody.TheVariants as body
use Rattle.flat_scene.specs.declared.setup.PairDecl.{PairDecl}
use Rattle.flat_scene.specs.declared.setup.Setup.{Setup}
use Rattle.flat_scene.specs.declared.setup.BufferDecl.{BufferDecl}
use Rattle.flat_scene.specs.declared.setup.FenceDecl.{FenceDecl}
use Rattle.flat_scene.specs.declared.script.WaitCondition.{WaitCondition}
use Rattle.flat_scene.specs.declared.script.WaitCondition.TheVariants as asks
use Rattle.flat_scene.specs.History.{is_display, is_session}
use Rattle.flat_scene.specs.Setups.{is_within, is_declared, is_ratio}
use Rattle.flat_scene.specs.Heads.{may_own}
use Rattle.flat_base.specs.declared.limits.TheConstants.{RATIO_SINCE}
use Rattle.flat_text.specs.Number.{natural}
use Rattle.flat_print.proofs.lemmas.OrderLemmas.{test_passes}
use Rattle.flat_rules.specs.Legal.{owns_view, owns_viewport, owns_fence, owns_buffers, display_owns}
use Rattle.flat_places.specs.declared.kinds.FaultKind.TheVariants.{BadNumber, UnknownName, NotOwner}
use Rattle.flat_places.specs.declared.script.Script.{Script}
use Rattle.flat_places.specs.Forms.{Word, Form, Reading, both, mapped, unless_kind, each, one_or_more, whole, optional, ◌<$>◌, ◌<*>◌}
use Rattle.flat_places.specs.Names.{place_of, session_named, owner_named, actor_named, is_actor}
use Rattle.flat_places.specs.Places.{time, u32, content, ratio, unsquashable, session, fence, fence_word, owned, view_end, viewport_end, inset, collection}
use Rattle.flat_forms.specs.Calls.{call_form, inset_or_none}
use Rattle.flat_forms.specs.declared.calls.CallName.TheVariants.{CreateViewport, CreateImage}
use Rattle.flat_forms.specs.Lists.{ends_list}
use Rattle.flat_forms.specs.Body.{fence_lists, present, presents_asked, session_line, display_line, probe_line, actor_line}
use Rattle.flat_print.specs.Print.{pair_word, buffers_word, session_word, numbers, call_fields, call_words, lists_words, unsquashable_word, session_words}
use Rattle.flat_print.specs.Print.{display_words, fence_word as fence_name}
use Rattle.flat_forms.proofs.lemmas.FormLemmas.{apply_ok, map_ok, place_ok, whole_ok, unless_ok, or_kind_ok, mapped_ok, both_ok}
use Rattle.flat_forms.proofs.lemmas.ListLemmas.{pair_of, ListsOk, lists_ok}
use Rattle.flat_print.proofs.lemmas.BodyWordLemmas.{display_spelt, session_shown}
use Rattle.flat_rules.specs.Owned.{is_played_call, is_played_condition, is_played_line, is_played_display}
use Rattle.flat_playable.specs.Playable.{is_played}
use Rattle.std.proofs.Math.Bool.{or-true}

-- numbers of a range

pub within_of : (limit n : ℕ) → 0 < n → n ≤ limit → is_within limit n ≡ true
within_of limit n some few = grind (arith, nat_tests)

-- named actors

session_by : (s : Script) (w : Word) (a : SessionNo) (o : Option ℕ) → s.setup.sessions ≡ length s.sessions → place_of s.sessions w ≡ o
    → option_map (λ i. record { 0 = i + 1 }) o ≡ Some a → is_declared s.setup a ≡ true
session_by s w a None many at is = absurd (cc)
session_by s w a (Some i) many at is =
    let number : i + 1 ≡ a.0 = ap (λ (o : Option SessionNo). option_map_or (λ v. v.0) o 0) is in
    let found = position-Some (λ n. bytes_eq n w) s.sessions i [] at in
    let few : i < length s.sessions = found.0 in
    within_of s.setup.sessions a.0 (omega arith) (omega arith)

pub session_declared : (s : Script) (w : Word) (a : SessionNo) → s.setup.sessions ≡ length s.sessions → session_named s w ≡ Some a
    → is_declared s.setup a ≡ true
session_declared s w a many is = session_by s w a (place_of s.sessions w) many refl is

owner_by_session : (s : Script) (w : Word) (a : Actor) (o : Option SessionNo) → s.setup.sessions ≡ length s.sessions → session_named s w ≡ o
    → option_map Session o ≡ Some a → may_own s.setup a ≡ true
owner_by_session s w a None many at is = absurd (cc)
owner_by_session s w a (Some v) many at is = let e : Session v ≡ a = cc in ap (may_own s.setup) (sym e) ∙ session_declared s w v many at

owner_by : (s : Script) (w : Word) (a : Actor) (b : Bool) → s.setup.sessions ≡ length s.sessions
    → cond b (Some Display) (option_map Session (session_named s w)) ≡ Some a → may_own s.setup a ≡ true
owner_by s w a true many is = let e : Display ≡ a = cc in ap (may_own s.setup) (sym e)
owner_by s w a false many is = owner_by_session s w a (session_named s w) many refl is

pub owner_declared : (s : Script) (w : Word) (a : Actor) → s.setup.sessions ≡ length s.sessions → owner_named s w ≡ Some a → may_own s.setup a ≡ true
owner_declared s w a many is = owner_by s w a (bytes_eq w (codes "display")) many is

-- an actor is the display, a declared session or a declared probe
abbrev pub may_act : Setup → Actor → Bool
may_act setup Display = true
may_act setup (Session s) = is_declared setup s
may_act setup (Probe p) = nat_lt p setup.probes

owner_acts : (setup : Setup) (a : Actor) → may_own setup a ≡ true → may_act setup a ≡ true
owner_acts setup Display is = refl
owner_acts setup (Session s) is = is
owner_acts setup (Probe p) is = absurd (cc)

below_of : (i n : ℕ) → i < n → nat_lt i n ≡ true
below_of i n less = grind (arith, nat_tests)

probe_by : (s : Script) (w : Word) (a : Actor) (o : Option ℕ) → s.setup.probes ≡ length s.probes → place_of s.probes w ≡ o → option_map Probe o ≡ Some a
    → may_act s.setup a ≡ true
probe_by s w a None probed at is = absurd (cc)
probe_by s w a (Some i) probed at is =
    let e : Probe i ≡ a = cc in
    let found = position-Some (λ n. bytes_eq n w) s.probes i [] at in
    let few : i < length s.probes = found.0 in
    ap (may_act s.setup) (sym e) ∙ below_of i s.setup.probes (omega arith)

actor_by : (s : Script) (w : Word) (a : Actor) (o : Option Actor) → s.setup.sessions ≡ length s.sessions → s.setup.probes ≡ length s.probes
    → owner_named s w ≡ o
    → option_or o (option_map Probe (place_of s.probes w)) ≡ Some a → may_act s.setup a ≡ true
actor_by s w a None many probed at is = probe_by s w a (place_of s.probes w) probed refl is
actor_by s w a (Some v) many probed at is = let e : v ≡ a = cc in ap (may_act s.setup) (sym e) ∙ owner_acts s.setup v (owner_declared s w v many at)

pub actor_declared : (s : Script) (w : Word) (a : Actor) → s.setup.sessions ≡ length s.sessions → s.setup.probes ≡ length s.probes → actor_named s w ≡ Some a
    → may_act s.setup a ≡ true
actor_declared s w a many probed is = actor_by s w a (owner_named s w) many probed refl is

-- calls

owned_by : {D : Type 0} (names : List Word) (decls : List D) (owns : D → Bool) (w : Word) (i : ℕ) (o : Option ℕ)
    → option_map_or (λ j. unless_kind NotOwner (option_map_or owns (slice_get decls j) false) (Ok j)) o (Err UnknownName) ≡ Ok i
    → option_map_or owns (slice_get decls i) false ≡ true
owned_by names decls owns w i None is = absurd (cc)
owned_by names decls owns w i (Some j) is =
    let t = unless_ok NotOwner (option_map_or owns (slice_get decls j) false) (Ok j) i is in
    let e : j ≡ i = let g = t.given in cc in
    ap (λ k. option_map_or owns (slice_get decls k) false) (sym e) ∙ t.passed

owned_owns : {D : Type 0} (names : List Word) (decls : List D) (owns : D → Bool) (w : Word) (i : ℕ) → owned names decls owns w ≡ Ok i
    → option_map_or owns (slice_get decls i) false ≡ true
owned_owns names decls owns w i is = owned_by names decls owns w i (place_of names w) is

same_number : (a b : ℕ) → (a == b) ≡ true → (b == a) ≡ true
same_number a b is = grind (arith, nat_tests)

owner_is : (a : SessionNo) (who : Actor) → is_actor (Session a) who ≡ true → is_session a who ≡ true
owner_is a Display is = absurd (cc)
owner_is a (Session b) is = same_number a.0 b.0 is
owner_is a (Probe p) is = absurd (cc)

view_owner_is : (a : SessionNo) (o : Option PairDecl) → option_map_or (λ d. is_actor (Session a) (Session d.view)) o false ≡ true
    → unwrap_or (option_map (λ t. t.0 == a.0) (option_map (λ d. d.view) o)) false ≡ true
view_owner_is a None is = absurd (cc)
view_owner_is a (Some d) is = same_number a.0 d.view.0 is

view_played : (s : Script) (a : SessionNo) (p : PairNo)
    → mapped line.Call (whole (call.CreateView <$> view_end s a) (pair_word s p ∷ [])) ≡ Ok (line.Call (call.CreateView p)) → owns_view s.setup a p ≡ true
view_played s a p is =
    let m = mapped_ok line.Call (whole (call.CreateView <$> view_end s a) (pair_word s p ∷ [])) (line.Call (call.CreateView p)) is in
    let g = map_ok call.CreateView (view_end s a) (pair_word s p ∷ []) m.a [] (whole_ok (call.CreateView <$> view_end s a) (pair_word s p ∷ []) m.a m.given) in
    let q = place_ok _ (pair_word s p ∷ []) g.a [] g.given in
    let n = mapped_ok (λ i. record { 0 = i }) (owned s.pairs s.setup.pairs (λ d. is_actor (Session a) (Session d.view)) q.word) g.a q.passes in
    let owns = owned_owns s.pairs s.setup.pairs (λ d. is_actor (Session a) (Session d.view)) q.word n.a n.given in
    let c : call.CreateView g.a ≡ m.a = g.value in
    let l : line.Call m.a ≡ line.Call (call.CreateView p) = m.value in
    let e : g.a ≡ p = cc in
    ap (owns_view s.setup a) (sym (n.value ∙ e)) ∙ view_owner_is a (slice_get s.setup.pairs n.a) owns

viewport_owner_is : (a : SessionNo) (o : Option PairDecl) → option_map_or (λ d. is_actor (Session a) d.viewport) o false ≡ true
    → unwrap_or (option_map (is_session a) (option_map (λ d. d.viewport) o)) false ≡ true
viewport_owner_is a None is = absurd (cc)
viewport_owner_is a (Some d) is = owner_is a d.viewport is

-- a test that gave a pair gave one whose viewport end is owned
viewport_owned : (s : Script) (a : SessionNo) (w : Word) (p : PairNo)
    → mapped (λ i. record { 0 = i }) (owned s.pairs s.setup.pairs (λ d. is_actor (Session a) d.viewport) w) ≡ Ok p → owns_viewport s.setup a p ≡ true
viewport_owned s a w p is =
    let n = mapped_ok (λ i. record { 0 = i }) (owned s.pairs s.setup.pairs (λ d. is_actor (Session a) d.viewport) w) p is in
    let owns = owned_owns s.pairs s.setup.pairs (λ d. is_actor (Session a) d.viewport) w n.a n.given in
    ap (owns_viewport s.setup a) (sym n.value) ∙ viewport_owner_is a (slice_get s.setup.pairs n.a) owns

-- what five steps made, each of which gave what the one before it made one word more
gathered : {A B C D E F : Type 0} (f : A → B → C → D → E → F) (a : A) (g : B → C → D → E → F) (b : B) (h : C → D → E → F) (c : C) (k : D → E → F) (d : D)
    (l : E → F) (e : E) (made : F)
    → f a ≡ g → g b ≡ h → h c ≡ k → k d ≡ l → l e ≡ made → f a b c d e ≡ made
gathered f a g b h c k d l e made first second third fourth fifth =
    ap (λ x. x b c d e) first ∙ ap (λ x. x c d e) second ∙ ap (λ x. x d e) third ∙ ap (λ x. x e) fourth ∙ fifth

-- a call that stands for another in a line is it
line_of : (made given : Call) (read : SessionLine) → made ≡ given → line.Call given ≡ read → line.Call made ≡ read
line_of made given read same is = ap line.Call same ∙ is

viewport_from : (setup : Setup) (a : SessionNo) (c d : ContentId) (p q : PairNo) (w h k n : ℕ) (i j : Inset)
    → line.Call (call.CreateViewport d q k n j) ≡ line.Call (call.CreateViewport c p w h i)
    → owns_viewport setup a q ≡ true → owns_viewport setup a p ≡ true
viewport_from setup a c d p q w h k n i j same owns = let e : q ≡ p = cc in ap (owns_viewport setup a) (sym e) ∙ owns

viewport_played : (s : Script) (a : SessionNo) (c : ContentId) (p : PairNo) (w h : ℕ) (i : Inset) (words : List Word)
    → mapped line.Call (whole (call_form s a CreateViewport) words) ≡ Ok (line.Call (call.CreateViewport c p w h i)) → owns_viewport s.setup a p ≡ true
viewport_played s a c p w h i words is =
    let g : ContentId → PairNo → ℕ → ℕ → Option Inset → Call = λ d x k m n. call.CreateViewport d x k m (inset_or_none n) in
    let m = mapped_ok line.Call (whole (call_form s a CreateViewport) words) (line.Call (call.CreateViewport c p w h i)) is in
    let p5 = apply_ok (g <$> content <*> viewport_end s a <*> u32 <*> u32) (optional inset) words m.a []
    (whole_ok (call_form s a CreateViewport) words m.a m.given) in
    let p4 = apply_ok (g <$> content <*> viewport_end s a <*> u32) u32 words p5.g p5.mid p5.first in
    let p3 = apply_ok (g <$> content <*> viewport_end s a) u32 words p4.g p4.mid p4.first in
    let p2 = apply_ok (g <$> content) (viewport_end s a) words p3.g p3.mid p3.first in
    let p1 = map_ok g content words p2.g p2.mid p2.first in
    let q = place_ok _ p2.mid p2.a p3.mid p2.second in
    let made : g p1.a p2.a p3.a p4.a p5.a ≡ m.a = gathered g p1.a p2.g p2.a p3.g p3.a p4.g p4.a p5.g p5.a m.a p1.value p2.value p3.value p4.value p5.value in
    viewport_from s.setup a c p1.a p p2.a w h p3.a p4.a i (inset_or_none p5.a)
    (line_of (g p1.a p2.a p3.a p4.a p5.a) m.a (line.Call (call.CreateViewport c p w h i)) made m.value) (viewport_owned s a q.word p2.a q.passes)

buffers_owner_is : (a : SessionNo) (o : Option BufferDecl) → option_map_or (λ d. is_actor (Session a) (Session d.owner)) o false ≡ true
    → unwrap_or (option_map (λ d. d.owner.0 == a.0) o) false ≡ true
buffers_owner_is a None is = absurd (cc)
buffers_owner_is a (Some d) is = same_number a.0 d.owner.0 is

-- a test that gave a number gave one that is owned
collection_owned : (s : Script) (a : SessionNo) (w : Word) (b : BufferNo)
    → mapped (λ i. record { 0 = i }) (owned s.buffers s.setup.buffers (λ d. is_actor (Session a) (Session d.owner)) w) ≡ Ok b → owns_buffers s.setup a b ≡ true
collection_owned s a w b is =
    let n = mapped_ok (λ i. record { 0 = i }) (owned s.buffers s.setup.buffers (λ d. is_actor (Session a) (Session d.owner)) w) b is in
    let owns = owned_owns s.buffers s.setup.buffers (λ d. is_actor (Session a) (Session d.owner)) w n.a n.given in
    ap (owns_buffers s.setup a) (sym n.value) ∙ buffers_owner_is a (slice_get s.setup.buffers n.a) owns

image_from : (setup : Setup) (a : SessionNo) (c d : ContentId) (b q : BufferNo) (i w h j k n : ℕ)
    → line.Call (call.CreateImage d q j k n) ≡ line.Call (call.CreateImage c b i w h)
    → owns_buffers setup a q ≡ true → owns_buffers setup a b ≡ true
image_from setup a c d b q i w h j k n same owns = let e : q ≡ b = cc in ap (owns_buffers setup a) (sym e) ∙ owns

image_played : (s : Script) (a : SessionNo) (c : ContentId) (b : BufferNo) (i w h : ℕ) (words : List Word)
    → mapped line.Call (whole (call_form s a CreateImage) words) ≡ Ok (line.Call (call.CreateImage c b i w h)) → owns_buffers s.setup a b ≡ true
image_played s a c b i w h words is =
    let g : ContentId → BufferNo → ℕ → ℕ → ℕ → Call = λ d x k m n. call.CreateImage d x k m n in
    let m = mapped_ok line.Call (whole (call_form s a CreateImage) words) (line.Call (call.CreateImage c b i w h)) is in
    let p5 = apply_ok (g <$> content <*> collection s a <*> u32 <*> u32) u32 words m.a [] (whole_ok (call_form s a CreateImage) words m.a m.given) in
    let p4 = apply_ok (g <$> content <*> collection s a <*> u32) u32 words p5.g p5.mid p5.first in
    let p3 = apply_ok (g <$> content <*> collection s a) u32 words p4.g p4.mid p4.first in
    let p2 = apply_ok (g <$> content) (collection s a) words p3.g p3.mid p3.first in
    let p1 = map_ok g content words p2.g p2.mid p2.first in
    let q = place_ok _ p2.mid p2.a p3.mid p2.second in
    let made : g p1.a p2.a p3.a p4.a p5.a ≡ m.a = gathered g p1.a p2.g p2.a p3.g p3.a p4.g p4.a p5.g p5.a m.a p1.value p2.value p3.value p4.value p5.value in
    image_from s.setup a c p1.a b p2.a i w h p3.a p4.a p5.a
    (line_of (g p1.a p2.a p3.a p4.a p5.a) m.a (line.Call (call.CreateImage c b i w h)) made m.value) (collection_owned s a q.word p2.a q.passes)

call_played : (s : Script) (a : SessionNo) (c : Call) → session_line s a (call_words s c) ≡ Ok (line.Call c) → is_played_call s.setup a c ≡ true
call_played s a (call.CreateView p) is = view_played s a p is
call_played s a (call.CreateViewport c p w h i) is = viewport_played s a c p w h i (call_fields s (call.CreateViewport c p w h i)) is
call_played s a (call.CreateImage c b i w h) is = image_played s a c b i w h (decimal c.0 ∷ buffers_word s b ∷ numbers (i ∷ w ∷ h ∷ [])) is
call_played s a _ is = refl

-- fences

first_owner : (x y p q b : Bool) → x ≡ b → (x ≡ true → p ≡ true) → (y ≡ true → q ≡ true) → (x || y) ≡ true → (p || q) ≡ true
first_owner x y p q true at first rest is = ap (λ v. v || q) (first at)
first_owner x y p q false at first rest is = ap (λ v. p || v) (rest (ap (λ v. v || y) (sym at) ∙ is)) ∙ or-true p

any_owner : (a : SessionNo) (owners : List Actor) → list_any (is_actor (Session a)) owners ≡ true → list_any (is_session a) owners ≡ true
any_owner a [] is = absurd (cc)
any_owner a (who ∷ owners) is =
    first_owner (is_actor (Session a) who) (list_any (is_actor (Session a)) owners) (is_session a who) (list_any (is_session a) owners)
    (is_actor (Session a) who) refl (owner_is a who) (any_owner a owners) is

fence_owner_is : (a : SessionNo) (o : Option FenceDecl) → option_map_or (λ d. list_any (is_actor (Session a)) d.owners) o false ≡ true
    → unwrap_or (option_map (λ d. list_any (is_session a) d.owners) o) false ≡ true
fence_owner_is a None is = absurd (cc)
fence_owner_is a (Some d) is = any_owner a d.owners is

tested_owned : (s : Script) (a : SessionNo) (w : Word) (f : FenceNo) → fence_word s (Session a) w ≡ Ok f → owns_fence s.setup a f ≡ true
tested_owned s a w f is =
    let n = mapped_ok (λ i. record { 0 = i }) (owned s.fences s.setup.fences (λ d. list_any (is_actor (Session a)) d.owners) w) f is in
    let owns = owned_owns s.fences s.setup.fences (λ d. list_any (is_actor (Session a)) d.owners) w n.a n.given in
    ap (owns_fence s.setup a) (sym n.value) ∙ fence_owner_is a (slice_get s.setup.fences n.a) owns

display_owner : (owners : List Actor) → list_any (is_actor Display) owners ≡ true → list_any is_display owners ≡ true
display_owner [] is = absurd (cc)
display_owner (Display ∷ owners) is = refl
display_owner (Session s ∷ owners) is = display_owner owners is
display_owner (Probe p ∷ owners) is = display_owner owners is

display_fence : (o : Option FenceDecl) → option_map_or (λ d. list_any (is_actor Display) d.owners) o false ≡ true
    → unwrap_or (option_map (λ d. list_any is_display d.owners) o) false ≡ true
display_fence None is = absurd (cc)
display_fence (Some d) is = display_owner d.owners is

tested_display : (s : Script) (w : Word) (f : FenceNo) → fence_word s Display w ≡ Ok f → display_owns s.setup f ≡ true
tested_display s w f is =
    let n = mapped_ok (λ i. record { 0 = i }) (owned s.fences s.setup.fences (λ d. list_any (is_actor Display) d.owners) w) f is in
    let owns = owned_owns s.fences s.setup.fences (λ d. list_any (is_actor Display) d.owners) w n.a n.given in
    ap (display_owns s.setup) (sym n.value) ∙ display_fence (slice_get s.setup.fences n.a) owns

each_owned : (s : Script) (a : SessionNo) (words : List Word) (fs : List FenceNo) → each (fence_word s (Session a)) words ≡ Ok fs
    → list_all (owns_fence s.setup a) fs ≡ true
each_owned s a [] fs is = let none : [] ≡ fs = cc in ap (list_all (owns_fence s.setup a)) (sym none)
each_owned s a (w ∷ words) fs is =
    let parts = both_ok (λ f rest. f ∷ rest) (fence_word s (Session a) w) (each (fence_word s (Session a)) words) fs is in
    ap (list_all (owns_fence s.setup a)) (sym parts.value) ∙ ap (λ b. b && list_all (owns_fence s.setup a) parts.b) (tested_owned s a w parts.a parts.first)
    ∙ each_owned s a words parts.b parts.second

some_owned : (s : Script) (a : SessionNo) (words : List Word) (fs : List FenceNo) → one_or_more (fence_word s (Session a)) words ≡ Ok fs
    → list_all (owns_fence s.setup a) fs ≡ true
some_owned s a [] fs is = absurd (cc)
some_owned s a (w ∷ words) fs is = each_owned s a (w ∷ words) fs is

behind_owned : (s : Script) (a : SessionNo) (words : List Word) (fs : List FenceNo) (b : Bool)
    → (if b then one_or_more (fence_word s (Session a)) (after_first (ends_list true) words) else Ok []) ≡ Ok fs → list_all (owns_fence s.setup a) fs ≡ true
behind_owned s a words fs true is = some_owned s a (after_first (ends_list true) words) fs is
behind_owned s a words fs false is = let none : [] ≡ fs = cc in ap (list_all (owns_fence s.setup a)) (sym none)

-- both lists are the session's
abbrev AreOwned : Script → SessionNo → List FenceNo × List FenceNo → Type 0
AreOwned s a lists = (list_all (owns_fence s.setup a) lists.0 && list_all (owns_fence s.setup a) lists.1) ≡ true

both_owned : (s : Script) (a : SessionNo) (x y : Reading (List FenceNo)) (lists : List FenceNo × List FenceNo) → both pair_of x y ≡ Ok lists
    → ((fs : List FenceNo) → x ≡ Ok fs → list_all (owns_fence s.setup a) fs ≡ true)
    → ((fs : List FenceNo) → y ≡ Ok fs → list_all (owns_fence s.setup a) fs ≡ true) → AreOwned s a lists
both_owned s a x y lists is first second =
    let parts = both_ok pair_of x y lists is in
    let P : List FenceNo × List FenceNo → Type 0 = AreOwned s a in
    subst P parts.value (ap (λ b. b && list_all (owns_fence s.setup a) parts.b) (first parts.a parts.first) ∙ second parts.b parts.second)

abbrev no_fences : Reading (List FenceNo)
no_fences = Ok []

none_owned : (s : Script) (a : SessionNo) (fs : List FenceNo) → no_fences ≡ Ok fs → list_all (owns_fence s.setup a) fs ≡ true
none_owned s a fs is = let none : [] ≡ fs = cc in ap (list_all (owns_fence s.setup a)) (sym none)

lists_by : (s : Script) (a : SessionNo) (w : Word) (words : List Word) (lists : List FenceNo × List FenceNo) → ListsOk (fence_word s (Session a)) w words lists
    → AreOwned s a lists
lists_by s a w words lists (inl read) =
    both_owned s a _ _ lists read.1 (λ fs given. some_owned s a (before_first (ends_list true) words) fs given)
    (λ fs given. behind_owned s a words fs (list_any (ends_list true) words) given)
lists_by s a w words lists (inr read) = both_owned s a _ _ lists read.1 (λ fs given. none_owned s a fs given) (λ fs given. some_owned s a words fs given)

lists_owned : (s : Script) (a : SessionNo) (words : List Word) (lists : List FenceNo × List FenceNo) → fence_lists (fence_word s (Session a)) words ≡ Ok lists
    → AreOwned s a lists
lists_owned s a [] lists is =
    let none : ([], []) ≡ lists = cc in
    let P : List FenceNo × List FenceNo → Type 0 = AreOwned s a in
    subst P none refl
lists_owned s a (w ∷ words) lists is = lists_by s a w words lists (lists_ok (fence_word s (Session a)) w words lists is)

-- a form of a fence
fence_given : (s : Script) (who : Actor) {B : Type 0} (h : FenceNo → B) (words : List Word) (v : B) → whole (h <$> fence s who) words ≡ Ok v
    → (f : FenceNo) × ((w : Word) × ((fence_word s who w ≡ Ok f) × (h f ≡ v)))
fence_given s who h words v is =
    let m = map_ok h (fence s who) words v [] (whole_ok (h <$> fence s who) words v is) in
    let q = place_ok _ words m.a [] m.given in
    (m.a, (q.word, (q.passes, m.value)))

-- the other lines of a session

-- what three steps made
collected : {A B C D : Type 0} (f : A → B → C → D) (a : A) (g : B → C → D) (b : B) (h : C → D) (c : C) (made : D) → f a ≡ g → g b ≡ h → h c ≡ made
    → f a b c ≡ made
collected f a g b h c made first second third = ap (λ x. x b c) first ∙ ap (λ x. x c) second ∙ third

present_from : (setup : Setup) (a : SessionNo) (made given p : PresentArgs) → made ≡ given → line.Present given ≡ line.Present p
    → is_played_line setup a (line.Present made) ≡ true
    → is_played_line setup a (line.Present p) ≡ true
present_from setup a made given p same is owned = ap (is_played_line setup a) (sym (ap line.Present same ∙ is)) ∙ owned

present_by : (s : Script) (a : SessionNo) (p : PresentArgs) (words : List Word) → whole (line.Present <$> present s a) words ≡ Ok (line.Present p)
    → is_played_line s.setup a (line.Present p) ≡ true
present_by s a p words is =
    let lists : Form (List FenceNo × List FenceNo) = λ ws. (fence_lists (fence_word s (Session a)) ws, []) in
    let alone = unsquashable s.version in
    let h : ℕ → Bool → List FenceNo × List FenceNo → PresentArgs = λ t u both. record { time = t; acquire = both.0; release = both.1; unsquashable = u } in
    let whole_line = map_ok line.Present (present s a) words (line.Present p) [] (whole_ok (line.Present <$> present s a) words (line.Present p) is) in
    let third = apply_ok (h <$> time <*> alone) lists words whole_line.a [] whole_line.given in
    let second = apply_ok (h <$> time) alone words third.g third.mid third.first in
    let first = map_ok h time words second.g second.mid second.first in
    let owned = lists_owned s a third.mid third.a third.second.value in
    let args : h first.a second.a third.a ≡ whole_line.a =
    collected h first.a second.g second.a third.g third.a whole_line.a first.value second.value third.value in
    present_from s.setup a (h first.a second.a third.a) whole_line.a p args whole_line.value owned

signal_played : (s : Script) (a : SessionNo) (f : FenceNo) (words : List Word) → whole (line.Signal <$> fence s (Session a)) words ≡ Ok (line.Signal f)
    → owns_fence s.setup a f ≡ true
signal_played s a f words is =
    let g = fence_given s (Session a) line.Signal words (line.Signal f) is in
    let l : line.Signal g.0 ≡ line.Signal f = g.1.1.1 in
    let e : g.0 ≡ f = cc in
    ap (owns_fence s.setup a) (sym e) ∙ tested_owned s a g.1.0 g.0 g.1.1.0

wait_fence_played : (s : Script) (a : SessionNo) (f : FenceNo) (words : List Word)
    → mapped line.Wait (whole (asks.Fence <$> fence s (Session a)) words) ≡ Ok (line.Wait (asks.Fence f)) → owns_fence s.setup a f ≡ true
wait_fence_played s a f words is =
    let m = mapped_ok line.Wait (whole (asks.Fence <$> fence s (Session a)) words) (line.Wait (asks.Fence f)) is in
    let g = fence_given s (Session a) asks.Fence words m.a m.given in
    let c : asks.Fence g.0 ≡ m.a = g.1.1.1 in
    let l : line.Wait m.a ≡ line.Wait (asks.Fence f) = m.value in
    let e : g.0 ≡ f = cc in
    ap (owns_fence s.setup a) (sym e) ∙ tested_owned s a g.1.0 g.0 g.1.1.0

wait_played : (s : Script) (a : SessionNo) (c : WaitCondition) → session_line s a (session_words s (line.Wait c)) ≡ Ok (line.Wait c)
    → is_played_condition s.setup a c ≡ true
wait_played s a (asks.Frames n) is = refl
wait_played s a (asks.Credits n) is = refl
wait_played s a (asks.Taken n) is = refl
wait_played s a (asks.Answers n) is = refl
wait_played s a (asks.Fence f) is = wait_fence_played s a f (fence_name s f ∷ []) is
wait_played s a (asks.Presents t n) is = absurd (cc)

session_played : (s : Script) (a : SessionNo) (l : SessionLine) → session_line s a (session_words s l) ≡ Ok l → is_played_line s.setup a l ≡ true
session_played s a (line.Call c) is = call_played s a c is
session_played s a (line.Present p) is = present_by s a p (decimal p.time ∷ unsquashable_word p.unsquashable ++ lists_words s p) is
session_played s a (line.Get w) is = refl
session_played s a (line.Signal f) is = signal_played s a f (fence_name s f ∷ []) is
session_played s a line.Poll is = refl
session_played s a (line.Wait c) is = wait_played s a c is
session_played s a line.Disconnect is = refl

-- the display

display_signal_played : (s : Script) (f : FenceNo) (words : List Word) → whole (display.Signal <$> fence s Display) words ≡ Ok (display.Signal f)
    → display_owns s.setup f ≡ true
display_signal_played s f words is =
    let g = fence_given s Display display.Signal words (display.Signal f) is in
    let l : display.Signal g.0 ≡ display.Signal f = g.1.1.1 in
    let e : g.0 ≡ f = cc in
    ap (display_owns s.setup) (sym e) ∙ tested_display s g.1.0 g.0 g.1.1.0

display_wait_fence_played : (s : Script) (f : FenceNo) (words : List Word)
    → mapped display.Wait (whole (asks.Fence <$> fence s Display) words) ≡ Ok (display.Wait (asks.Fence f)) → display_owns s.setup f ≡ true
display_wait_fence_played s f words is =
    let m = mapped_ok display.Wait (whole (asks.Fence <$> fence s Display) words) (display.Wait (asks.Fence f)) is in
    let g = fence_given s Display asks.Fence words m.a m.given in
    let c : asks.Fence g.0 ≡ m.a = g.1.1.1 in
    let l : display.Wait m.a ≡ display.Wait (asks.Fence f) = m.value in
    let e : g.0 ≡ f = cc in
    ap (display_owns s.setup) (sym e) ∙ tested_display s g.1.0 g.0 g.1.1.0

presents_declared : (s : Script) (t : SessionNo) (n : ℕ) (words : List Word) → s.setup.sessions ≡ length s.sessions
    → mapped display.Wait (whole (presents_asked s) words) ≡ Ok (display.Wait (asks.Presents t n)) → is_declared s.setup t ≡ true
presents_declared s t n words many is =
    let h : SessionNo → ℕ → WaitCondition = λ x k. asks.Presents x k in
    let m = mapped_ok display.Wait (whole (presents_asked s) words) (display.Wait (asks.Presents t n)) is in
    let second = apply_ok (h <$> session s) u32 words m.a [] (whole_ok (presents_asked s) words m.a m.given) in
    let first = map_ok h (session s) words second.g second.mid second.first in
    let q = place_ok _ words first.a second.mid first.given in
    let c : h first.a second.a ≡ m.a = ap (λ g. g second.a) first.value ∙ second.value in
    let l : display.Wait m.a ≡ display.Wait (asks.Presents t n) = m.value in
    let e : first.a ≡ t = cc in
    ap (is_declared s.setup) (sym e) ∙ session_declared s q.word first.a many (or_kind_ok UnknownName _ first.a q.passes)

-- a line that sets a pixel ratio, as it is read where the version has it and where it hasn't
pub ratio_line : (s : Script) (r : ℕ) (words : List Word) → display_line s (codes "dpr" ∷ words) ≡ Ok (display.Dpr r)
    → (nat_lt s.version RATIO_SINCE ≡ false) × (whole (display.Dpr <$> ratio) words ≡ Ok (display.Dpr r))
ratio_line s r words is = by_version (nat_lt s.version RATIO_SINCE) refl
  where
    by_version : (b : Bool) → nat_lt s.version RATIO_SINCE ≡ b
        → (nat_lt s.version RATIO_SINCE ≡ false) × (whole (display.Dpr <$> ratio) words ≡ Ok (display.Dpr r))
    by_version true early = absurd (let wrong = rw early at is in cc)
    by_version false late = (late, rw late at is)

ratio_played : (r : ℕ) (words : List Word) → whole (display.Dpr <$> ratio) words ≡ Ok (display.Dpr r) → is_ratio r ≡ true
ratio_played r words is =
    let m = map_ok display.Dpr ratio words (display.Dpr r) [] (whole_ok (display.Dpr <$> ratio) words (display.Dpr r) is) in
    let p = place_ok _ words m.a [] m.given in
    let d : display.Dpr m.a ≡ display.Dpr r = m.value in
    let same : m.a ≡ r = cc in
    ap is_ratio (sym same) ∙ test_passes is_ratio (natural p.word) m.a (or_kind_ok BadNumber _ m.a p.passes)

display_played : (s : Script) (l : DisplayLine) → s.setup.sessions ≡ length s.sessions → display_line s (display_words s l) ≡ Ok l
    → is_played_display s.setup l ≡ true
display_played s (display.Begin t) many is = refl
display_played s display.Done many is = refl
display_played s (display.Signal f) many is = display_signal_played s f (fence_name s f ∷ []) is
display_played s (display.Wait (asks.Frames n)) many is = absurd (cc)
display_played s (display.Wait (asks.Credits n)) many is = absurd (cc)
display_played s (display.Wait (asks.Taken n)) many is = absurd (cc)
display_played s (display.Wait (asks.Answers n)) many is = absurd (cc)
display_played s (display.Wait (asks.Fence f)) many is = display_wait_fence_played s f (fence_name s f ∷ []) is
display_played s (display.Wait (asks.Presents t n)) many is = presents_declared s t n (session_word s t ∷ decimal n ∷ []) many is
display_played s (display.Hit x y) many is = refl
display_played s (display.Dpr r) many is = ratio_played r (decimal r ∷ []) (ratio_line s r (decimal r ∷ []) is).1

-- a line behind its actor
pub line_played : (s : Script) (a : Actor) (words : List Word) (b : LineBody) → s.setup.sessions ≡ length s.sessions → may_act s.setup a ≡ true
    → actor_line s a words ≡ Ok b → is_played s.setup a b ≡ true
line_played s Display words b many may is =
    let m = mapped_ok body.Display (display_line s words) b is in
    ap (is_played s.setup Display) (sym m.value) ∙ display_played s m.a many (ap (display_line s) (display_spelt s words m.a m.given) ∙ m.given)
line_played s (Session a) words b many may is =
    let m = mapped_ok body.Session (session_line s a words) b is in
    let shown = session_shown s a words m.a m.given in
    ap (is_played s.setup (Session a)) (sym m.value) ∙ ap (λ d. d && is_played_line s.setup a m.a) may ∙ session_played s a m.a shown.again
line_played s (Probe p) words b many may is =
    let m = mapped_ok body.Probe (probe_line s.version words) b is in
    ap (is_played s.setup (Probe p)) (sym m.value) ∙ may
