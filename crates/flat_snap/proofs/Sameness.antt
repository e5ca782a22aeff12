-- The derived tests of equality decide whether two values are equal.
use Rattle.std.proofs.Common.{◌≡◌, ◌+◌, refl, sym, ap, ◌∙◌, Bool, ℕ, ℤ, List, [], ◌∷◌, ◌++◌, take, get_or, slice_get, Option, Some, None, rules}
use Rattle.std.proofs.lemmas.List.{take_more}
use Rattle.std.proofs.lemmas.Option.{get_or_from_slice_get, slice_get_within}
use Rattle.std.specs.Bool.{Decides}
use Rattle.std.specs.Option.{option_eq}
use Rattle.std.proofs.lemmas.Bool.Decides.{Decides-and, Decides-like, Decides-eqb, Decides-int_eq}
use Rattle.flat_base.specs.declared.ids.BufferNo.{BufferNo}
use Rattle.flat_base.specs.declared.ids.PairNo.{PairNo}
use Rattle.flat_scene.specs.declared.trees.Node.{Node}
use Rattle.flat_scene.specs.declared.trees.Tree.{Tree}
use Rattle.flat_scene.specs.declared.trees.ViewportUse.{ViewportUse}
use Rattle.flat_scene.specs.Tree.{head_of}
use Rattle.flat_snap.specs.Flat.{flat_from, flat_nodes, rooted}
use Rattle.flat_snap.specs.Forest.{forest}
use Rattle.flat_snap.proofs.lemmas.Rebuilding.{forest-whole}
use Rattle.flat_base.specs.declared.shapes.IntRect.{IntRect}
use Rattle.flat_base.specs.contracts.shapes.IntRectPartialEq.TheImpl.{eq-value as rect}
use Rattle.flat_scene.specs.declared.calls.BlendMode.{BlendMode}
use Rattle.flat_scene.specs.declared.calls.ImageFlip.{ImageFlip}
use Rattle.flat_scene.specs.contracts.calls.BlendModePartialEq.TheImpl.{eq-value as blend}
use Rattle.flat_scene.specs.contracts.calls.ImageFlipPartialEq.TheImpl.{eq-value as flip}
use Rattle.flat_scene.specs.declared.trees.Content.{Content}
use Rattle.flat_scene.specs.declared.trees.Content.TheVariants as content
use Rattle.flat_scene.specs.contracts.trees.ContentPartialEq.TheImpl.{eq-value as content_eq}

pub option-same : {X : Type 0} {E : X → X → Bool} → ((a b : X) → Decides (E a b) (a ≡ b)) → (one other : Option X)
    → Decides (option_eq E one other) (one ≡ other)
option-same same None None = (λ h. refl, λ h. refl)
option-same same None (Some b) = search rules
option-same same (Some a) None = search rules
option-same same (Some a) (Some b) = (λ h. ap (λ x. Some x) ((same a b).0 h), λ h. (same a b).1 (cc))

abbrev rect_at : ℤ → ℤ → ℤ → ℤ → IntRect
rect_at x y w h = record { x = x; y = y; w = w; h = h }

same-rect : (x x' y y' w w' h h' : ℤ) → x ≡ x' → y ≡ y' → w ≡ w' → h ≡ h' → rect_at x y w h ≡ rect_at x' y' w' h'
same-rect x x' y y' w w' h h' e0 e1 e2 e3 = rw (e0, e1, e2, e3) refl

rect-of : (a b : IntRect) → a.x ≡ b.x → a.y ≡ b.y → a.w ≡ b.w → a.h ≡ b.h → a ≡ b
rect-of a b x y w h = same-rect a.x b.x a.y b.y a.w b.w a.h b.h x y w h

pub rect-same : (a b : IntRect) → Decides (rect.it a b) (a ≡ b)
rect-same a b =
    Decides-like _ (λ p. rect-of a b p.0 p.1.0 p.1.1.0 p.1.1.1)
    (λ e. (ap (λ (r : IntRect). r.x) e, (ap (λ (r : IntRect). r.y) e, (ap (λ (r : IntRect). r.w) e, ap (λ (r : IntRect). r.h) e))))
    (Decides-and _ _ (Decides-int_eq a.x b.x) (Decides-and _ _ (Decides-int_eq a.y b.y) (Decides-and _ _ (Decides-int_eq a.w b.w) (Decides-int_eq a.h b.h))))

blend-same : (a b : BlendMode) → Decides (blend.it a b) (a ≡ b)
blend-same a b = search rules

flip-same : (a b : ImageFlip) → Decides (flip.it a b) (a ≡ b)
flip-same a b = search rules

abbrev buffer_at : ℕ → BufferNo
buffer_at n = record { 0 = n }

buffer-of : (a b : BufferNo) → a.0 ≡ b.0 → a ≡ b
buffer-of a b e = ap buffer_at e

image-of : (serial serial' : ℕ) (buffers buffers' : BufferNo) (index index' : ℕ) (sample sample' : IntRect) (w w' h h' : ℕ) (b b' : BlendMode)
    (f f' : ImageFlip) (opacity opacity' : ℕ)
    → serial ≡ serial' → buffers.0 ≡ buffers'.0 → index ≡ index' → sample ≡ sample' → w ≡ w' → h ≡ h' → b ≡ b' → f ≡ f' → opacity ≡ opacity'
    → content.Image serial buffers index sample w h b f opacity ≡ content.Image serial' buffers' index' sample' w' h' b' f' opacity'
image-of serial serial' buffers buffers' index index' sample sample' w w' h h' b b' f f' opacity opacity' e0 e1 e2 e3 e4 e5 e6 e7 e8 =
    let e : buffers ≡ buffers' = buffer-of buffers buffers' e1 in cc

pub content-same : (one other : Content) → Decides (content_eq.it one other) (one ≡ other)
content-same (content.Fill serial rgba w h) (content.Fill serial' rgba' w' h') = search rules
content-same (content.Image serial buffers index sample w h b f opacity) (content.Image serial' buffers' index' sample' w' h' b' f' opacity') =
    Decides-like _ (λ p. image-of serial serial' buffers buffers' index index' sample sample' w w' h h' b b' f f' opacity opacity' p.0 p.1.0 p.1.1.0 p.1.1.1.0
    p.1.1.1.1.0 p.1.1.1.1.1.0 p.1.1.1.1.1.1.0 p.1.1.1.1.1.1.1.0 p.1.1.1.1.1.1.1.1)
    (λ e. let same : buffers ≡ buffers' = cc in (cc, (ap (λ (n : BufferNo). n.0) same, (cc, (cc, (cc, (cc, (cc, (cc, cc)))))))))
    (Decides-and _ _ (Decides-eqb serial serial') (Decides-and _ _ (Decides-eqb buffers.0 buffers'.0) (Decides-and _ _ (Decides-eqb index index')
    (Decides-and _ _ (rect-same sample sample') (Decides-and _ _ (Decides-eqb w w') (Decides-and _ _ (Decides-eqb h h')
    (Decides-and _ _ (blend-same b b') (Decides-and _ _ (flip-same f f') (Decides-eqb opacity opacity')))))))))
content-same (content.Viewport serial pair props) (content.Viewport serial' pair' props') = search rules
content-same (content.Fill serial rgba w h) (content.Image serial' buffers' index' sample' w' h' b' f' opacity') = search rules
content-same (content.Fill serial rgba w h) (content.Viewport serial' pair' props') = search rules
content-same (content.Image serial buffers index sample w h b f opacity) (content.Fill serial' rgba' w' h') = search rules
content-same (content.Image serial buffers index sample w h b f opacity) (content.Viewport serial' pair' props') = search rules
content-same (content.Viewport serial pair props) (content.Fill serial' rgba' w' h') = search rules
content-same (content.Viewport serial pair props) (content.Image serial' buffers' index' sample' w' h' b' f' opacity') = search rules

-- ---- trees

head-rooted : (root : Option Node) → head_of (rooted root) ≡ root
head-rooted None = refl
head-rooted (Some root) = refl

root-same : (a b : Option Node) → flat_from 0 (rooted a) ≡ flat_from 0 (rooted b) → a ≡ b
root-same a b e =
    let all : rooted a ≡ rooted b = sym (forest-whole (rooted a)) ∙ ap forest e ∙ forest-whole (rooted b) in
    sym (head-rooted a) ∙ ap head_of all ∙ head-rooted b

abbrev tree_at : Option PairNo → Option Node → List ViewportUse → Tree
tree_at view root viewports = record { view = view; root = root; viewports = viewports }

-- trees with the same nodes in their lists are the same, but for the view and the viewports in use
pub tree-same : (a b : Tree) → a.view ≡ b.view → a.viewports ≡ b.viewports → flat_nodes a ≡ flat_nodes b → a ≡ b
tree-same a b view viewports nodes =
    ap (λ (v : Option PairNo). tree_at v a.root a.viewports) view ∙ ap (λ (r : Option Node). tree_at b.view r a.viewports) (root-same a.root b.root nodes)
    ∙ ap (λ (us : List ViewportUse). tree_at b.view b.root us) viewports

-- ---- lists

-- two lists begin with the same items, and have the same next one
pub front-next : {X : Type 0} (xs ys : List X) (i : ℕ) (x y : X) → slice_get xs i ≡ Some x → slice_get ys i ≡ Some y → x ≡ y → take i xs ≡ take i ys
    → take (i + 1) xs ≡ take (i + 1) ys
front-next {X = X} xs ys i x y at at' same front =
    let more : take (i + 1) xs ≡ take i xs ++ get_or xs i x ∷ [] = take_more xs i x (slice_get_within xs i x at) in
    let more' : take (i + 1) ys ≡ take i ys ++ get_or ys i y ∷ [] = take_more ys i y (slice_get_within ys i y at') in
    let last : get_or xs i x ≡ get_or ys i y = get_or_from_slice_get xs i x x at ∙ same ∙ sym (get_or_from_slice_get ys i y y at') in
    more ∙ ap (λ (zs : List X). zs ++ get_or xs i x ∷ []) front ∙ ap (λ (z : X). take i ys ++ z ∷ []) last ∙ sym more'
