-- What the lists of packed nodes stand for, when they grow and when a node's end is written.
use Rattle.std.proofs.Common.{ℕ, suc, ◌+◌, ◌-◌, ◌<◌, ◌≤◌, ◌≡◌, refl, sym, ap, ◌∙◌, Bool, true, false, cond, List, [], ◌∷◌, ◌++◌, length, map, take, drop}
use Rattle.std.proofs.Common.{get_or, slice_set, Option, Result, Ok, Err, OnErr, arith}
use Rattle.std.specs.List.{All, slice_range}
use Rattle.std.proofs.lemmas.List.{length-append, length-drop, length-map, drop-append-le, map-set, take-append-le}
use Rattle.std.proofs.lemmas.List.Elements.{All-append, All-get_or, All-set}
use Rattle.std.proofs.Math.ListN.{get_or-map}
use Rattle.std.proofs.Math.Seq.{drop-append_seam, map-set_same, take-length}
use Rattle.flat_scene.specs.declared.calls.HitRegion.{HitRegion}
use Rattle.flat_scene.specs.declared.trees.Children.TheVariants.{Empty}
use Rattle.flat_scene.specs.declared.trees.Content.{Content}
use Rattle.flat_snap.specs.declared.flat.Part.{Part}
use Rattle.flat_snap.specs.declared.flat.PackedNode.{PackedNode}
use Rattle.flat_snap.specs.Flat.{FlatNode, flat_node, is_viewport, viewport_places}
use Rattle.flat_snap.specs.Forest.{as_node}
use Rattle.flat_snap.specs.Inside.{IsWhole, whole_part}
use Rattle.flat_snap.specs.Packed.{IsWithin, unpacked, unpacked_all, unfinished}
use Rattle.flat_snap.proofs.Wholes.{Enters, enters, building, with_end}

-- more regions behind those of a node play no part
range-grown : (rs more : List HitRegion) (start end : ℕ) → start ≤ end → end ≤ length rs → slice_range (rs ++ more) start end ≡ slice_range rs start end
range-grown rs more start end order within =
    let low : start ≤ length rs = omega arith in
    ap (λ (all : List HitRegion). take (end - start) all) (drop-append-le start rs more low)
    ∙ take-append-le (end - start) (drop start rs) more (omega (arith, length-drop start rs))

unpacked-grown : (rs more : List HitRegion) (n : PackedNode) → IsWithin (length rs) n → unpacked (rs ++ more) n ≡ unpacked rs n
unpacked-grown rs more n is = rw (range-grown rs more n.hits.start n.hits.end is.order is.within) refl

pub all-grown : (rs more : List HitRegion) (ns : List PackedNode) → All (IsWithin (length rs)) ns → unpacked_all (rs ++ more) ns ≡ unpacked_all rs ns
all-grown rs more [] all = refl
all-grown rs more (n ∷ ns) all =
    let here : IsWithin (length rs) n = all 0 n (omega arith) in
    let later : All (IsWithin (length rs)) ns = λ k d low. all (suc k) d (omega (arith, low)) in
    rw (unpacked-grown rs more n here, all-grown rs more ns later) refl

pub within-grown : (small large : ℕ) (ns : List PackedNode) → small ≤ large → All (IsWithin small) ns → All (IsWithin large) ns
within-grown small large ns h all = λ k d low. let here = all k d low in record { order = here.order; within = omega (arith, here.within) }

-- the regions that were put behind the others
range-behind : (rs more : List HitRegion) → slice_range (rs ++ more) (length rs) (length (rs ++ more)) ≡ more
range-behind rs more =
    let size : length (rs ++ more) - length rs ≡ length more = omega (arith, length-append rs more) in
    ap (λ (n : ℕ). take n (drop (length rs) (rs ++ more))) size ∙ ap (λ (all : List HitRegion). take (length more) all) (drop-append_seam rs more)
    ∙ take-length more

abbrev pub part_at : ℕ → ℕ → Part
part_at start end = record { start = start; end = end }

pub unfinished-is : (rs : List HitRegion) (n : FlatNode)
    → unpacked (rs ++ n.hits) (unfinished n (part_at (length rs) (length (rs ++ n.hits)))) ≡ flat_node (as_node n Empty) 0
unfinished-is rs n = rw (range-behind rs n.hits) refl

map-push : {X Y : Type 0} (f : X → Y) (xs : List X) (x : X) → map f (xs ++ x ∷ []) ≡ map f xs ++ f x ∷ []
map-push f [] x = refl
map-push f (y ∷ ys) x = rw (map-push f ys x) refl

-- one more node is open, and its regions lie behind the others
pub packed-enters : (rs rs' : List HitRegion) (flat flat' : List PackedNode) (places places' : List ℕ) (n : FlatNode) (start end at : ℕ)
    → IsWhole (unpacked_all rs flat) places → All (IsWithin (length rs)) flat → rs' ≡ rs ++ n.hits → start ≡ length rs → end ≡ length rs'
    → flat' ≡ flat ++ unfinished n (part_at start end) ∷ [] → at ≡ length flat → places' ≡ places ++ at ∷ []
    → Enters (unpacked_all rs flat) places (as_node n Empty) (unpacked_all rs' flat') places'
packed-enters rs rs' flat flat' places places' n start end at is within e f g h i j =
    let u : PackedNode = unfinished n (part_at (length rs) (length (rs ++ n.hits))) in
    let same : flat' ≡ flat ++ u ∷ [] = rw (h, f, g, e) refl in
    let all : unpacked_all rs' flat' ≡ unpacked_all rs flat ++ unpacked (rs ++ n.hits) u ∷ []
    = ap (λ (rs : List HitRegion). unpacked_all rs flat') e ∙ ap (unpacked_all (rs ++ n.hits)) same ∙ map-push (unpacked (rs ++ n.hits)) flat u
    ∙ ap (λ (ns : List FlatNode). ns ++ unpacked (rs ++ n.hits) u ∷ []) (all-grown rs n.hits flat within) in
    enters (unpacked_all rs flat) places (as_node n Empty) (unpacked (rs ++ n.hits) u) at (unpacked_all rs' flat') places' is refl (unfinished-is rs n) all
    (i ∙ sym (length-map flat (unpacked rs))) j

-- the regions of all nodes lie in the grown list
pub within-more : (size size' : ℕ) (flat flat' : List PackedNode) (n : FlatNode) (start end : ℕ) → All (IsWithin size) flat → size ≤ size' → start ≡ size
    → end ≡ size'
    → flat' ≡ flat ++ unfinished n (part_at start end) ∷ [] → All (IsWithin size') flat'
within-more size size' flat flat' n start end within h d e f =
    rw f (All-append (IsWithin size') flat (unfinished n (part_at start end) ∷ []) (within-grown size size' flat h within)
    (λ k x low. let first : k ≡ 0 = omega (arith, low) in rw first (record { order = omega (arith, d, e, h); within = omega (arith, e) })))

places-more : (place : ℕ) (cs : List (Option Content)) (c : Option Content)
    → viewport_places place (cs ++ c ∷ []) ≡ viewport_places place cs ++ viewport_places (place + length cs) (c ∷ [])
places-more place [] c = let e : place + 0 ≡ place = omega arith in rw e refl
places-more place (d ∷ cs) c =
    let e : place + 1 + length cs ≡ place + length (d ∷ cs) = omega arith in
    by_test (is_viewport d) (places-more (place + 1) cs c ∙ ap (λ (at : ℕ). viewport_places (place + 1) cs ++ viewport_places at (c ∷ [])) e)
  where
    by_test : (b : Bool) → viewport_places (place + 1) (cs ++ c ∷ []) ≡ viewport_places (place + 1) cs ++ viewport_places (place + length (d ∷ cs)) (c ∷ [])
        → cond b (place ∷ viewport_places (place + 1) (cs ++ c ∷ [])) (viewport_places (place + 1) (cs ++ c ∷ []))
        ≡ cond b (place ∷ viewport_places (place + 1) cs) (viewport_places (place + 1) cs) ++ viewport_places (place + length (d ∷ cs)) (c ∷ [])
    by_test true later = ap (λ (all : List ℕ). place ∷ all) later
    by_test false later = later

abbrev pub content_of : PackedNode → Option Content
content_of n = n.content

-- the number of one more viewport is noted
pub noted : (flat flat' : List PackedNode) (u : PackedNode) (at : ℕ) (found found' : List ℕ) → found ≡ viewport_places 0 (map content_of flat)
    → at ≡ length flat
    → flat' ≡ flat ++ u ∷ [] → found' ≡ found ++ viewport_places at (u.content ∷ []) → found' ≡ viewport_places 0 (map content_of flat')
noted flat flat' u at found found' is e f g =
    let size : at ≡ 0 + length (map content_of flat) = omega (arith, e, length-map flat content_of) in
    g ∙ ap (λ (all : List ℕ). all ++ viewport_places at (u.content ∷ [])) is
    ∙ ap (λ (n : ℕ). viewport_places 0 (map content_of flat) ++ viewport_places n (u.content ∷ [])) size
    ∙ sym (places-more 0 (map content_of flat) u.content) ∙ ap (viewport_places 0) (sym (map-push content_of flat u))
    ∙ ap (λ (all : List PackedNode). viewport_places 0 (map content_of all)) (sym f)

-- ---- the lists of a builder that got more regions, and no node

pub grown : (rs rs' more : List HitRegion) (flat : List PackedNode) → rs' ≡ rs ++ more → All (IsWithin (length rs)) flat
    → unpacked_all rs flat ≡ unpacked_all rs' flat
grown rs rs' more flat e within = rw e (sym (all-grown rs more flat within))

pub within-larger : (rs rs' more : List HitRegion) (flat : List PackedNode) → rs' ≡ rs ++ more → All (IsWithin (length rs)) flat
    → All (IsWithin (length rs')) flat
within-larger rs rs' more flat e within = within-grown (length rs) (length rs') flat (omega (arith, ap length e, length-append rs more)) within

pub whole-grown : (ns ns' : List FlatNode) (places : List ℕ) → ns ≡ ns' → IsWhole ns places → IsWhole ns' places
whole-grown ns ns' places e is = rw e at is

pub building-grown : (room : ℕ) (ns ns' : List FlatNode) (places : List ℕ) → ns ≡ ns'
    → building room (whole_part ns' places) ≡ building room (whole_part ns places)
building-grown room ns ns' places e = rw e refl

-- what holds in any case, holds at an error
pub at_err : {T E : Type 0} (result : Result T E) (P : Type 0) → P → OnErr result P
at_err (Ok x) P holds = tt
at_err (Err e) P holds = holds

-- ---- a node's end is written

-- a packed node whose end is known
abbrev pub packed_end : PackedNode → ℕ → PackedNode
packed_end n after = record n { end = after }

pub unpacked-set : (rs : List HitRegion) (flat : List PackedNode) (at : ℕ) (n : PackedNode) (after : ℕ)
    → unpacked_all rs (slice_set flat at (packed_end n after)) ≡ slice_set (unpacked_all rs flat) at (with_end (unpacked rs n) after)
unpacked-set rs flat at n after = map-set (unpacked rs) flat at (packed_end n after)

-- the packed node at a place, and that node unpacked
pub unpacked-there : (rs : List HitRegion) (flat : List PackedNode) (at : ℕ) (d n : PackedNode) (u : FlatNode) → get_or flat at d ≡ n
    → get_or (unpacked_all rs flat) at (unpacked rs d) ≡ u → unpacked rs n ≡ u
unpacked-there rs flat at d n u e f = sym (get_or-map (unpacked rs) flat at d ∙ ap (unpacked rs) e) ∙ f

pub within-set : (size : ℕ) (flat : List PackedNode) (at : ℕ) (n : PackedNode) (after : ℕ) → at < length flat → get_or flat at n ≡ n → All (IsWithin size) flat
    → All (IsWithin size) (slice_set flat at (packed_end n after))
within-set size flat at n after low e all =
    let here : IsWithin size n = rw e at (All-get_or (IsWithin size) flat at n low all) in
    All-set (IsWithin size) flat at (packed_end n after) (record { order = here.order; within = here.within }) all

pub contents-set : (flat : List PackedNode) (at : ℕ) (n : PackedNode) (after : ℕ) → get_or flat at n ≡ n
    → map content_of (slice_set flat at (packed_end n after)) ≡ map content_of flat
contents-set flat at n after e = map-set_same content_of flat at (packed_end n after) n (ap content_of (sym e))

-- ---- the contents of packed nodes

pub contents-unpacked : (rs : List HitRegion) (flat : List PackedNode) → map (λ (n : FlatNode). n.content) (unpacked_all rs flat) ≡ map content_of flat
contents-unpacked rs [] = refl
contents-unpacked rs (n ∷ flat) = ap (λ (cs : List (Option Content)). n.content ∷ cs) (contents-unpacked rs flat)
