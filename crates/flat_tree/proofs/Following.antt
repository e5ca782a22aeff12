-- The sessions that are apart, one after another, and as the definition has them.
use Rattle.std.proofs.Common.{ℕ, zero, suc, ◌+◌, ◌-◌, ◌<◌, ◌≤◌, ◌≡◌, refl, ap, ◌∙◌, Bool, true, false, ◌&&◌, not, cond, List, [], ◌∷◌, ◌++◌, map, arith}
use Rattle.std.specs.Prelude.{◌==◌, filter}
use Rattle.std.specs.List.{list_any, range_with_len}
use Rattle.std.proofs.lemmas.List.{map-append}
use Rattle.std.proofs.lemmas.List.Elements.{filter-append}
use Rattle.flat_base.specs.declared.ids.SessionNo.{SessionNo}
use Rattle.flat_base.specs.declared.limits.TheConstants.{SESSIONS_MAX}
use Rattle.flat_scene.specs.declared.frames.SessionSet.{SessionSet}
use Rattle.flat_scene.specs.declared.setup.Setup.{Setup}
use Rattle.flat_scene.specs.declared.frames.ViewNode.{ViewNode}
use Rattle.flat_scene.specs.declared.frames.ViewTree.{ViewTree}
use Rattle.flat_topology.specs.Shown.{Shown}
use Rattle.flat_topology.specs.Join.{is_joined}
use Rattle.flat_topology.specs.Laws.{ViewsTheJoined}
use Rattle.flat_topology.specs.Views.{view_nodes, apart_sessions}
use Rattle.flat_tree.specs.Trees.{is_among, is_apart, if_apart, apart_below}
use Rattle.flat_tree.specs.Laws.{IsSetOf, ViewsGiveTrees}

-- ---- one session more

range-more : (from count : ℕ) → range_with_len from (count + 1) ≡ range_with_len from count ++ (from + count) ∷ []
range-more from zero = let e : from + 0 ≡ from = omega arith in rw e refl
range-more from (suc count) =
    let e : suc count + 1 ≡ suc (count + 1) = omega arith in
    let at : from + 1 + count ≡ from + suc count = omega arith in
    rw (e, range-more (from + 1) count, at) refl

abbrev numbered : ℕ → SessionNo
numbered s = record { 0 = s }

one-apart : (b : Bool) (s : ℕ) → map numbered (cond b (s ∷ []) []) ≡ if_apart b s
one-apart true s = refl
one-apart false s = refl

pub apart-more : (before : ℕ) (views : List ViewNode) (with_view : SessionSet)
    → apart_below (before + 1) views with_view ≡ apart_below before views with_view ++ if_apart (is_apart views with_view (before + 1)) (before + 1)
apart-more before views with_view =
    let test : ℕ → Bool = is_apart views with_view in
    let e : 1 + before ≡ before + 1 = omega arith in
    let range : range_with_len 1 (before + 1) ≡ range_with_len 1 before ++ (before + 1) ∷ [] =
    range-more 1 before ∙ ap (λ (s : ℕ). range_with_len 1 before ++ s ∷ []) e in
    ap (λ (all : List ℕ). map numbered (filter test all)) range
    ∙ ap (map numbered) (filter-append test (range_with_len 1 before) ((before + 1) ∷ []))
    ∙ map-append numbered (filter test (range_with_len 1 before)) (filter test ((before + 1) ∷ []))
    ∙ ap (λ (last : List SessionNo). map numbered (filter test (range_with_len 1 before)) ++ last) (one-apart (test (before + 1)) (before + 1))

-- ---- the definition

any-of : (s : ℕ) (views : List ViewNode) → is_among views s ≡ list_any (λ other. other == s) (map (λ view. view.session.0) views)
any-of s [] = refl
any-of s (view ∷ views) = rw (any-of s views) refl

among-joined : ViewsTheJoined → (setup : Setup) (shown : Shown) (s : ℕ) → is_among (view_nodes setup shown) s ≡ is_joined setup shown s
among-joined views setup shown s = any-of s (view_nodes setup shown) ∙ ap (list_any (λ (other : ℕ). other == s)) (views setup shown)

-- a filter of a range, by tests that agree on its first part, where the second doesn't pass beyond it
filter-range : (test other : ℕ → Bool) (from count more : ℕ) → ((s : ℕ) → from ≤ s → s < from + count → test s ≡ other s)
    → ((s : ℕ) → from + count ≤ s → test s ≡ false) → filter test (range_with_len from (count + more)) ≡ filter other (range_with_len from count)
filter-range test other from zero zero same beyond = refl
filter-range test other from zero (suc more) same beyond =
    let e : 0 + suc more ≡ suc (0 + more) = omega arith in
    let none : test from ≡ false = beyond from (omega arith) in
    rw (e, none) (filter-range test other (from + 1) zero more (λ s low high. absurd (omega arith)) (λ s high. beyond s (omega arith)))
filter-range test other from (suc count) more same beyond =
    let e : suc count + more ≡ suc (count + more) = omega arith in
    let here : test from ≡ other from = same from (omega arith) (omega arith) in
    let rest : filter test (range_with_len (from + 1) (count + more)) ≡ filter other (range_with_len (from + 1) count)
    = filter-range test other (from + 1) count more (λ s low high. same s (omega arith) (omega arith)) (λ s high. beyond s (omega arith)) in
    rw (e, here, rest) refl

apart-same : ViewsTheJoined → (setup : Setup) (shown : Shown) (has_view : ℕ → Bool) (with_view : SessionSet) (limit : ℕ) → setup.sessions ≤ limit
    → IsSetOf setup has_view with_view
    → apart_below limit (view_nodes setup shown) with_view ≡ apart_sessions setup shown has_view
apart-same views setup shown has_view with_view limit few is =
    let e : limit ≡ setup.sessions + (limit - setup.sessions) = omega arith in
    let same = filter-range (is_apart (view_nodes setup shown) with_view) (λ s. has_view s && not (is_joined setup shown s)) 1 setup.sessions
    (limit - setup.sessions)
    (λ s low high. rw (is.within s (omega arith) (omega arith), among-joined views setup shown s) refl)
    (λ s high. rw (is.beyond s (omega arith)) refl) in
    ap (map numbered) (ap (λ (n : ℕ). filter (is_apart (view_nodes setup shown) with_view) (range_with_len 1 n)) e ∙ same)

pub tree-same : ViewsTheJoined → ViewsGiveTrees
tree-same views setup shown has_view with_view few is =
    let tree : List SessionNo → ViewTree = λ apart. record { nodes = view_nodes setup shown; apart = apart } in
    ap tree (apart-same views setup shown has_view with_view SESSIONS_MAX few is)
