-- The shell's shown states fit its setup, so the laws on fitting states speak of something.
use Rattle.std.proofs.Common.{ℕ, zero, suc, ◌≤◌, ◌≡◌, ◌≢◌, inl, inr, refl, [], ◌∷◌, Some, lit≤, arith}
use Rattle.std.specs.List.{Contains, AllPairs}
use Rattle.flat_base.specs.declared.limits.TheConstants.{OPACITY_MAX, TREE_NODES_MAX}
use Rattle.flat_scene.specs.declared.setup.Setup.{Setup}
use Rattle.flat_scene.specs.declared.trees.Tree.{Tree}
use Rattle.flat_scene.specs.Trees.{node_count}
use Rattle.flat_topology.specs.Shown.{Shown, state_of, view_of, nodes_of, pairs_in, pairs_shown}
use Rattle.flat_topology.specs.Owners.{OwnsView, OwnsViewport}
use Rattle.flat_topology.specs.Fit.{FitsSetup, greatest_opacity}
use Rattle.flat_topology.proofs.lemmas.Distinct.{In, Distinct, in-contains, pairs-distinct}
use Rattle.flat_topology.proofs.lemmas.Samples.{display_over, over, shell_setup, shell_shown, alone_setup, pair}

views_fit : (s p : ℕ) → view_of (state_of shell_shown s) ≡ Some p → OwnsView shell_setup s p
views_fit zero p e = absurd (cc)
views_fit (suc zero) p e = let is : 0 ≡ p = cc in rw (← is) (display_over 1, refl, refl)
views_fit (suc (suc zero)) p e = let is : 1 ≡ p = cc in rw (← is) (over 1 2, refl, refl)
views_fit (suc (suc (suc zero))) p e = let is : 2 ≡ p = cc in rw (← is) (over 1 3, refl, refl)
views_fit (suc (suc (suc (suc s)))) p e = absurd (cc)

shell_viewports : (p : ℕ) → In p (1 ∷ 2 ∷ []) → OwnsViewport shell_setup 1 p
shell_viewports p (inl is) = rw is (over 1 2, refl, refl)
shell_viewports p (inr (inl is)) = rw is (over 1 3, refl, refl)
shell_viewports p (inr (inr on)) = absurd on

viewports_fit : (s p : ℕ) → Contains (pairs_shown shell_shown s) p → OwnsViewport shell_setup s p
viewports_fit zero p has = absurd (in-contains p [] has)
viewports_fit (suc zero) p has = shell_viewports p (in-contains p (1 ∷ 2 ∷ []) has)
viewports_fit (suc (suc zero)) p has = absurd (in-contains p [] has)
viewports_fit (suc (suc (suc zero))) p has = absurd (in-contains p [] has)
viewports_fit (suc (suc (suc (suc s)))) p has = absurd (in-contains p [] has)

two_differ : Distinct (1 ∷ 2 ∷ [])
two_differ = (λ on. elim on [ inl is ↦ absurd (omega (arith, is)) | inr none ↦ absurd none ], (λ on. on, tt))

once_fits : (s : ℕ) → AllPairs (λ p q. p ≢ q) (pairs_shown shell_shown s)
once_fits zero = pairs-distinct [] tt
once_fits (suc zero) = pairs-distinct (1 ∷ 2 ∷ []) two_differ
once_fits (suc (suc zero)) = pairs-distinct [] tt
once_fits (suc (suc (suc zero))) = pairs-distinct [] tt
once_fits (suc (suc (suc (suc s)))) = pairs-distinct [] tt

small_fits : (s : ℕ) → node_count (nodes_of (state_of shell_shown s)) ≤ TREE_NODES_MAX
small_fits zero = lit≤ tt
small_fits (suc zero) = lit≤ tt
small_fits (suc (suc zero)) = lit≤ tt
small_fits (suc (suc (suc zero))) = lit≤ tt
small_fits (suc (suc (suc (suc s)))) = lit≤ tt

opacities_fit : (s : ℕ) → greatest_opacity (nodes_of (state_of shell_shown s)) ≤ OPACITY_MAX
opacities_fit zero = lit≤ tt
opacities_fit (suc zero) = lit≤ tt
opacities_fit (suc (suc zero)) = lit≤ tt
opacities_fit (suc (suc (suc zero))) = lit≤ tt
opacities_fit (suc (suc (suc (suc s)))) = lit≤ tt

pub shell_fits : FitsSetup shell_setup shell_shown
shell_fits = record { views = views_fit; viewports = viewports_fit; once = once_fits; small = small_fits; opacities = opacities_fit }

-- ---- one session, without a viewport

module _ (tree : Tree) (view : tree.view ≡ Some (pair 0)) (none : pairs_in (nodes_of (Some tree)) ≡ []) where
  abbrev alone : Shown
  alone = Some tree ∷ []

  alone_views : (s p : ℕ) → view_of (state_of alone s) ≡ Some p → OwnsView alone_setup s p
  alone_views zero p e = absurd (cc)
  alone_views (suc zero) p e = let shows : Some 0 ≡ Some p = rw view at e in let is : 0 ≡ p = cc in rw (← is) (display_over 1, refl, refl)
  alone_views (suc (suc s)) p e = absurd (cc)

  alone_pairs : (s : ℕ) → pairs_shown alone s ≡ []
  alone_pairs zero = refl
  alone_pairs (suc zero) = none
  alone_pairs (suc (suc s)) = refl

  alone_small : node_count (nodes_of (Some tree)) ≤ TREE_NODES_MAX → (s : ℕ) → node_count (nodes_of (state_of alone s)) ≤ TREE_NODES_MAX
  alone_small few zero = lit≤ tt
  alone_small few (suc zero) = few
  alone_small few (suc (suc s)) = lit≤ tt

  alone_low : greatest_opacity (nodes_of (Some tree)) ≤ OPACITY_MAX → (s : ℕ) → greatest_opacity (nodes_of (state_of alone s)) ≤ OPACITY_MAX
  alone_low low zero = lit≤ tt
  alone_low low (suc zero) = low
  alone_low low (suc (suc s)) = lit≤ tt

pub alone_fits : (tree : Tree) → tree.view ≡ Some (pair 0) → pairs_in (nodes_of (Some tree)) ≡ [] → node_count (nodes_of (Some tree)) ≤ TREE_NODES_MAX
    → greatest_opacity (nodes_of (Some tree)) ≤ OPACITY_MAX → (setup : Setup) (shown : Shown) → setup ≡ alone_setup → shown ≡ Some tree ∷ []
    → FitsSetup setup shown
alone_fits tree view none few low setup shown same_setup same_shown = rw (same_setup, same_shown) (record {
  views = alone_views tree view none;
  viewports = λ s p has. absurd (in-contains p [] (rw (alone_pairs tree view none s) at has));
  once = λ s. rw (alone_pairs tree view none s) (pairs-distinct [] tt);
  small = alone_small tree view none few;
  opacities = alone_low tree view none low;
})
