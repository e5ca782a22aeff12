-- The steps of a walk over the unfolded tree.
use Rattle.std.proofs.Common.{ℕ, suc, ◌+◌, ◌<◌, ◌≤◌, ◌≡◌, ◌⊎◌, inl, inr, max, refl, sym, ◌∙◌, List, [], ◌∷◌, ◌++◌, length, drop, Option, slice_index_or, arith}
use Rattle.std.proofs.Common.{drop-cons, add-one, append_assoc, append-nil}
use Rattle.std.specs.Prelude.{option_to_list}
use Rattle.flat_collect.specs.Forest.{Forest, tree, bare, unfolded, size, height, held}
use Rattle.flat_collect.specs.Walking.{below, IsWalked}

-- the first of some keys, and the rest
pub below-first : (links : ℕ → List ℕ) (levels key : ℕ) (keys : List ℕ)
    → below links levels (key ∷ keys) ≡ tree key (unfolded links levels (links key)) (below links levels keys)
unfolding unfolded
below-first links levels key keys = refl

pub below-none : (links : ℕ → List ℕ) (levels : ℕ) → below links levels [] ≡ bare
unfolding unfolded
below-none links levels = refl

pub below-at : (links : ℕ → List ℕ) (levels i d : ℕ) (keys : List ℕ) → i < length keys
    → below links levels (drop i keys) ≡ tree (slice_index_or keys i d) (unfolded links levels (links (slice_index_or keys i d)))
    (below links levels (drop (i + 1) keys))
below-at links levels i d keys within = rw (drop-cons keys i d, add-one) (below-first links levels (slice_index_or keys i d) (drop (suc i) keys))

-- so far the walk counted and listed all but what is left
pub record IsWalking (whole left : Forest) (viewport : ℕ → Option ℕ) (levels nodes : ℕ) (viewports : List ℕ) (nodes' : ℕ) (viewports' : List ℕ) : Type 0 where
  pub low : height left ≤ height whole
  pub short : height whole ≤ max levels (height left)
  pub counted : nodes' + size left ≡ nodes + size whole
  pub few : nodes' ≤ 1024
  pub listed : viewports' ++ held viewport left ≡ viewports ++ held viewport whole

-- the walk begins with all left
pub walking-begin : (whole : Forest) (viewport : ℕ → Option ℕ) (levels nodes : ℕ) (viewports : List ℕ) → nodes ≤ 1024
    → IsWalking whole whole viewport levels nodes viewports nodes viewports
walking-begin whole viewport levels nodes viewports few =
    record { low = omega arith; short = omega arith; counted = refl; few = few; listed = refl }

-- it ends with nothing left
pub walking-end : (whole : Forest) (viewport : ℕ → Option ℕ) (levels nodes : ℕ) (viewports : List ℕ) (nodes' : ℕ) (viewports' : List ℕ)
    → IsWalking whole bare viewport levels nodes viewports nodes' viewports' → IsWalked whole viewport levels nodes viewports nodes' viewports'
walking-end whole viewport levels nodes viewports nodes' viewports' w =
    record { short = omega (arith, w.short); counted = omega (arith, w.counted); few = w.few; listed = sym (append-nil viewports') ∙ w.listed }

-- one more tree was walked
pub walking-more : (whole : Forest) (key : ℕ) (first rest : Forest) (viewport : ℕ → Option ℕ) (levels fewer nodes : ℕ) (viewports : List ℕ) (nodes' : ℕ)
    (viewports' : List ℕ) (nodes'' : ℕ) (viewports'' : List ℕ) → levels ≡ suc fewer
    → IsWalking whole (tree key first rest) viewport levels nodes viewports nodes' viewports'
    → IsWalked first viewport fewer (nodes' + 1) (viewports' ++ option_to_list (viewport key)) nodes'' viewports''
    → IsWalking whole rest viewport levels nodes viewports nodes'' viewports''
walking-more whole key first rest viewport levels fewer nodes viewports nodes' viewports' nodes'' viewports'' e w v = record {
  low = omega (arith, w.low);
  short = omega (arith, w.short, v.short);
  counted = omega (arith, w.counted, v.counted);
  few = v.few;
  listed = rw (v.listed, append_assoc, append_assoc) (rw append_assoc at w.listed);
}

-- a tree is too large, and so are all
pub walking-large : (whole : Forest) (key : ℕ) (first rest : Forest) (viewport : ℕ → Option ℕ) (levels fewer nodes : ℕ) (viewports : List ℕ) (nodes' : ℕ)
    (viewports' : List ℕ) → levels ≡ suc fewer
    → IsWalking whole (tree key first rest) viewport levels nodes viewports nodes' viewports'
    → (fewer < height first) ⊎ (1024 < nodes' + 1 + size first) → (levels < height whole) ⊎ (1024 < nodes + size whole)
walking-large whole key first rest viewport levels fewer nodes viewports nodes' viewports' e w (inl long) = inl (omega (arith, w.low))
walking-large whole key first rest viewport levels fewer nodes viewports nodes' viewports' e w (inr many) = inr (omega (arith, w.counted))

-- there is no level left
pub walking-deep : (whole : Forest) (key : ℕ) (first rest : Forest) (viewport : ℕ → Option ℕ) (levels nodes : ℕ) (viewports : List ℕ) (nodes' : ℕ)
    (viewports' : List ℕ)
    → IsWalking whole (tree key first rest) viewport levels nodes viewports nodes' viewports' → levels ≡ 0 → levels < height whole
walking-deep whole key first rest viewport levels nodes viewports nodes' viewports' w e = omega (arith, w.low)

-- there is no room left
pub walking-full : (whole : Forest) (key : ℕ) (first rest : Forest) (viewport : ℕ → Option ℕ) (levels nodes : ℕ) (viewports : List ℕ) (nodes' : ℕ)
    (viewports' : List ℕ)
    → IsWalking whole (tree key first rest) viewport levels nodes viewports nodes' viewports' → nodes' ≡ 1024 → 1024 < nodes + size whole
walking-full whole key first rest viewport levels nodes viewports nodes' viewports' w full = omega (arith, w.counted, full)

pub below-again : (links : ℕ → List ℕ) (levels fewer : ℕ) (keys : List ℕ) → levels ≡ suc fewer → below links fewer keys ≡ unfolded links levels keys
below-again links levels fewer keys e = rw e
