-- Walks along links, and cycles.
use Rattle.std.proofs.Common.{ℕ, zero, suc, ◌≡◌, inl, inr, refl, sym, subst, List, [], ◌∷◌, length, Some, slice_get}
use Rattle.std.specs.List.{Contains}
use Rattle.std.proofs.lemmas.Option.{slice_get_within, get_or_from_slice_get, slice_get_read}
use Rattle.flat_scene.specs.Cycles.{Walk, HasCycle}
use Rattle.flat_collect.specs.Search.{IsOn, IsTrail}

pub contains_at : (xs : List ℕ) (i x : ℕ) → slice_get xs i ≡ Some x → Contains xs x
contains_at xs i x h = (i, slice_get_within xs i x h, get_or_from_slice_get xs i x x h)

pub at_contained : (xs : List ℕ) (x : ℕ) → Contains xs x → (i : ℕ) × (slice_get xs i ≡ Some x)
at_contained xs x h = (h.0, slice_get_read xs (length xs) h.0 x refl h.1 (sym h.2))

module _ (links : ℕ → List ℕ) where
  -- a walk with one step more
  pub walk-more : (steps a b c : ℕ) → Walk links steps a b → Contains (links b) c → Walk links (suc steps) a c
  walk-more zero a b c h has = let P : ℕ → Type 0 = λ n. Contains (links n) c in (c, subst P (sym h) has, refl)
  walk-more (suc steps) a b c h has = (h.0, h.1, walk-more steps h.0 b c h.2 has)

  -- no cycle below a key, where there is none below its children
  pub acyclic-children : (key : ℕ) → ((child : ℕ) → Contains (links key) child → ¬ HasCycle links child) → ¬ HasCycle links key
  acyclic-children key none cycle = by_walk cycle.before cycle.there
    where
      by_walk : (before : ℕ) → Walk links before key cycle.place → ⊥
      by_walk zero e =
          let P : ℕ → Type 0 = λ n. Walk links (suc cycle.around) n n in
          let round : Walk links (suc cycle.around) key key = subst P (sym e) cycle.back in
          none round.0 round.1 (record { place = key; before = cycle.around; there = round.2; around = cycle.around; back = round })
      by_walk (suc before) walk =
          none walk.0 walk.1 (record { place = cycle.place; before = before; there = walk.2; around = cycle.around; back = cycle.back })

  -- from what is on a trail a walk leads to its top
  pub to_top : (root c key : ℕ) (below : List ℕ) → IsTrail links root (key ∷ below) → IsOn c (key ∷ below) → (n : ℕ) × Walk links n c key
  to_top root c key below trail (inl same) = (0, same)
  to_top root c key [] trail (inr on) = elim on [ ]
  to_top root c key (parent ∷ below) trail (inr on) =
      let earlier : (n : ℕ) × Walk links n c parent = to_top root c parent below trail.1 on in
      (suc earlier.0, walk-more earlier.0 c parent key earlier.1 trail.0)

  -- from the root a walk leads to what is on a trail
  pub from_root : (root key : ℕ) (below : List ℕ) → IsTrail links root (key ∷ below) → (n : ℕ) × Walk links n root key
  from_root root key [] trail = (0, sym trail.0)
  from_root root key (parent ∷ below) trail =
      let earlier : (n : ℕ) × Walk links n root parent = from_root root parent below trail.1 in
      (suc earlier.0, walk-more earlier.0 root parent key earlier.1 trail.0)

  pub from_root_on : (root c : ℕ) (path : List ℕ) → IsTrail links root path → IsOn c path → (n : ℕ) × Walk links n root c
  from_root_on root c [] trail on = elim on [ ]
  from_root_on root c (key ∷ below) trail (inl same) =
      let P : ℕ → Type 0 = λ k. (n : ℕ) × Walk links n root k in subst P (sym same) (from_root root key below trail)
  from_root_on root c (key ∷ below) trail (inr on) = from_root_on root c below trail.1 on

  -- a child that is on the trail closes a cycle
  pub cycle_found : (root c key : ℕ) (below : List ℕ) → IsTrail links root (key ∷ below) → IsOn c (key ∷ below) → Contains (links key) c → HasCycle links root
  cycle_found root c key below trail on has =
      let there : (n : ℕ) × Walk links n root c = from_root_on root c (key ∷ below) trail on in
      let up : (n : ℕ) × Walk links n c key = to_top root c key below trail on in
      record { place = c; before = there.0; there = there.1; around = up.0; back = walk-more up.0 c key c up.1 has }
