-- The test for a cycle, and the cycle itself.
use Rattle.std.proofs.Common.{◌≡◌, ◌∙◌, sym, subst, ℕ, ◌+◌, ◌≤◌, ◌<◌, Bool, true, false, List, [], ◌∷◌, length, refl, ap, arith, inl, inr, ◌⊎◌, eqb, ◌↔◌}
use Rattle.std.specs.Prelude.{zero, suc, Option, Some, None, ◌==◌, ◌||◌, cond, ◌-◌, unwrap_or, slice_index_or}
use Rattle.std.specs.Option.{option_map}
use Rattle.std.specs.List.{Contains, IsDistinct, AllByRecursion, list_any}
use Rattle.std.proofs.lemmas.Grind.{common_steps}
use Rattle.std.proofs.lemmas.Map.Steps.{length-le_from_distinct_below}
use Rattle.flat_scene.specs.Cycles.{Walk, HasCycle}
use Rattle.flat_scene.specs.Draft.{Draft, Transform, of_serial}
use Rattle.flat_scene.specs.Laws.{CycleIsReached}
use Rattle.flat_scene.specs.Tree.{children_at, has_path, is_cyclic}
use Rattle.flat_scene.proofs.lemmas.Members.{IsIn, contained-in, in-contained, some-in, in-some}

-- ---- numbers in lists

-- a number that equals one of a list is in it, and one that equals none differs from each
in-any : (x : ℕ) (xs : List ℕ) → list_any (eqb x) xs ≡ true → IsIn x xs
in-any x xs some =
    let found = some-in (eqb x) xs some in
    let same : found.0 ≡ x = grind (arith, common_steps, found.2) in
    subst (λ (y : ℕ). IsIn y xs) same found.1

none-equal : (x : ℕ) (xs : List ℕ) → list_any (eqb x) xs ≡ false → AllByRecursion (λ y. eqb x y ≡ false) xs
none-equal x [] none = tt
none-equal x (y ∷ ys) none = (grind arith, none-equal x ys (grind arith))

-- ---- walks and trails

module _ (links : ℕ → List ℕ) where
  -- from a place to those of a list, one after another
  Trail : ℕ → List ℕ → Type 0
  Trail start [] = Unit {0}
  Trail start (next ∷ rest) = Contains (links start) next × Trail next rest

  -- a walk to a place of the trail
  along : (start : ℕ) (trail : List ℕ) → Trail start trail → (place : ℕ) → IsIn place trail → (steps : ℕ) × Walk links (suc steps) start place
  unfolding Trail
  along start [] way place here = absurd here
  along start (next ∷ rest) way place (inl same) = (0, (next, way.0, sym same))
  along start (next ∷ rest) way place (inr here) =
      let further = along next rest way.1 place here in (suc further.0, (next, way.0, further.1))

  -- a trail that comes back to its start has a cycle
  meets-start : (start : ℕ) (trail : List ℕ) → Trail start trail → IsIn start trail → HasCycle links start
  meets-start start trail way here =
      let around = along start trail way start here in record { place = start; before = 0; there = refl; around = around.0; back = around.1 }

  later-cycle : (start next : ℕ) → Contains (links start) next → HasCycle links next → HasCycle links start
  later-cycle start next link cycle =
      record { place = cycle.place; before = suc cycle.before; there = (next, link, cycle.there); around = cycle.around; back = cycle.back }

  -- a trail has no place twice, or it has a cycle
  distinct-or-cycle : (start : ℕ) (trail : List ℕ) → Trail start trail → IsDistinct eqb (start ∷ trail) ⊎ HasCycle links start
  unfolding Trail IsDistinct
  distinct-or-cycle start [] way = inl (tt, tt)
  distinct-or-cycle start (next ∷ rest) way = by_later (distinct-or-cycle next rest way.1) (list_any (eqb start) (next ∷ rest)) refl
    where
      by_later : IsDistinct eqb (next ∷ rest) ⊎ HasCycle links next → (b : Bool) → list_any (eqb start) (next ∷ rest) ≡ b
          → (AllByRecursion (λ y. eqb start y ≡ false) (next ∷ rest) × IsDistinct eqb (next ∷ rest)) ⊎ HasCycle links start
      by_later (inr cycle) b is = inr (later-cycle start next way.0 cycle)
      by_later (inl distinct) true is = inr (meets-start start (next ∷ rest) way (in-any start (next ∷ rest) is))
      by_later (inl distinct) false is = inl (none-equal start (next ∷ rest) is, distinct)

  -- from the start of a cycle there is a step to the start of a cycle, and so there are walks of any length
  cycle-step : (start : ℕ) → HasCycle links start → (next : ℕ) × Contains (links start) next × HasCycle links next
  cycle-step start cycle = by_before cycle.before cycle.there
    where
      by_before : (before : ℕ) → Walk links before start cycle.place → (next : ℕ) × Contains (links start) next × HasCycle links next
      by_before zero there =
          let Starts : ℕ → Type 0 = λ place. Walk links (suc cycle.around) place cycle.place in
          let back : Walk links (suc cycle.around) start cycle.place = subst Starts (sym there) cycle.back in
          (back.0, back.1, record { place = cycle.place; before = cycle.around; there = back.2; around = cycle.around; back = cycle.back })
      by_before (suc before) there =
          (there.0, there.1, record { place = cycle.place; before = before; there = there.2; around = cycle.around; back = cycle.back })

-- ---- the draft

-- a transform that has children is one that was made
of-within : {A : Type 0} (xs : List A) (serial : ℕ) (x : A) → of_serial xs serial ≡ Some x → (0 < serial) × (serial ≤ length xs)
of-within [] serial x is = absurd (cc)
of-within {A = A} (y ∷ ys) serial x is = by_first (of-within ys (serial - 1) x) (serial == 1) refl
  where
    by_first : (of_serial ys (serial - 1) ≡ Some x → (0 < serial - 1) × (serial - 1 ≤ length ys)) → (b : Bool) → (serial == 1) ≡ b
        → (0 < serial) × (serial ≤ length (y ∷ ys))
    by_first later true first = let one : serial ≡ 1 = grind (arith, common_steps) in (omega (arith, one), omega (arith, one))
    by_first later false first =
        let there : of_serial ys (serial - 1) ≡ Some x = sym (ap (λ b. cond b (Some y) (of_serial ys (serial - 1))) first) ∙ is in
        let low = later there in
        (omega (arith, low.0), omega (arith, low.0, low.1))

parent-within : (draft : Draft) (serial child : ℕ) → IsIn child (children_at draft serial) → (0 < serial) × (serial ≤ length draft.transforms)
parent-within draft serial child has = by_found (of_serial draft.transforms serial) refl
  where
    by_found : (found : Option Transform) → of_serial draft.transforms serial ≡ found → (0 < serial) × (serial ≤ length draft.transforms)
    by_found (Some t) is = of-within draft.transforms serial t is
    by_found None is =
        let kids : children_at draft serial ≡ [] = ap (λ (o : Option Transform). unwrap_or (option_map (λ (t : Transform). t.children) o) []) is in
        absurd (subst (λ (serials : List ℕ). IsIn child serials) kids has)

-- numbers from 1 to a limit
AllFromOne : ℕ → List ℕ → Type 0
AllFromOne limit [] = Unit {0}
AllFromOne limit (x ∷ xs) = (0 < x) × (x ≤ limit) × AllFromOne limit xs

-- a path of one step more is a trail of transforms that all have children
path-trail : (draft : Draft) (steps start : ℕ) → has_path (suc steps) draft start ≡ true
    → (trail : List ℕ) × Trail (children_at draft) start trail × (length trail ≡ steps) × AllFromOne (length draft.transforms) (start ∷ trail)
unfolding Trail AllFromOne
path-trail draft zero start path =
    let step = some-in (has_path 0 draft) (children_at draft start) path in
    let within = parent-within draft start step.0 step.1 in
    ([], tt, refl, (within.0, within.1, tt))
path-trail draft (suc steps) start path =
    let step = some-in (has_path (suc steps) draft) (children_at draft start) path in
    let within = parent-within draft start step.0 step.1 in
    let further = path-trail draft steps step.0 step.2 in
    (step.0 ∷ further.0, (in-contained step.0 (children_at draft start) step.1, further.1), omega (arith, further.2), (within.0, within.1, further.3))

zero-differs : (limit : ℕ) (xs : List ℕ) → AllFromOne limit xs → AllByRecursion (λ y. eqb 0 y ≡ false) xs
unfolding AllFromOne
zero-differs limit [] low = tt
zero-differs limit (x ∷ xs) low = let above : 0 < x = low.0 in (grind (arith, common_steps), zero-differs limit xs low.2)

in-below : (limit : ℕ) (xs : List ℕ) (x : ℕ) → AllFromOne limit xs → IsIn x xs → x < limit + 1
unfolding AllFromOne
in-below limit [] x low here = absurd here
in-below limit (y ∷ ys) x low (inl same) = omega (arith, same, low.1)
in-below limit (y ∷ ys) x low (inr here) = in-below limit ys x low.2 here

-- so many different numbers don't fit
too-many : (limit : ℕ) (xs : List ℕ) → IsDistinct eqb xs → AllFromOne limit xs → length xs ≤ limit
unfolding IsDistinct
too-many limit xs distinct low =
    omega (arith, length-le_from_distinct_below (0 ∷ xs) (limit + 1) (zero-differs limit xs low, distinct) (λ q some. below q (in-any q (0 ∷ xs) some)))
  where
    below : (q : ℕ) → IsIn q (0 ∷ xs) → q < limit + 1
    below q (inl same) = omega (arith, same)
    below q (inr here) = in-below limit xs q low here

-- a path with more steps than there are transforms has a cycle
long-cycle : (draft : Draft) (start : ℕ) → has_path (suc (length draft.transforms)) draft start ≡ true → HasCycle (children_at draft) start
long-cycle draft start path =
    let far = path-trail draft (length draft.transforms) start path in
    by_case far (distinct-or-cycle (children_at draft) start far.0 far.1)
  where
    by_case : (far : (trail : List ℕ) × Trail (children_at draft) start trail × (length trail ≡ length draft.transforms)
        × AllFromOne (length draft.transforms) (start ∷ trail))
        → IsDistinct eqb (start ∷ far.0) ⊎ HasCycle (children_at draft) start → HasCycle (children_at draft) start
    by_case far (inl distinct) = absurd (omega (arith, too-many (length draft.transforms) (start ∷ far.0) distinct far.3, far.2))
    by_case far (inr cycle) = cycle

-- a cycle has paths of any length
cycle-path : (draft : Draft) (steps start : ℕ) → HasCycle (children_at draft) start → has_path steps draft start ≡ true
cycle-path draft zero start cycle = refl
cycle-path draft (suc steps) start cycle =
    let next = cycle-step (children_at draft) start cycle in
    in-some (has_path steps draft) next.0 (children_at draft start) (contained-in next.0 (children_at draft start) next.1)
    (cycle-path draft steps next.0 next.2)

more-steps : (draft : Draft) (start : ℕ) → has_path (length draft.transforms + 1) draft start ≡ has_path (suc (length draft.transforms)) draft start
more-steps draft start =
    let one : length draft.transforms + 1 ≡ suc (length draft.transforms) = omega arith in ap (λ steps. has_path steps draft start) one

pub cycle-is-reached : CycleIsReached
cycle-is-reached draft = (there, back)
  where
    there : is_cyclic draft ≡ true → (root : ℕ) × (draft.root ≡ Some root) × HasCycle (children_at draft) root
    there cyclic = by_root draft.root refl
      where
        by_root : (o : Option ℕ) → draft.root ≡ o → (root : ℕ) × (draft.root ≡ Some root) × HasCycle (children_at draft) root
        by_root None is =
            absurd (let none : false ≡ true = sym (ap (λ (o : Option ℕ). unwrap_or (option_map (has_path (length draft.transforms + 1) draft) o) false) is)
            ∙ cyclic in cc)
        by_root (Some root) is = (
          root,
          is,
          long-cycle draft root (sym (more-steps draft root)
              ∙ sym (ap (λ (o : Option ℕ). unwrap_or (option_map (has_path (length draft.transforms + 1) draft) o) false) is) ∙ cyclic),
        )

    back : (root : ℕ) × (draft.root ≡ Some root) × HasCycle (children_at draft) root → is_cyclic draft ≡ true
    back (root, is, cycle) =
        ap (λ (o : Option ℕ). unwrap_or (option_map (has_path (length draft.transforms + 1) draft) o) false) is
        ∙ cycle-path draft (length draft.transforms + 1) root cycle
