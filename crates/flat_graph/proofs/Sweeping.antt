-- Loops over the slots of a slab: slots changed, or emptied, as far as a loop has come.
use Rattle.std.proofs.Common.{ℕ, zero, suc, ◌+◌, ◌<◌, ◌≤◌, ◌≡◌, refl, sym, ◌∙◌, ap, Bool, true, false, cond, List, [], ◌∷◌, map, Option, Some, None, IsSome}
use Rattle.std.proofs.Common.{slice_index_or, slice_set, length, arith, add-one}
use Rattle.std.specs.Prelude.{is_some}
use Rattle.std.specs.Option.{option_map}
use Rattle.slab.specs.Slab.{Slab, with_value}
use Rattle.flat_graph.specs.declared.nodes.GraphNode.{GraphNode}
use Rattle.flat_graph.specs.State.{marked_nodes}

abbrev Slots : Type 0
Slots = List (Option GraphNode)

-- the first slots changed, so many of them
abbrev pub changed_below : ℕ → (Option GraphNode → Option GraphNode) → Slots → Slots
changed_below zero f slots = slots
changed_below (suc n) f [] = []
changed_below (suc n) f (slot ∷ slots) = f slot ∷ changed_below n f slots

module _ (f : Option GraphNode → Option GraphNode) where
  pub changed-at : (n : ℕ) (slots : Slots) → slice_index_or (changed_below n f slots) n None ≡ slice_index_or slots n None
  changed-at zero slots = refl
  changed-at (suc n) [] = refl
  changed-at (suc n) (slot ∷ slots) = changed-at n slots

  pub changed-set : (n : ℕ) (slots : Slots) (node : GraphNode) → slice_index_or slots n None ≡ Some node
      → changed_below (suc n) f slots ≡ slice_set (changed_below n f slots) n (f (Some node))
  changed-set n [] node there = absurd (cc)
  changed-set zero (slot ∷ slots) node there = rw there refl
  changed-set (suc n) (slot ∷ slots) node there = ap (λ (rest : Slots). f slot ∷ rest) (changed-set n slots node there)

  pub changed-skip : (n : ℕ) (slots : Slots) → f None ≡ None → slice_index_or slots n None ≡ None → changed_below (suc n) f slots ≡ changed_below n f slots
  changed-skip zero [] none there = refl
  changed-skip (suc n) [] none there = refl
  changed-skip zero (slot ∷ slots) none there = rw there (ap (λ (first : Option GraphNode). first ∷ slots) none)
  changed-skip (suc n) (slot ∷ slots) none there = ap (λ (rest : Slots). f slot ∷ rest) (changed-skip n slots none there)

  pub changed-all : (n : ℕ) (slots : Slots) → length slots ≤ n → changed_below n f slots ≡ map f slots
  changed-all zero [] few = refl
  changed-all (suc n) [] few = refl
  changed-all zero (slot ∷ slots) few = absurd (omega arith)
  changed-all (suc n) (slot ∷ slots) few = ap (λ (rest : Slots). f slot ∷ rest) (changed-all n slots (omega arith))

-- the first slots emptied where they aren't marked, so many of them
abbrev pub marked_below : ℕ → List Bool → Slots → Slots
marked_below zero marks slots = slots
marked_below (suc n) [] slots = slots
marked_below (suc n) (mark ∷ marks) [] = []
marked_below (suc n) (mark ∷ marks) (slot ∷ slots) = cond mark slot None ∷ marked_below n marks slots

pub marked-at : (n : ℕ) (marks : List Bool) (slots : Slots) → slice_index_or (marked_below n marks slots) n None ≡ slice_index_or slots n None
marked-at zero marks slots = refl
marked-at (suc n) [] slots = refl
marked-at (suc n) (mark ∷ marks) [] = refl
marked-at (suc n) (mark ∷ marks) (slot ∷ slots) = marked-at n marks slots

pub marked-drop : (n : ℕ) (marks : List Bool) (slots : Slots) (node : GraphNode) → n < length marks → slice_index_or marks n false ≡ false
    → slice_index_or slots n None ≡ Some node
    → marked_below (suc n) marks slots ≡ slice_set (marked_below n marks slots) n None
marked-drop n [] slots node within mark there = absurd (omega arith)
marked-drop n (m ∷ marks) [] node within mark there = absurd (cc)
marked-drop zero (m ∷ marks) (slot ∷ slots) node within mark there = rw mark refl
marked-drop (suc n) (m ∷ marks) (slot ∷ slots) node within mark there =
    ap (λ (rest : Slots). cond m slot None ∷ rest) (marked-drop n marks slots node (omega arith) mark there)

pub marked-none : (n : ℕ) (marks : List Bool) (slots : Slots) → slice_index_or slots n None ≡ None
    → marked_below (suc n) marks slots ≡ marked_below n marks slots
marked-none zero [] slots there = refl
marked-none (suc n) [] slots there = refl
marked-none zero (m ∷ marks) [] there = refl
marked-none (suc n) (m ∷ marks) [] there = refl
marked-none zero (m ∷ marks) (slot ∷ slots) there = rw there (by_mark m)
  where
    by_mark : (b : Bool) → ◌≡◌ {A = Slots} (cond b None None ∷ slots) (None ∷ slots)
    by_mark true = refl
    by_mark false = refl
marked-none (suc n) (m ∷ marks) (slot ∷ slots) there = ap (λ (rest : Slots). cond m slot None ∷ rest) (marked-none n marks slots there)

pub marked-skip : (n : ℕ) (marks : List Bool) (slots : Slots) → slice_index_or marks n false ≡ true
    → marked_below (suc n) marks slots ≡ marked_below n marks slots
marked-skip n [] slots mark = absurd (cc)
marked-skip zero (m ∷ marks) [] mark = refl
marked-skip (suc n) (m ∷ marks) [] mark = refl
marked-skip zero (m ∷ marks) (slot ∷ slots) mark = rw mark refl
marked-skip (suc n) (m ∷ marks) (slot ∷ slots) mark = ap (λ (rest : Slots). cond m slot None ∷ rest) (marked-skip n marks slots mark)

-- the slot of the next key emptied, if there is a node
pub marked-step : (n : ℕ) (marks : List Bool) (slots : Slots) → n < length marks → slice_index_or marks n false ≡ false
    → cond (is_some (slice_index_or (marked_below n marks slots) n None)) (slice_set (marked_below n marks slots) n None) (marked_below n marks slots)
    ≡ marked_below (suc n) marks slots
marked-step n marks slots within mark = rw (marked-at n marks slots) (by_slot (slice_index_or slots n None) refl)
  where
    by_slot : (x : Option GraphNode) → slice_index_or slots n None ≡ x
        → cond (is_some x) (slice_set (marked_below n marks slots) n None) (marked_below n marks slots) ≡ marked_below (suc n) marks slots
    by_slot None e = sym (marked-none n marks slots e)
    by_slot (Some node) e = sym (marked-drop n marks slots node within mark e)

-- slots that all are empty stay as they are
none-marked : (slots : Slots) → ((key : ℕ) → IsSome (slice_index_or slots key None) → key < 0) → slots ≡ marked_nodes [] slots
none-marked [] none = refl
none-marked (None ∷ slots) none = ap (λ (rest : Slots). None ∷ rest) (none-marked slots (λ key some. absurd (omega (arith, none (suc key) some))))
none-marked (Some node ∷ slots) none = absurd (omega (arith, none 0 refl))

pub marked-all : (marks : List Bool) (slots : Slots) → ((key : ℕ) → IsSome (slice_index_or slots key None) → key < length marks)
    → marked_below (length marks) marks slots ≡ marked_nodes marks slots
marked-all [] slots covered = none-marked slots covered
marked-all (mark ∷ marks) [] covered = refl
marked-all (mark ∷ marks) (slot ∷ slots) covered = ap (λ (rest : Slots). cond mark slot None ∷ rest)
    (marked-all marks slots (λ key some. omega (arith, covered (suc key) some)))

-- ---- one step of each loop

pub changed-some : (f : GraphNode → GraphNode) (nodes initial : Slab GraphNode) (key : ℕ) (node new : GraphNode)
    → nodes ≡ record initial { slots = changed_below key (option_map f) initial.slots } → slice_index_or nodes.slots key None ≡ Some node → new ≡ f node
    → with_value nodes key new ≡ record initial { slots = changed_below (key + 1) (option_map f) initial.slots }
changed-some f nodes initial key node new so_far there is =
    let slots : nodes.slots ≡ changed_below key (option_map f) initial.slots = ap (λ (s : Slab GraphNode). s.slots) so_far in
    let was : slice_index_or initial.slots key None ≡ Some node = sym (changed-at (option_map f) key initial.slots) ∙ (rw slots at there) in
    rw (so_far, is, add-one, changed-set (option_map f) key initial.slots node was) refl

pub changed-none : (f : GraphNode → GraphNode) (nodes initial : Slab GraphNode) (key : ℕ)
    → nodes ≡ record initial { slots = changed_below key (option_map f) initial.slots } → slice_index_or nodes.slots key None ≡ None
    → nodes ≡ record initial { slots = changed_below (key + 1) (option_map f) initial.slots }
changed-none f nodes initial key so_far there =
    let slots : nodes.slots ≡ changed_below key (option_map f) initial.slots = ap (λ (s : Slab GraphNode). s.slots) so_far in
    let was : slice_index_or initial.slots key None ≡ None = sym (changed-at (option_map f) key initial.slots) ∙ (rw slots at there) in
    rw (so_far, add-one, changed-skip (option_map f) key initial.slots refl was) refl

pub changed-done : (f : GraphNode → GraphNode) (nodes initial : Slab GraphNode) (key : ℕ)
    → nodes ≡ record initial { slots = changed_below key (option_map f) initial.slots } → length initial.slots ≤ key
    → nodes ≡ record initial { slots = map (option_map f) initial.slots }
changed-done f nodes initial key so_far few = rw (so_far, changed-all (option_map f) key initial.slots few) refl
