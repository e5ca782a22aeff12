-- The ordered forest of the paths along links between places.
use Rattle.std.specs.Prelude.{ℕ, zero, suc, ◌+◌, max, List, [], ◌∷◌, ◌++◌, option_to_list, Option}

-- An ordered forest: the place at the first root, the forest below it, and the trees after it.
pub data Forest : Type 0 where
  bare : Forest
  tree : (place : ℕ) (below : Forest) (after : Forest) → Forest

-- one tree for each place, with what is below it
abbrev pub trees : (ℕ → Forest) → List ℕ → Forest
trees below [] = bare
trees below (place ∷ places) = tree place (below place) (trees below places)

-- how many nodes a forest has
abbrev pub size : Forest → ℕ
size bare = 0
size (tree place below after) = 1 + size below + size after

-- how many nodes its longest path has
abbrev pub height : Forest → ℕ
height bare = 0
height (tree place below after) = max (1 + height below) (height after)

-- what the places of the nodes hold, in preorder
abbrev pub held : (ℕ → Option ℕ) → Forest → List ℕ
held holds bare = []
held holds (tree place below after) = option_to_list (holds place) ++ held holds below ++ held holds after

-- the forest of the paths from some places, cut off after so many levels
unfoldable pub unfolded : (ℕ → List ℕ) → ℕ → List ℕ → Forest
unfolded links zero places = bare
unfolded links (suc levels) places = trees (λ place. unfolded links levels (links place)) places
