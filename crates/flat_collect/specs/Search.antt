-- The search for a cycle: what its marks and its path mean.
use Rattle.std.specs.Prelude.{ℕ, suc, ◌+◌, ◌-◌, ◌*◌, ◌<◌, ◌≡◌, ◌⊎◌, List, [], ◌∷◌, length, reverse, Some, slice_get}
use Rattle.std.specs.Prelude.{slice_index_or}
use Rattle.std.specs.List.{Contains}
use Rattle.flat_scene.specs.Cycles.{HasCycle}
use Rattle.flat_collect.specs.declared.cycle.SearchMark.{SearchMark}
use Rattle.flat_collect.specs.declared.cycle.SearchMark.TheVariants.{New, Open, Done}
use Rattle.flat_collect.specs.declared.cycle.SearchStep.{SearchStep}
use Rattle.flat_collect.specs.declared.cycle.SearchStep.TheVariants.{On, Found, Ended}

abbrev pub mark_of : List SearchMark → ℕ → SearchMark
mark_of marks key = slice_index_or marks key New

abbrev pub IsOn : ℕ → List ℕ → Type 0
IsOn key [] = ⊥
IsOn key (top ∷ below) = (key ≡ top) ⊎ IsOn key below

-- the path from the root to a key, that key first
abbrev pub trail : ℕ → List ℕ → List ℕ
trail key path = key ∷ reverse path

-- what is left to do at a key with so many children
abbrev pub work_at : ℕ → SearchMark → ℕ
work_at children New = children + 2
work_at children (Open i) = 1 + (children - i)
work_at children Done = 0

-- what is left to do at the keys from this one on
abbrev pub work : (ℕ → List ℕ) → ℕ → List SearchMark → ℕ
work links key [] = 0
work links key (mark ∷ marks) = work_at (length (links key)) mark + work links (suc key) marks

abbrev pub left : (ℕ → List ℕ) → List SearchMark → List ℕ → ℕ
left links marks path = 2 * work links 0 marks + length path

module _ (links : ℕ → List ℕ) (root : ℕ) where
  -- a key is the root or a child of what is below it
  abbrev pub IsNext : ℕ → List ℕ → Type 0
  IsNext key [] = key ≡ root
  IsNext key (parent ∷ below) = Contains (links parent) key

  -- each key is a child of the next one, and the last one is the root
  abbrev pub IsTrail : List ℕ → Type 0
  IsTrail [] = Unit {0}
  IsTrail (key ∷ below) = IsNext key below × IsTrail below

  pub record IsSearch (marks : List SearchMark) (path : List ℕ) : Type 0 where
    pub within : (key child : ℕ) → Contains (links key) child → child < length marks
    pub start : root < length marks
    pub ways : IsTrail path
    -- what is open is on the path
    pub open_on : (key i : ℕ) → mark_of marks key ≡ Open i → IsOn key path
    -- its first children are done
    pub so_far : (key i j child : ℕ) → mark_of marks key ≡ Open i → j < i → slice_get (links key) j ≡ Some child
        → mark_of marks child ≡ Done
    pub done : (key : ℕ) → mark_of marks key ≡ Done → ¬ HasCycle links key
    pub rooted : ¬ (mark_of marks root ≡ New)

  -- what a step tells
  abbrev pub Tells : List SearchMark → List ℕ → ℕ → List SearchMark → ℕ → List ℕ → SearchStep → Type 0
  Tells marks path key marks' key' path' On =
      IsSearch marks' (trail key' path') × (left links marks' path' < left links marks path)
  Tells marks path key marks' key' path' Found = HasCycle links root
  Tells marks path key marks' key' path' Ended = ¬ HasCycle links root
