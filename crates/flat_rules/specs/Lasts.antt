-- the last of a list
use Rattle.std.specs.Prelude.{List, [], ◌∷◌, Option, Some}

-- the last of the items, or what stands where there is none
abbrev pub last_from : {A : Type 0} → Option A → List A → Option A
last_from standing [] = standing
last_from standing (x ∷ xs) = last_from (Some x) xs
