-- What is known, before and after a call, of the bytes that a source has left or a sink holds, and of the frames
-- that a display had.
use Rattle.std.specs.Prelude.{◌≡◌, ⊤, List, ◌++◌, Option, None, Some}

-- Where they are told after a call, they were told before it too, and stand in this relation.
abbrev pub WhereTold : {A : Type 0} → Option (List A) → Option (List A) → (List A → List A → Type 0) → Type 0
WhereTold before None R = ⊤
WhereTold None (Some after) R = ⊥
WhereTold (Some before) (Some after) R = R before after

-- these came behind what was there
abbrev pub Appends : {A : Type 0} → List A → Option (List A) → Option (List A) → Type 0
Appends more held held' = WhereTold held held' (λ before after. after ≡ before ++ more)
