-- The names of transforms, by rising id.
use Rattle.std.specs.Prelude.{ℕ, zero, suc, ◌<◌, ◌≤◌, ◌≡◌, cond, not, nat_lt, ◌==◌, List, [], ◌∷◌, filter, Option, Some}
use Rattle.std.specs.Prelude.{None}
use Rattle.std.specs.List.{filter_map}
use Rattle.flat_base.specs.declared.ids.TransformId.{TransformId}
use Rattle.flat_graph.specs.declared.names.NamedNode.{NamedNode}

-- the key that an id names
abbrev pub key_named : List NamedNode → ℕ → Option ℕ
key_named [] id = None
key_named (name ∷ names) id = cond (name.id == id) (Some name.key) (key_named names id)

-- the keys that ids name, in the order of the ids
abbrev pub keys_named : List NamedNode → List TransformId → List ℕ
keys_named names = filter_map (λ (id : TransformId). key_named names id.0)

-- the key of a name, if it is the name of that id
abbrev pub key_if : ℕ → Option NamedNode → Option ℕ
key_if id None = None
key_if id (Some name) = cond (name.id == id) (Some name.key) None

-- the names but for that of an id
abbrev pub names_but : ℕ → List NamedNode → List NamedNode
names_but id = filter (λ name. not (name.id == id))

-- the names with one more, before the first that has a greater id
abbrev pub names_with : NamedNode → List NamedNode → List NamedNode
names_with name [] = name ∷ []
names_with name (other ∷ names) = cond (nat_lt name.id other.id) (name ∷ other ∷ names) (other ∷ names_with name names)

-- all ids are above this one
abbrev pub IsBelowAll : ℕ → List NamedNode → Type 0
IsBelowAll id [] = Unit {0}
IsBelowAll id (name ∷ names) = (id < name.id) × IsBelowAll id names

-- each id is below those after it
abbrev pub IsRising : List NamedNode → Type 0
IsRising [] = Unit {0}
IsRising (name ∷ names) = IsBelowAll name.id names × IsRising names

-- where an id belongs among names: those before have lower ids, and the next one, if there is one, has not
abbrev pub IsPlace : ℕ → List NamedNode → ℕ → Type 0
IsPlace id [] place = place ≡ 0
IsPlace id (name ∷ names) zero = id ≤ name.id
IsPlace id (name ∷ names) (suc place) = (name.id < id) × IsPlace id names place
