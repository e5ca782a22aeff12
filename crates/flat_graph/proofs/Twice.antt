-- Whether an id stands twice in a list, looked for from the front.
use Rattle.std.proofs.Common.{ℕ, ◌+◌, ◌-◌, ◌<◌, ◌≡◌, refl, sym, ◌∙◌, ap, Bool, List, [], ◌∷◌, take, drop, map, length, get_or, arith}
use Rattle.std.specs.Prelude.{◌==◌, ◌||◌}
use Rattle.std.specs.List.{list_any}
use Rattle.std.proofs.lemmas.List.{drop_more, take_all, length-drop}
use Rattle.flat_base.specs.declared.ids.TransformId.{TransformId}
use Rattle.flat_scene.specs.Misuse.{has_twice}

-- an id stands twice among these
abbrev pub are_twice : List TransformId → Bool
are_twice ids = has_twice (map (λ (id : TransformId). id.0) ids)

-- a number among ids
pub any-id : (x : ℕ) (ids : List TransformId) → list_any (λ y. x == y) (map (λ (id : TransformId). id.0) ids) ≡ list_any (λ (id : TransformId). x == id.0) ids
any-id x [] = refl
any-id x (id ∷ ids) = ap (λ (later : Bool). (x == id.0) || later) (any-id x ids)

-- the id of a place stands once more behind it, or two that are behind it are one
pub twice-step : (ids : List TransformId) (place : ℕ) (d : TransformId) (found : Bool) → place < length ids
    → found ≡ list_any (λ (id : TransformId). (get_or ids place d).0 == id.0) (take (length ids - (place + 1)) (drop (place + 1) ids))
    → are_twice (drop place ids) ≡ (found || are_twice (drop (place + 1) ids))
twice-step ids place d found within is =
    let behind : List TransformId = drop (place + 1) ids in
    let all : take (length ids - (place + 1)) behind ≡ behind = take_all (length ids - (place + 1)) behind (omega (arith, length-drop (place + 1) ids)) in
    ap are_twice (drop_more ids place d within) ∙ ap (λ (later : Bool). later || are_twice behind)
    (any-id (get_or ids place d).0 behind ∙ sym (is ∙ ap (list_any (λ (id : TransformId). (get_or ids place d).0 == id.0)) all))
