-- The first hit of each session, one hit after another.
use Rattle.std.specs.Prelude.{ℕ, Bool, ◌==◌, if◌then◌else◌, List, [], ◌∷◌, Option, Some, None}
use Rattle.std.specs.List.{list_any}
use Rattle.flat_scene.specs.declared.frames.Hit.{Hit}

-- whether a session has a hit
abbrev pub is_hit : List Hit → ℕ → Bool
is_hit hits s = list_any (λ hit. hit.session.0 == s) hits

-- a hit, if its session has none yet
abbrev pub if_new : List Hit → Option Hit → List Hit
if_new hits None = []
if_new hits (Some hit) = if is_hit hits hit.session.0 then [] else hit ∷ []
