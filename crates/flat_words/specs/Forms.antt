-- the words that call the service
use Rattle.std.specs.Prelude.{◌≡◌, ⊤, ℕ, ◌≤◌, List, [], ◌∷◌, codes}
use Rattle.std.specs.Fmt.{decimal}
use Rattle.flat_base.specs.declared.limits.TheConstants.{LOAD_FRAMES_MAX}
use Rattle.flat_words.specs.declared.service_word.ServiceWord.{ServiceWord}
use Rattle.flat_words.specs.declared.service_word.ServiceWord.TheVariants.{Play, Race, Stress, Render, Damage, Focus}
use Rattle.flat_words.specs.declared.service_word.ServiceWord.TheVariants.{Pointer, Judge, Why, Film}

-- how a form is written
abbrev pub words_of : ServiceWord → List (List ℕ)
words_of Play = codes "play" ∷ []
words_of Race = codes "race" ∷ []
words_of (Stress frames) = codes "stress" ∷ decimal frames ∷ []
words_of Render = codes "render" ∷ []
words_of Damage = codes "damage" ∷ []
words_of Focus = codes "focus" ∷ []
words_of Pointer = codes "pointer" ∷ []
words_of Judge = codes "judge" ∷ []
words_of Why = codes "why" ∷ []
words_of Film = codes "film" ∷ []

-- A load has at least one frame, and no more than are allowed.
abbrev pub IsAllowed : ServiceWord → Type 0
IsAllowed (Stress frames) = (1 ≤ frames) × (frames ≤ LOAD_FRAMES_MAX)
IsAllowed _ = ⊤

-- The words call for a form.
abbrev pub CallFor : List (List ℕ) → ServiceWord → Type 0
CallFor words form = (words ≡ words_of form) × IsAllowed form
