-- One step of a loop that appends what some items give.
use Rattle.std.proofs.Common.{ℕ, ◌+◌, ◌<◌, ◌≡◌, refl, ap, ◌∙◌, List, [], ◌∷◌, ◌++◌, length, take, get_or, Option, Some, None, option_to_list}
use Rattle.std.specs.List.{filter_map}
use Rattle.std.proofs.lemmas.List.{take_more}
use Rattle.std.proofs.lemmas.List.Elements.{filter_map-append}

one-given : {X Y : Type 0} (f : X → Option Y) (x : X) (y : Option Y) → f x ≡ y → filter_map f (x ∷ []) ≡ option_to_list (f x)
one-given f x None e = rw e refl
one-given f x (Some y) e = rw e refl

pub given-more : {X Y : Type 0} (f : X → Option Y) (xs : List X) (i : ℕ) (x : X) → i < length xs → x ≡ get_or xs i x
    → filter_map f (take (i + 1) xs) ≡ filter_map f (take i xs) ++ option_to_list (f x)
given-more f xs i x within is =
    ap (filter_map f) (rw (← is) at (take_more xs i x within)) ∙ filter_map-append f (take i xs) (x ∷ [])
    ∙ ap (λ ys. filter_map f (take i xs) ++ ys) (one-given f x (f x) refl)
