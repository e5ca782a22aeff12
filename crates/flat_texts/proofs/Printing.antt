-- Loops that write lines.
use Rattle.std.proofs.Common.{◌≡◌, ℕ, ◌+◌, ◌<◌, List, [], ◌∷◌, ◌++◌, sym, ap, ◌∙◌, subst, append-nil, take, length, get_or}
use Rattle.std.specs.List.{flat_map}
use Rattle.std.proofs.lemmas.List.{take_more}
use Rattle.std.proofs.lemmas.Grind.{flat_map-append}
use Rattle.flat_places.specs.Forms.{Word}
use Rattle.flat_page.specs.Pages.{WritesLines}
use Rattle.flat_page.proofs.lemmas.PageLemmas.{same_lines, then_lines}

-- a loop over items that writes some lines for each
pub more_groups : {A : Type 0} (f : A → List (List Word)) (xs : List A) (i : ℕ) (d : A) {old mid new : List ℕ} → i < length xs
    → WritesLines (flat_map f (take i xs)) old mid → WritesLines (f (get_or xs i d)) mid new
    → WritesLines (flat_map f (take (i + 1) xs)) old new
more_groups f xs i d within first second =
    same_lines (sym (ap (flat_map f) (take_more xs i d within) ∙ flat_map-append f (take i xs) (get_or xs i d ∷ [])
    ∙ ap (λ t. flat_map f (take i xs) ++ t) (append-nil (f (get_or xs i d)))))
    (then_lines first second)

-- the same, where the item is known by its place
pub more_groups_at : {A : Type 0} (f : A → List (List Word)) (xs : List A) (i : ℕ) (x : A) {old mid new : List ℕ} → x ≡ get_or xs i x → i < length xs
    → WritesLines (flat_map f (take i xs)) old mid → WritesLines (f x) mid new
    → WritesLines (flat_map f (take (i + 1) xs)) old new
more_groups_at f xs i x {mid = mid} {new = new} is within first second = more_groups f xs i x within first (subst (λ y. WritesLines (f y) mid new) is second)
