-- Pieces, one behind another.
use Rattle.std.proofs.Common.{◌≡◌, ◌+◌, ◌<◌, ℕ, List, [], ◌∷◌, ◌++◌, length, map, take, get_or, sym, ap, ◌∙◌, append-nil, append_assoc}
use Rattle.std.specs.List.{concat}
use Rattle.std.proofs.lemmas.List.{map-append, take_more}
use Rattle.std.proofs.lemmas.List.Folds.{concat-append}

-- one run more
pub run-more : {A : Type 0} (text : A → List ℕ) (old new : List A) (run : A) → new ≡ old ++ run ∷ [] → concat (map text new) ≡ concat (map text old) ++ text run
run-more text old new run is =
    ap (λ rs. concat (map text rs)) is ∙ ap concat (map-append text old (run ∷ [])) ∙ concat-append (map text old) (text run ∷ [])
    ∙ ap (λ t. concat (map text old) ++ t) (append-nil (text run))

-- a loop over runs that puts each
pub one-run-more : {A : Type 0} (text : A → List ℕ) (runs : List A) (i : ℕ) (d : A) (start was now : List ℕ) → i < length runs
    → was ≡ start ++ concat (map text (take i runs)) → now ≡ was ++ text (get_or runs i d)
    → now ≡ start ++ concat (map text (take (i + 1) runs))
one-run-more text runs i d start was now within so_far put =
    let one = get_or runs i d in
    put ∙ ap (λ t. t ++ text one) so_far ∙ append_assoc start (concat (map text (take i runs))) (text one)
    ∙ ap (λ t. start ++ t) (sym (run-more text (take i runs) (take (i + 1) runs) one (take_more runs i d within)))
