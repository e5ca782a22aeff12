-- What a publish leaves, where it was done and where it was refused.
use Rattle.std.proofs.Common.{◌≡◌, ◌⊎◌, List, [], ◌∷◌, ◌++◌, length, drop, Result, Ok, Err, OnOk, OnErr, inl, inr, refl, ap, sym, ◌∙◌, subst, append_assoc}
use Rattle.std.proofs.Common.{le_refl, ℕ, Some}
use mathlib.Core.List.{IsPrefix}
use Rattle.flat_publish.specs.declared.frame.Frame.{Frame}
use Rattle.flat_publish.proofs.lemmas.Beginnings.{prefix_self, prefix_trans, prefix_rest, drop_whole, drop_more}

pub on_ok : {X E : Type 0} (r : Result X E) {A B : Type 0} → (A → B) → OnOk r A → OnOk r B
on_ok (Ok x) f a = f a
on_ok (Err e) f a = tt

pub on_err : {X E : Type 0} (r : Result X E) {A B : Type 0} → (A → B) → OnErr r A → OnErr r B
on_err (Ok x) f a = tt
on_err (Err e) f a = f a

pub on_both : {X E : Type 0} (r : Result X E) {A B C : Type 0} → OnOk r A → OnOk r B → OnErr r C → (A × B) ⊎ C
on_both (Ok x) a b c = inl (a, b)
on_both (Err e) a b c = inr c

-- what is published begins the book: xs of ys
module _ (xs ys zs : List Frame) (f : Frame) (begins : IsPrefix xs ys) (added : zs ≡ ys ++ f ∷ []) where
  pub all_published : zs ≡ xs ++ drop (length xs) ys ++ f ∷ []
  all_published = added ∙ ap (λ (l : List Frame). l ++ f ∷ []) (prefix_rest xs ys begins)

  pub refused_more : drop (length xs) zs ≡ drop (length xs) ys ++ f ∷ []
  refused_more = ap (drop (length xs)) added ∙ drop_more xs ys (f ∷ []) begins

  pub still_begins : IsPrefix xs zs
  still_begins = prefix_trans xs ys zs begins (f ∷ [], sym added)
