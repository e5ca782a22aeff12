use Rattle.std.proofs.Common.{ℕ, zero, suc, ◌≡◌, ◌+◌, ◌∙◌, ◌++◌, ◌∷◌, [], List, Option, None, length, get_or, ap, refl}
use Rattle.std.proofs.lemmas.List.{length_push}
use Rattle.flat_reuse.proofs.follow.empty.Goals as goal

-- one empty slot more
none_more : {X : Type 0} (slots : List (Option X)) (k : ℕ) → ((j : ℕ) → get_or slots j None ≡ None) → get_or (slots ++ None ∷ []) k None ≡ None
none_more [] zero all = refl
none_more [] (suc k) all = refl
none_more (slot ∷ slots) zero all = all 0
none_more (slot ∷ slots) (suc k) all = none_more slots k (λ j. all (suc j))

pub loop-preserved : goal.loop-preserved
loop-preserved c = record {
  size = ap length c.in_ok-push.ensures.items ∙ length_push c.loop.slots.items None ∙ ap (λ n. n + 1) c.loop.invariant.size;
  none = λ k. ap (λ slots. get_or slots k None) c.in_ok-push.ensures.items ∙ none_more c.loop.slots.items k c.loop.invariant.none;
}
