use Rattle.std.proofs.Common.{◌≡◌, ◌∷◌, ◌++◌, [], sym, ap, refl, subst, ◌∙◌}
use Rattle.flat_prog.proofs.Saying.{says_by}
use Rattle.flat_prog.proofs.status.answer.OwnLists.{own-1}
use Rattle.flat_prog.proofs.status.answer.Goals as goal

-- A box of a tally is seen through the table of a tally's methods, which counts no fault of any value.
pub returns-clause-says : goal.returns-clause-says
returns-clause-says g c =
    says_by _ _ _ c.into_dyn_box.result (λ x same. subst (λ place. (v : (own-1.entry place).0.Denot) → (own-1.entry place).1.faults v ≡ 0)
    (sym (same ∙ c.into_dyn_box.ensures.0)) (λ v. refl) x.value) _ _ _ _ _ _ _ _
    (c.in_ok-push.ensures.items ∙ ap (λ xs. xs ++ c.into_dyn_box.result ∷ []) c.new-displays.ensures.items) c.flatland.ensures.serves
