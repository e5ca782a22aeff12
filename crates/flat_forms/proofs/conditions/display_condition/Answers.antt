use Rattle.std.proofs.Common.{◌∙◌, sym}
use Rattle.flat_base.specs.declared.ids.Actor.TheVariants.{Display}
use Rattle.flat_scene.specs.declared.script.WaitCondition.TheVariants as asks
use Rattle.flat_text.specs.Pieces.{is_space}
use Rattle.flat_text.specs.Left.{pieces_left}
use Rattle.flat_places.specs.Places.{fence}
use Rattle.flat_forms.proofs.lemmas.FormLemmas.{whole_failed}
use Rattle.flat_forms.proofs.conditions.display_condition.Goals as goal

pub returns-in-Err : goal.returns-in-Err
returns-in-Err c =
    let presents = sym c.is_word.ensures ∙ c.if-is_word.false in
    let named = sym c.is_word-2.ensures ∙ c.if-is_word-2.true in
    rw (c.in-Some.is, c.next_piece.ensures, presents, named)
    (sym (whole_failed (λ f. asks.Fence f) (fence c.args.script.now.script Display) (pieces_left is_space c.next_piece.result.1) c.in-Err.k
    (sym c.owned_fence.ensures ∙ c.in-Err.is)))
