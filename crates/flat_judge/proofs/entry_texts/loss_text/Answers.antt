use Rattle.std.proofs.Common.{◌≡◌, ◌==◌, true, List, [], ◌∷◌, map, refl, ap, ◌∙◌}
use Rattle.std.proofs.lemmas.Bool.{eq-eqb}
use Rattle.flat_scene.specs.declared.frames.LostDisplay.{LostDisplay}
use Rattle.flat_page.specs.Words.{text_of}
use Rattle.flat_page.proofs.lemmas.PageLemmas.{all-put}
use Rattle.flat_lines.specs.FrameLines.{lost_at, lost_line}
use Rattle.flat_judge.proofs.entry_texts.loss_text.Goals as goal

pub returns : goal.returns
returns c =
    let one : LostDisplay = c.args.one in
    let same : (one.frame.0 == one.frame.0) ≡ true = eq-eqb one.frame.0 one.frame.0 refl in
    let here : lost_at one.frame.0 (one ∷ []) ≡ one ∷ [] = rw same refl in
    c.into_text.ensures ∙ all-put _ _ _ c.new-page.ensures c.in_ok-push_losses.ensures.text ∙ ap (λ (ls : List LostDisplay). text_of (map lost_line ls)) here
