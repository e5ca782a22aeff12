use Rattle.std.proofs.Common.{◌≡◌, ℕ, ◌+◌, ◌<◌, List, [], ◌∷◌, ◌++◌, length, get_or, take, map, ap, sym, ◌∙◌}
use Rattle.std.proofs.lemmas.List.{take_more, map-append}
use Rattle.std.proofs.lemmas.List.Elements.{filter-append}
use Rattle.flat_scene.specs.declared.frames.LostDisplay.{LostDisplay}
use Rattle.flat_lines.specs.FrameLines.{lost_line, lost_at}
use Rattle.flat_page.proofs.lemmas.PageLemmas.{then_lines, same_lines}
use Rattle.flat_lines.proofs.frame_words.push_losses.Goals as goal

one_more : (n : ℕ) (xs : List LostDisplay) (i : ℕ) (d : LostDisplay) → i < length xs
    → map lost_line (lost_at n (take (i + 1) xs)) ≡ map lost_line (lost_at n (take i xs)) ++ map lost_line (lost_at n (get_or xs i d ∷ []))
one_more n xs i d within =
    ap (λ ls. map lost_line (lost_at n ls)) (take_more xs i d within) ∙ ap (map lost_line) (filter-append _ (take i xs) (get_or xs i d ∷ []))
    ∙ map-append lost_line (lost_at n (take i xs)) (lost_at n (get_or xs i d ∷ []))

pub loop-one-preserved : goal.loop-one-preserved
loop-one-preserved c =
    same_lines (sym (one_more c.args.number c.args.lost.now c.loop-one.one-index _ c.loop-one-test.true))
    (then_lines c.loop-one.invariant c.in_ok-push_lost_at.ensures)
