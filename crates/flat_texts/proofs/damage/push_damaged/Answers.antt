use Rattle.std.proofs.Common.{ℕ, List, [], ◌∷◌, map, subst}
use Rattle.std.specs.Prelude.{codes}
use Rattle.flat_base.specs.declared.shapes.Rect.{Rect}
use Rattle.flat_page.proofs.lemmas.PageLemmas.{then_lines}
use Rattle.flat_page.specs.Pages.{WritesLines}
use Rattle.flat_page.specs.Words.{number}
use Rattle.flat_places.specs.Forms.{Word}
use Rattle.flat_texts.specs.Damages.{rect_line}
use Rattle.flat_texts.proofs.damage.push_damaged.Goals as goal

-- the first line of a frame with so many rectangles
abbrev head : ℕ → ℕ → List (List Word)
head frame rects = (codes "damage" ∷ codes "frame" ∷ number frame ∷ codes "rects" ∷ number rects ∷ []) ∷ []

pub returns : goal.returns
returns c =
    let H : ℕ → Type 0 = λ rects. WritesLines (head c.args.one.now.frame.0 rects) c.args.page.now c.push_head.new.page in
    let R : List Rect → Type 0 = λ rects. WritesLines (map rect_line rects) c.push_head.new.page c.push_rects.new.page in
    then_lines (subst H c.len.ensures c.in_ok-push_head.ensures) (subst R c.as_slice.ensures c.in_ok-push_rects.ensures)
