-- One frame more is written.
use Rattle.std.proofs.Common.{◌≡◌, ℕ, List, [], ◌∷◌, ◌++◌, map, Option, Some, sym, ap, ◌∙◌, subst, append_assoc}
use Rattle.std.proofs.lemmas.List.{map-append}
use Rattle.flat_scene.specs.declared.frames.FrameOut.{FrameOut}
use Rattle.flat_places.specs.declared.script.Script.{Script}
use Rattle.flat_page.specs.Words.{text_of}
use Rattle.flat_page.proofs.lemmas.LastItems.{last-more}
use Rattle.flat_report.specs.declared.frame_texts.FrameTexts.{FrameTexts}
use Rattle.flat_lines.specs.FrameLines.{item_line, view_line, apart_line}
use Rattle.flat_report.specs.FrameTexts.{AreTexts, frame_text, tree_text}
use Rattle.flat_report.specs.ItemLines.{HaveLines, items_of, items_text, stretches_text}
use Rattle.flat_report.proofs.ItemLines.{text-behind}

-- the text of a frame is that of its items, and behind it that of its view tree
pub frame-parts : (script : Script) (frame : FrameOut) → frame_text script frame ≡ items_text script frame.items ++ tree_text script frame.tree
frame-parts script frame =
    let items = map (item_line script) frame.items in
    let views = map (view_line script) frame.tree.nodes in
    let aparts = map (apart_line script) frame.tree.apart in
    ap text_of (append_assoc items views aparts) ∙ text-behind items (views ++ aparts)

pub one-text-more : (script : Script) (frames : List FrameOut) (frame : FrameOut) (old new : FrameTexts) (text : List ℕ) → AreTexts script frames old
    → new.texts.items ≡ old.texts.items ++ text ∷ []
    → text ≡ stretches_text new.last.stretches.items ++ tree_text script frame.tree → new.last.frame ≡ Some frame
    → HaveLines script frame.items new.last.stretches.items → AreTexts script (frames ++ frame ∷ []) new
one-text-more script frames frame old new text were push is last lines = record {
  texts =
      push
      ∙ ap (λ (t : List ℕ). old.texts.items ++ t ∷ []) (is ∙ ap (λ t. t ++ tree_text script frame.tree) lines.all ∙ sym (frame-parts script frame))
      ∙ ap (λ ts. ts ++ frame_text script frame ∷ []) were.texts
      ∙ sym (map-append (frame_text script) frames (frame ∷ []));
  last = last ∙ sym (last-more frames frame);
  lines = subst (λ (f : Option FrameOut). HaveLines script (items_of f) new.last.stretches.items) (sym last) lines;
}
