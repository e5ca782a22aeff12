use Rattle.std.proofs.Common.{List, Option, ◌++◌, ◌∙◌, ap, subst, option_map}
use Rattle.flat_scene.specs.declared.frames.FrameOut.{FrameOut}
use Rattle.flat_report.specs.declared.item_lines.ItemChunk.{ItemChunk}
use Rattle.flat_report.specs.FrameTexts.{unchanged, tree_text}
use Rattle.flat_report.specs.ItemLines.{HaveLines, items_of, stretches_text}
use Rattle.flat_report.proofs.Texting.{one-text-more}
use Rattle.flat_report.proofs.frame_texts.FrameTexts.push_unchanged.Goals as goal

pub returns : goal.returns
returns c = λ frames last were is.
    let script = c.args.script.now in
    let old = c.args.self.now in
    let L : Option FrameOut → Type 0 = λ frame. HaveLines script (items_of frame) old.last.stretches.items in
    one-text-more script frames (unchanged c.args.number c.args.tree last) old _ c.in_ok-text.text were c.in_ok-push.ensures.items
    (c.in_ok-text.ensures ∙ ap (λ (stretches : List ItemChunk). stretches_text stretches ++ tree_text script c.args.tree) c.as_slice.ensures.value)
    (c.unchanged.ensures ∙ ap (option_map (unchanged c.args.number c.args.tree)) (c.take.ensures.value ∙ were.last ∙ is))
    (subst L (were.last ∙ is) were.lines)
