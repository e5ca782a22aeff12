use Rattle.std.proofs.Common.{List, ◌++◌, ◌∙◌, ap, refl, subst}
use Rattle.flat_scene.specs.declared.frames.DrawItem.{DrawItem}
use Rattle.flat_report.specs.declared.item_lines.ItemChunk.{ItemChunk}
use Rattle.flat_report.specs.FrameTexts.{tree_text}
use Rattle.flat_report.specs.ItemLines.{HaveLines, stretches_text}
use Rattle.flat_report.proofs.Texting.{one-text-more}
use Rattle.flat_report.proofs.frame_texts.FrameTexts.push.Goals as goal

pub returns : goal.returns
returns c = λ frames were.
    let script = c.args.script.now in
    let L : List DrawItem → Type 0 = λ items. HaveLines script items c.in_ok-stretches.stretches.items in
    one-text-more script frames c.args.frame c.args.self.now _ c.in_ok-text.text were c.in_ok-push.ensures.items
    (c.in_ok-text.ensures ∙ ap (λ (stretches : List ItemChunk). stretches_text stretches ++ tree_text script c.args.frame.tree) c.as_slice-2.ensures.value) refl
    (subst L c.as_slice.ensures (c.in_ok-stretches.ensures were.lines))
