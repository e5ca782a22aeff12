use Rattle.std.proofs.Common.{◌≡◌, ◌∙◌, List, [], ◌∷◌, ◌++◌, refl, sym, ap, subst, option_map}
use Rattle.flat_scene.specs.declared.frames.DrawItem.{DrawItem}
use Rattle.flat_scene.specs.declared.frames.FrameOut.{FrameOut}
use Rattle.flat_damage.specs.Damage.{IsDamage}
use Rattle.flat_page.proofs.lemmas.LastItems.{last-more}
use Rattle.flat_report.specs.FrameTexts.{unchanged}
use Rattle.flat_texts.specs.declared.damage.FrameDamage.{FrameDamage}
use Rattle.flat_texts.specs.Damages.{AreDamaged}
use Rattle.flat_texts.specs.Pictures.{list_of}
use Rattle.flat_texts.proofs.Damaging.{damaged-more, no-damage, shown_after, shown-of}
use Rattle.flat_texts.proofs.damage.FrameDamages.push_unchanged.Goals as goal

pub returns : goal.returns
returns c = λ frames last were is.
    let frame : FrameOut = unchanged c.args.number c.args.tree last in
    let one : FrameDamage = record { frame = c.args.number; rects = c.new.result } in
    let shown : last.items ≡ shown_after [] frames = sym (shown-of frames ∙ ap list_of is) in
    let I : List DrawItem → Type 0 = λ before. IsDamage before frame.items one.rects in
    let D : List FrameDamage → Type 0 = AreDamaged [] (frames ++ frame ∷ []) in
    record {
      damaged = subst D (sym c.in_ok-push.ensures.items) (damaged-more [] frames frame one _ refl (subst I shown (no-damage last.items one.rects c.new.ensures))
          were.damaged);
      last = c.unchanged.ensures ∙ ap (option_map (unchanged c.args.number c.args.tree)) (c.take.ensures.value ∙ were.last ∙ is) ∙ sym (last-more frames frame);
    }
