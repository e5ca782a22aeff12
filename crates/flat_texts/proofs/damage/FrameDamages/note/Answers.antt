use Rattle.std.proofs.Common.{◌≡◌, ◌∙◌, List, [], ◌∷◌, ◌++◌, refl, sym, ap, subst}
use Rattle.std.specs.Option.{option_copied}
use Rattle.flat_scene.specs.declared.frames.DrawItem.{DrawItem}
use Rattle.flat_damage.specs.Damage.{IsDamage}
use Rattle.flat_texts.specs.declared.damage.FrameDamage.{FrameDamage}
use Rattle.flat_texts.specs.Damages.{AreDamaged}
use Rattle.flat_texts.specs.Pictures.{list_of}
use Rattle.flat_texts.proofs.Damaging.{shown_after, shown-of, damaged-more}
use Rattle.flat_texts.proofs.damage.FrameDamages.note.Goals as goal

pub returns : goal.returns
returns c = λ frames were.
    let frame = c.args.frame.now in
    let one : FrameDamage = record { frame = frame.frame; rects = c.in_ok-rects.rects } in
    let shown : list_of (option_copied c.as_ref.result) ≡ shown_after [] frames = ap list_of (c.as_ref.ensures.value ∙ were.last) ∙ sym (shown-of frames) in
    let I : List DrawItem → Type 0 = λ before. IsDamage before frame.items one.rects in
    let D : List FrameDamage → Type 0 = AreDamaged [] (frames ++ frame ∷ []) in
    subst D (sym c.in_ok-push.ensures.items) (damaged-more [] frames frame one _ refl (subst I shown c.in_ok-rects.ensures) were.damaged)
