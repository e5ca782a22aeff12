use Rattle.std.proofs.Common.{◌≡◌, All, Option, Bor, IfOk, sym, subst}
use Rattle.std.specs.Option.{option_copied}
use Rattle.flat_drawable.specs.Drawable.{IsDrawable}
use Rattle.flat_scene.specs.declared.frames.FrameOut.{FrameOut}
use Rattle.flat_texts.specs.Pictures.{list_of, picture_of}
use Rattle.flat_texts.proofs.picture.picture_of.Goals as goal

pub picture_of_list-requires-clause-items : goal.picture_of_list-requires-clause-items
picture_of_list-requires-clause-items g c κs within =
    let P : Option (Bor FrameOut) → Type 0 = λ last. All IsDrawable (list_of (option_copied last)) in
    subst P c.in-Some.is c.requires.items

pub returns-in-None : goal.returns-in-None
returns-in-None g c =
    let P : Option (Bor FrameOut) → Type 0 = λ last. IfOk c.black_text.result (λ text. text ≡ picture_of c.args.setup.now (option_copied last)) in
    subst P (sym c.in-None.is) c.black_text.ensures
