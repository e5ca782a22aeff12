use Rattle.flat_play.proofs.lemmas.Places.{setup_is}
use Rattle.flat_run.proofs.Written.{last-drawn, wide, high}
use Rattle.std.proofs.Common.{◌≡◌, Option, IfOk, subst}
use Rattle.flat_scene.specs.declared.frames.FrameOut.{FrameOut}
use Rattle.flat_texts.specs.Pictures.{picture_of}
use Rattle.flat_run.proofs.texts.last_picture.Goals as goal

pub picture_of-requires-clause-items : goal.picture_of-requires-clause-items
picture_of-requires-clause-items g c κs within = last-drawn c.items_are_drawable.ensures c.args.script.now.setup c.args.played.now.board.history _
    (c.last.ensures c.args.script.now _ c.requires.played.keeps)

pub picture_of-requires-clause-width : goal.picture_of-requires-clause-width
picture_of-requires-clause-width g c κs within = wide c.args.script.now.setup (setup_is c.args.script.now c.requires.playable)

pub picture_of-requires-clause-height : goal.picture_of-requires-clause-height
picture_of-requires-clause-height g c κs within = high c.args.script.now.setup (setup_is c.args.script.now c.requires.playable)

pub returns : goal.returns
returns g c =
    let script = c.args.script.now in
    let P : Option FrameOut → Type 0 = λ last. IfOk c.picture_of.result (λ text. text ≡ picture_of script.setup last) in
    subst P (c.last.ensures script _ c.requires.played.keeps) c.picture_of.ensures
